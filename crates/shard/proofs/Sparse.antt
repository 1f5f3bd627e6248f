-- The groups with a live key, in the order in which they go.
use Rattle.std.proofs.Common.{zero, suc, ◌≡◌, ℕ, ◌<◌, ◌≤◌, ◌⊎◌, Bool, true, false, cond, List, [], ◌∷◌, length, map, remove, Some, get_or, slice_get, ◌∙◌, ap, sym, subst, refl, inl, inr, arith, eqb, eq-eqb, lt-ltb, ltb-true, option_map, rules}
use Rattle.std.specs.Cmp.{IsTotalOrder, nat_cmp_total}
use Rattle.std.specs.List.{IsDistinct, filter}
use Rattle.std.specs.List.Sorted.{IsPermutation, IsSortedByKey}
use Rattle.std.specs.Ordering.{is_lt, nat_cmp, ordering_then}
use Rattle.std.specs.declared.cmp.Ordering.{Ordering}
use Rattle.std.proofs.lemmas.Bool.{cases_Bool, cases_eq, cases_lt, ne_eqb, true≢false}
use Rattle.std.proofs.lemmas.Cmp.{by_ranked, on_total, ranked, then_total}
use Rattle.std.proofs.lemmas.List.Sorted.{Contains-permutation, IsPermutation-sym, ranks_by, sorted_far}
use Rattle.std.proofs.lemmas.Map.Keys.{IsDistinct-IsPermutation, IsDistinct-from_apart, apart_from_distinct, ge_from_not_lt}
use Rattle.std.proofs.lemmas.Option.{get_or_from_slice_get, slice_get-map, slice_get_read, slice_get_within}
use Rattle.span.specs.Ids.{rank}
use Rattle.groups.proofs.Lists.{before-map, same_some, there_at}
use Rattle.groups.proofs.Removed.{after-remove, before-remove}
use Rattle.groups.specs.Group.{Ascend}
use Rattle.shard.specs.Group.{GroupState}
use Rattle.shard.specs.Sparse.{AreSparsestFirst, HasNoLive, IsSparsest, IsToldBefore, live_of, told_of}
use Rattle.shard.specs.Telling.{AreInOrder, is_live}
use Rattle.shard.specs.declared.shard.retiring.LiveGroup.{LiveGroup}

-- ---- the sort

-- what the sort compares
abbrev pub key_of : LiveGroup → ℕ × ℕ
key_of group = (group.live, rank group.head)

abbrev pub key_cmp : ℕ × ℕ → ℕ × ℕ → Ordering
key_cmp a b = ordering_then (nat_cmp a.0 b.0) (nat_cmp a.1 b.1)

key_total : IsTotalOrder key_cmp
key_total = then_total (on_total (λ (k : ℕ × ℕ). k.0) nat_cmp_total) (on_total (λ (k : ℕ × ℕ). k.1) nat_cmp_total)

pub in_order : (a b c d : ℕ) → is_lt (ordering_then (nat_cmp b a) (nat_cmp d c)) ≡ false → (a < b) ⊎ ((a ≡ b) × (c ≤ d))
in_order a b c d h = search (rules, by_ranked, ranked, true≢false, ge_from_not_lt)

pub AreInOrder-sorted : (told : List LiveGroup) → IsSortedByKey key_of key_cmp told → AreInOrder told
AreInOrder-sorted told sorted low high a b less at_low at_high =
    let far = sorted_far (λ (x y : LiveGroup). is_lt (key_cmp (key_of x) (key_of y))) (ranks_by key_total key_of) told sorted low high a (omega arith) (slice_get_within told high b at_high) in
    in_order a.live b.live (rank a.head) (rank b.head)
    (ap (λ (x : LiveGroup). is_lt (key_cmp (key_of b) (key_of x))) (sym (get_or_from_slice_get told low a a at_low))
    ∙ ap (λ (x : LiveGroup). is_lt (key_cmp (key_of x) (key_of (get_or told low a)))) (sym (get_or_from_slice_get told high b a at_high)) ∙ far)

-- ---- a filter

pub filter-yes : {X : Type 0} (p : X → Bool) (x : X) (xs : List X) → p x ≡ true → filter p (x ∷ xs) ≡ x ∷ filter p xs
filter-yes p x xs is = ap (λ b. cond b (x ∷ filter p xs) (filter p xs)) is

pub filter-no : {X : Type 0} (p : X → Bool) (x : X) (xs : List X) → p x ≡ false → filter p (x ∷ xs) ≡ filter p xs
filter-no p x xs is = ap (λ b. cond b (x ∷ filter p xs) (filter p xs)) is

-- what is kept stood there, and passes
pub before-filter : {X : Type 0} (p : X → Bool) (xs : List X) (at : ℕ) (x : X) → slice_get (filter p xs) at ≡ Some x → (was : ℕ) × (slice_get xs was ≡ Some x) × (p x ≡ true)
before-filter p [] at x there = absurd cc
before-filter p (y ∷ xs) at x there = elim (cases_Bool (p y)) [
  | inl is ↦ first_or_later p y xs at x is (before-filter p xs) (ap (λ zs. slice_get zs at) (sym (filter-yes p y xs is)) ∙ there)
  | inr is ↦ let rest = before-filter p xs at x (ap (λ zs. slice_get zs at) (sym (filter-no p y xs is)) ∙ there) in (suc rest.0, rest.1, rest.2)
]
  where
    first_or_later : {X : Type 0} (p : X → Bool) (y : X) (xs : List X) (at : ℕ) (x : X) → p y ≡ true
        → ((at : ℕ) (x : X) → slice_get (filter p xs) at ≡ Some x → (was : ℕ) × (slice_get xs was ≡ Some x) × (p x ≡ true))
        → slice_get (y ∷ filter p xs) at ≡ Some x → (was : ℕ) × (slice_get (y ∷ xs) was ≡ Some x) × (p x ≡ true)
    first_or_later p y xs zero x is rest here = (0, here, ap p (sym (same_some here)) ∙ is)
    first_or_later p y xs (suc at) x is rest here = let later = rest at x here in (suc later.0, later.1, later.2)

-- what passes is kept
pub after-filter : {X : Type 0} (p : X → Bool) (xs : List X) (at : ℕ) (x : X) → slice_get xs at ≡ Some x → p x ≡ true → (now : ℕ) × (slice_get (filter p xs) now ≡ Some x)
after-filter p [] at x there is = absurd cc
after-filter p (y ∷ xs) zero x there is = (0, ap (λ zs. slice_get zs 0) (filter-yes p y xs (ap p (same_some there) ∙ is)) ∙ there)
after-filter p (y ∷ xs) (suc at) x there is =
    let rest = after-filter p xs at x there is in
    elim (cases_Bool (p y)) [
      | inl yes_y ↦ (suc rest.0, ap (λ zs. slice_get zs (suc rest.0)) (filter-yes p y xs yes_y) ∙ rest.1)
      | inr no_y ↦ (rest.0, ap (λ zs. slice_get zs rest.0) (filter-no p y xs no_y) ∙ rest.1)
    ]

-- what holds of each two holds of each two that are kept
abbrev pub Pairs : {X : Type 0} → (X → X → Type 0) → List X → Type 0
Pairs {X} R xs = (low high : ℕ) (a b : X) → low < high → slice_get xs low ≡ Some a → slice_get xs high ≡ Some b → R a b

pub pairs-filter : {X : Type 0} (R : X → X → Type 0) (p : X → Bool) (xs : List X) → Pairs R xs → Pairs R (filter p xs)
pairs-filter R p [] pairs low high a b less at_low at_high = absurd cc
pairs-filter R p (x ∷ xs) pairs low high a b less at_low at_high =
    let rest : Pairs R (filter p xs) = pairs-filter R p xs (λ low high a b less at_low at_high. pairs (suc low) (suc high) a b (omega arith) at_low at_high) in
    elim (cases_Bool (p x)) [
      | inl is ↦
          by_place R p x xs low high a b (λ b at there. let was = before-filter p xs at b there in pairs 0 (suc was.0) x b (omega arith) refl was.1) rest less
          (ap (λ zs. slice_get zs low) (sym (filter-yes p x xs is)) ∙ at_low)
          (ap (λ zs. slice_get zs high) (sym (filter-yes p x xs is)) ∙ at_high)
      | inr is ↦
          rest low high a b less
          (ap (λ zs. slice_get zs low) (sym (filter-no p x xs is)) ∙ at_low)
          (ap (λ zs. slice_get zs high) (sym (filter-no p x xs is)) ∙ at_high)
    ]
  where
    by_place : {X : Type 0} (R : X → X → Type 0) (p : X → Bool) (x : X) (xs : List X) (low high : ℕ) (a b : X)
        → ((b : X) (at : ℕ) → slice_get (filter p xs) at ≡ Some b → R x b) → Pairs R (filter p xs)
        → low < high → slice_get (x ∷ filter p xs) low ≡ Some a → slice_get (x ∷ filter p xs) high ≡ Some b → R a b
    by_place R p x xs low zero a b first rest less at_low at_high = absurd (omega arith)
    by_place R p x xs zero (suc high) a b first rest less at_low at_high = subst (λ y. R y b) (same_some at_low) (first b high at_high)
    by_place R p x xs (suc low) (suc high) a b first rest less at_low at_high = rest low high a b (omega arith) at_low at_high

-- ---- what is told of a shard's groups

-- heads rise
abbrev pub Rises : LiveGroup → LiveGroup → Type 0
Rises a b = rank a.head < rank b.head

pub rises-told : (groups : List GroupState) → Ascend groups → Pairs Rises (map told_of groups)
rises-told groups ascend low high a b less at_low at_high = search (rules, before-map)

abbrev same_head : LiveGroup → LiveGroup → Bool
same_head a b = eqb (rank a.head) (rank b.head)

same_head-flip : (a b : LiveGroup) → same_head a b ≡ same_head b a
same_head-flip a b = search (rules, cases_eq, eq-eqb, ne_eqb)

distinct-rises : (told : List LiveGroup) → Pairs Rises told → IsDistinct same_head told
distinct-rises told rises = IsDistinct-from_apart same_head told (λ i j d less within.
    let a = there_at told i (omega arith) in
    let b = there_at told j within in
    ne_eqb (rank (get_or told i d).head) (rank (get_or told j d).head) (λ same.
    omega (
      arith,
      same,
      rises i j a.0 b.0 less a.1 b.1,
      ap (λ (x : LiveGroup). rank x.head) (get_or_from_slice_get told i a.0 d a.1),
      ap (λ (x : LiveGroup). rank x.head) (get_or_from_slice_get told j b.0 d b.1),
    )))

apart-distinct : (told : List LiveGroup) → IsDistinct same_head told → Pairs (λ a b. rank a.head ≡ rank b.head → ⊥) told
apart-distinct told distinct low high a b less at_low at_high same =
    let apart = apart_from_distinct same_head told low high a distinct less (slice_get_within told high b at_high) in
    let is_a = get_or_from_slice_get told low a a at_low in
    let is_b = get_or_from_slice_get told high b a at_high in
    true≢false (sym (eq-eqb (rank (get_or told low a).head) (rank (get_or told high a).head)
    (omega (arith, same, ap (λ (x : LiveGroup). rank x.head) is_a, ap (λ (x : LiveGroup). rank x.head) is_b))) ∙ apart)

pub moved : {X : Type 0} (xs ys : List X) (k : ℕ) (x : X) → IsPermutation xs ys → slice_get xs k ≡ Some x → (l : ℕ) × (slice_get ys l ≡ Some x)
moved xs ys k x permutation at =
    let there = Contains-permutation xs ys x permutation (k, slice_get_within xs k x at, get_or_from_slice_get xs k x x at) in
    (there.0, slice_get_read ys (length ys) there.0 x refl there.1 (sym there.2))

live_told : (group : GroupState) → 1 ≤ live_of group → is_live (told_of group) ≡ true
live_told group live = lt-ltb 0 (live_of group) live

told_live : (group : GroupState) → is_live (told_of group) ≡ true → 1 ≤ live_of group
told_live group is = ltb-true 0 (live_of group) is

pub AreSparsestFirst-sorted : (groups : List GroupState) (live told : List LiveGroup) → Ascend groups → live ≡ filter is_live (map told_of groups)
    → IsPermutation live told → AreInOrder told → AreSparsestFirst groups told
AreSparsestFirst-sorted groups live told ascend live_is permutation order =
    let rises : Pairs Rises live = subst (Pairs Rises) (sym live_is) (pairs-filter Rises is_live (map told_of groups) (rises-told groups ascend)) in
    let distinct = IsDistinct-IsPermutation same_head same_head-flip live told permutation (distinct-rises live rises) in
    record {
      each = λ index group there some.
          let at = after-filter is_live (map told_of groups) index (told_of group) (slice_get-map told_of groups index ∙ ap (option_map told_of) there) (live_told group some) in
          moved live told at.0 (told_of group) permutation (ap (λ zs. slice_get zs at.0) live_is ∙ at.1);
      only = λ place one there.
          let was = moved told live place one (IsPermutation-sym live told permutation) there in
          let kept = before-filter is_live (map told_of groups) was.0 one (ap (λ zs. slice_get zs was.0) (sym live_is) ∙ was.1) in
          let of = before-map told_of groups kept.0 one kept.1 in
          (kept.0, of.0, of.1, told_live of.0 (ap is_live of.2 ∙ kept.2), of.2);
      order = λ low high a b less at_low at_high. elim (order low high a b less at_low at_high) [
        | inl fewer ↦ inl fewer
        | inr same ↦ inr (
          same.0,
          (let differ = apart-distinct told distinct low high a b less at_low
              at_high in elim (cases_lt (rank a.head) (rank b.head)) [ inl lower ↦ lower | inr not_lower ↦ absurd (differ (omega (arith, same.1))) ]),
        )
      ];
    }

-- ---- the first of them, and the others

module _ (groups : List GroupState) (ascend : Ascend groups) where
  -- a head is that of one group
  pub one_index : (i j : ℕ) (a b : GroupState) → slice_get groups i ≡ Some a → slice_get groups j ≡ Some b → rank a.head.id ≡ rank b.head.id → i ≡ j
  one_index i j a b at_i at_j same = search (rules, cases_eq, cases_lt)

  module _ (one : LiveGroup) (told : List LiveGroup) (are : AreSparsestFirst groups (one ∷ told)) where
    -- a group with a live key is this one, or comes after it
    first_or_after : (at : ℕ) (g : GroupState) → slice_get groups at ≡ Some g → 1 ≤ live_of g → (one ≡ told_of g) ⊎ IsToldBefore one (told_of g)
    first_or_after at g there live = let found = are.each at g there live in by_place found.0 found.1
      where
        by_place : (place : ℕ) → slice_get (one ∷ told) place ≡ Some (told_of g) → (one ≡ told_of g) ⊎ IsToldBefore one (told_of g)
        by_place zero here = inl (same_some here)
        by_place (suc place) here = inr (are.order 0 (suc place) one (told_of g) (omega arith) refl here)

    pub IsSparsest-first : (index : ℕ) × (group : GroupState) × IsSparsest groups index group × (told_of group ≡ one)
    IsSparsest-first =
        let (index, group, here, some, is) = are.only 0 one refl in (
          index,
          group,
          record {
            here = here;
            some = some;
            fewest = λ other g there live. elim (first_or_after other g there live) [
              | inl same ↦ omega (arith, ap (λ (x : LiveGroup). x.live) (is ∙ same))
              | inr (inl fewer) ↦ omega (arith, fewer, ap (λ (x : LiveGroup). x.live) is)
              | inr (inr tied) ↦ omega (arith, tied.0, ap (λ (x : LiveGroup). x.live) is)
            ];
            first = λ other g below there live. elim (first_or_after other g there live) [
              | inl same ↦ absurd (omega (arith, ascend other index g group below there here, ap (λ (x : LiveGroup). rank x.head) (is ∙ same)))
              | inr (inl fewer) ↦ omega (arith, fewer, ap (λ (x : LiveGroup). x.live) is)
              | inr (inr tied) ↦ absurd (omega (arith, ascend other index g group below there here, tied.1, ap (λ (x : LiveGroup). rank x.head) is))
            ];
          },
          is,
        )

    pub AreSparsestFirst-remove : (index : ℕ) (group : GroupState) → slice_get groups index ≡ Some group → told_of group ≡ one → AreSparsestFirst (remove groups index) told
    AreSparsestFirst-remove index group here is = record {
      each = λ other g there live.
          let (was, apart, at) = before-remove groups index other g there in
          let found = are.each was g at live in
          later was g at apart found.0 found.1;
      only = λ place x there.
          let (was, g, at, live, told_is) = are.only (suc place) x there in
          let apart : was ≡ index → ⊥ = (λ same.
          let same_group : g ≡ group = same_some (sym at ∙ ap (slice_get groups) same ∙ here) in
          let same_told : x ≡ one = sym told_is ∙ ap told_of same_group ∙ is in
          elim (are.order 0 (suc place) one x (omega arith) refl there) [
            | inl fewer ↦ omega (arith, fewer, ap (λ (y : LiveGroup). y.live) same_told)
            | inr tied ↦ omega (arith, tied.1, ap (λ (y : LiveGroup). rank y.head) same_told)
          ]) in
          let now = after-remove groups index was g at apart in
          (now.0, g, now.1, live, told_is);
      order = λ low high a b less at_low at_high. are.order (suc low) (suc high) a b (omega arith) at_low at_high;
    }
      where
        later : (was : ℕ) (g : GroupState) → slice_get groups was ≡ Some g → (was ≡ index → ⊥) → (place : ℕ) → slice_get (one ∷ told) place ≡ Some (told_of g)
            → (place : ℕ) × (slice_get told place ≡ Some (told_of g))
        later was g at apart zero found = absurd (apart (one_index was index g group at here (ap (λ (x : LiveGroup). rank x.head) (sym (same_some found) ∙ sym is))))
        later was g at apart (suc place) found = (place, found)

pub HasNoLive-none : (groups : List GroupState) → AreSparsestFirst groups [] → HasNoLive groups
HasNoLive-none groups are index group there = search (rules, cases_lt)
