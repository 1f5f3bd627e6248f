-- The first of those that would stand in order, which alone are put into order.
use Rattle.std.proofs.Common.{zero, suc, ◌≡◌, ℕ, ◌+◌, ◌<◌, ◌≤◌, ◌⊎◌, List, [], ◌∷◌, ◌++◌, length, length-append, insert, map, take, Some, slice_get, ◌∙◌, ap, sym, subst, refl, inl, inr, arith, rules}
use Rattle.std.specs.List.{filter}
use Rattle.std.specs.List.Sorted.{IsPermutation}
use Rattle.std.proofs.lemmas.Bool.{cases_lt}
use Rattle.std.proofs.lemmas.List.{take_all, take-append-le}
use Rattle.std.proofs.lemmas.List.Sums.{sum_by-cons}
use Rattle.std.proofs.lemmas.Option.{get_or_from_slice_get, slice_get_within}
use Rattle.std.specs.List.Sorted.{IsSplitAroundByKey}
use Rattle.std.specs.Ordering.{is_lt}
use Rattle.std.specs.List.{sum_by}
use Rattle.std.proofs.lemmas.List.Sorted.{IsPermutation-append, IsPermutation-cons, IsPermutation-insert, IsPermutation-refl, IsPermutation-sym, IsPermutation-trans, sum_by-IsPermutation}
use Rattle.span.specs.Ids.{rank}
use Rattle.groups.proofs.Lists.{pairs-insert, same_some}
use Rattle.groups.specs.Group.{Ascend}
use Rattle.shard.specs.Group.{GroupState}
use Rattle.shard.specs.Sparse.{AreSparsestFirst, told_of}
use Rattle.shard.specs.Telling.{AreBefore, AreInOrder, AreSelected, IsCut, IsNotAfter, is_live}
use Rattle.shard.specs.declared.shard.retiring.LiveGroup.{LiveGroup}
use Rattle.shard.proofs.Sparse.{AreSparsestFirst-sorted, in_order, key_cmp, key_of, moved}

either_way : (a b : LiveGroup) → IsNotAfter a b ⊎ IsNotAfter b a
either_way a b = search (rules, cases_lt)

both_ways : (a b c : LiveGroup) → IsNotAfter a b → IsNotAfter b c → IsNotAfter a c
both_ways a b c n k = search rules

-- what a selection around one ensures
pub AreBefore-split : (front : List LiveGroup) (one : LiveGroup) (back : List LiveGroup) → IsSplitAroundByKey key_of key_cmp front one back → AreBefore front (one ∷ back)
AreBefore-split front one back split low high a b at_low at_high =
    let less = slice_get_within front low a at_low in
    let first : IsNotAfter a one = in_order a.live one.live (rank a.head) (rank one.head)
    (ap (λ (x : LiveGroup). is_lt (key_cmp (key_of one) (key_of x))) (sym (get_or_from_slice_get front low a a at_low)) ∙ split.0 low a less) in
    behind high first at_high
  where
    behind : (high : ℕ) → IsNotAfter a one → slice_get (one ∷ back) high ≡ Some b → IsNotAfter a b
    behind zero first there = subst (IsNotAfter a) (same_some there) first
    behind (suc high) first there = both_ways a one b first
        (in_order one.live b.live (rank one.head) (rank b.head)
        (ap (λ (x : LiveGroup). is_lt (key_cmp (key_of x) (key_of one))) (sym (get_or_from_slice_get back high b b there))
        ∙ split.1 high b (slice_get_within back high b there)))

-- where one more belongs among those that stand in order
record BelongsAt (one : LiveGroup) (told : List LiveGroup) : Type 0 where
  at : ℕ
  within : at ≤ length told
  before : (other : ℕ) (x : LiveGroup) → other < at → slice_get told other ≡ Some x → IsNotAfter x one
  behind : (other : ℕ) (x : LiveGroup) → at ≤ other → slice_get told other ≡ Some x → IsNotAfter one x

belongs : (one : LiveGroup) (told : List LiveGroup) → AreInOrder told → BelongsAt one told
belongs one [] order = record { at = 0; within = omega arith; before = λ other x low. absurd (omega arith); behind = λ other x from there. absurd cc }
belongs one (first ∷ told) order = elim (either_way one first) [
  | inl lower ↦ record {
    at = 0;
    within = omega arith;
    before = λ other x low. absurd (omega arith);
    behind = λ other x from there. not_after other x lower there;
  }
  | inr higher ↦ let rest = belongs one told (λ low high a b less. order (suc low) (suc high) a b (omega arith)) in record {
    at = suc rest.at;
    within = let low = rest.within in omega arith;
    before = before_it rest higher;
    behind = behind_it rest;
  }
]
  where
    not_after : (other : ℕ) (x : LiveGroup) → IsNotAfter one first → slice_get (first ∷ told) other ≡ Some x → IsNotAfter one x
    not_after zero x lower there = subst (IsNotAfter one) (same_some there) lower
    not_after (suc other) x lower there = both_ways one first x lower (order 0 (suc other) first x (omega arith) refl there)

    before_it : (rest : BelongsAt one told) → IsNotAfter first one → (other : ℕ) (x : LiveGroup) → other < suc rest.at → slice_get (first ∷ told) other ≡ Some x → IsNotAfter x one
    before_it rest higher zero x low there = subst (λ y. IsNotAfter y one) (same_some there) higher
    before_it rest higher (suc other) x low there = rest.before other x (omega arith) there

    behind_it : (rest : BelongsAt one told) → (other : ℕ) (x : LiveGroup) → suc rest.at ≤ other → slice_get (first ∷ told) other ≡ Some x → IsNotAfter one x
    behind_it rest zero x from there = absurd (omega arith)
    behind_it rest (suc other) x from there = rest.behind other x (omega arith) there

-- whatever is told can be put into order
record IsOrdering (told : List LiveGroup) : Type 0 where
  ordered : List LiveGroup
  permutation : IsPermutation told ordered
  order : AreInOrder ordered

ordering : (told : List LiveGroup) → IsOrdering told
ordering [] = record { ordered = []; permutation = IsPermutation-refl []; order = λ low high a b less at_low at_high. absurd cc }
ordering (one ∷ told) =
    let rest = ordering told in
    let place = belongs one rest.ordered rest.order in
    record {
      ordered = insert rest.ordered place.at one;
      permutation = IsPermutation-trans (one ∷ told) (one ∷ rest.ordered) (insert rest.ordered place.at one) (IsPermutation-cons one told rest.ordered rest.permutation)
          (IsPermutation-insert rest.ordered place.at one);
      order = pairs-insert IsNotAfter rest.ordered place.at one place.within rest.order place.before place.behind;
    }

cases-append : (xs ys : List LiveGroup) (at : ℕ) (y : LiveGroup) → slice_get (xs ++ ys) at ≡ Some y
    → (slice_get xs at ≡ Some y) ⊎ ((later : ℕ) × (at ≡ length xs + later) × (slice_get ys later ≡ Some y))
cases-append [] ys at y there = inr (at, omega arith, there)
cases-append (x ∷ xs) ys zero y there = inl there
cases-append (x ∷ xs) ys (suc at) y there = elim (cases-append xs ys at y there) [
  | inl first ↦ inl first
  | inr second ↦ inr (second.0, (let is = second.1 in omega arith), second.2)
]

-- two lists in order, none of the first after one of the second
order-append : (first second : List LiveGroup) → AreInOrder first → AreInOrder second → AreBefore first second → AreInOrder (first ++ second)
order-append first second in_first in_second before low high a b less at_low at_high = search (rules, cases-append, slice_get_within)

append_none : (xs ys : List LiveGroup) → length ys ≡ 0 → xs ++ ys ≡ xs
append_none [] [] none = refl
append_none [] (y ∷ ys) none = absurd (omega arith)
append_none (x ∷ xs) ys none = ap (λ zs. x ∷ zs) (append_none xs ys none)

count_all : (told : List LiveGroup) → sum_by (λ group. 1) told ≡ length told
count_all [] = refl
count_all (one ∷ told) = omega (arith, sum_by-cons (λ (group : LiveGroup). 1) one told, count_all told)

same_length : (told ordered : List LiveGroup) → IsPermutation told ordered → length ordered ≡ length told
same_length told ordered permutation = sym (count_all ordered) ∙ sum_by-IsPermutation (λ group. 1) told ordered permutation ∙ count_all told

pub AreSparsestFirst-selected : (groups : List GroupState) (live told rest ordered : List LiveGroup) (most : ℕ) → Ascend groups → live ≡ filter is_live (map told_of groups)
    → IsPermutation live (told ++ rest) → AreBefore told rest → IsCut most told rest → IsPermutation told ordered → AreInOrder ordered
    → (all : List LiveGroup) × AreSparsestFirst groups all × (ordered ≡ take most all)
AreSparsestFirst-selected groups live told rest ordered most ascend live_is selected before cut permutation order =
    let others = ordering rest in
    let all = ordered ++ others.ordered in
    let long = same_length told ordered permutation in (
      all,
      AreSparsestFirst-sorted groups live all ascend live_is
          (IsPermutation-trans live (told ++ rest) all selected (IsPermutation-append told ordered rest others.ordered permutation others.permutation))
          (order-append ordered others.ordered order others.order (λ low high a b at_low at_high.
          let was = moved ordered told low a (IsPermutation-sym told ordered permutation) at_low in
          let other = moved others.ordered rest high b (IsPermutation-sym rest others.ordered others.permutation) at_high in
          before was.0 other.0 a b was.1 other.1)),
      by_cut others.ordered (same_length rest others.ordered others.permutation) long cut,
    )
  where
    by_cut : (others : List LiveGroup) → length others ≡ length rest → length ordered ≡ length told → IsCut most told rest → ordered ≡ take most (ordered ++ others)
    by_cut others long_others long n = search (rules, take-append-le, take_all, length-append, append_none)

-- none goes
pub AreSelected-all : (told : List LiveGroup) (most : ℕ) → length told ≤ most → AreSelected most told told
AreSelected-all told most few = search (rules, append_none, IsPermutation-refl)

-- those stay that a selection puts first
pub AreSelected-split : (told front : List LiveGroup) (one : LiveGroup) (back kept : List LiveGroup) (most : ℕ) → IsPermutation told (front ++ one ∷ back) → length front ≡ most
    → IsSplitAroundByKey key_of key_cmp front one back → kept ≡ front → AreSelected most told kept
AreSelected-split told front one back kept most permutation long split same = search (rules, AreBefore-split)
