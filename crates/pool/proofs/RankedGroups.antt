-- Groups in a row, found by the ranks of their heads: one that comes, one that changes, and one that goes.
use Rattle.std.proofs.Common.{zero, suc, ◌≡◌, ◌≢◌, ℕ, ◌-◌, ◌<◌, ◌≤◌, List, [], ◌∷◌, ◌++◌, length, length-set, get_or, insert, Option, Some, None, set, slice_get, take, ap, sym, subst, ◌∙◌, refl, inl, inr, ◌⊎◌, arith, rules, remove, swap_remove}
use Rattle.std.proofs.lemmas.Bool.{cases_eq, cases_lt}
use Rattle.std.proofs.lemmas.List.Sorted.{length_permutation}
use Rattle.std.proofs.lemmas.Option.{slice_get-get_or, slice_get_within}
use Rattle.groups.specs.Group.{HasNoHead, IsHeadOf, IsPlaceFor}
use Rattle.groups.proofs.Lists.{cases-set, get-insert, get-last, get-set, get_left, same_some}
use Rattle.groups.proofs.Maps.{Sets}
use Rattle.groups.proofs.Ranks.{id_from_rank}
use Rattle.span.specs.Ids.{rank}
use Rattle.span.specs.declared.id.SpanId.{SpanId}
use Rattle.pool.specs.Groups.{HasHeadAt}
use Rattle.pool.specs.Ranked.{AreFound, HasRankAt, LetsGo, head_rank, in_order, lower}
use Rattle.pool.specs.State.{PooledState}
use Rattle.pool.proofs.Arranged.{AreApart, AreUp, AreUp-arranged, IsIn, IsPermutation-arranged, arranged-in, arranged-more, get-set_other, in-arranged, lower-within, lower-before, place-after, remove-insert, arranged-set}

pub get-push : {X : Type 0} (xs : List X) (x : X) (at : ℕ) (y : X) → slice_get (xs ++ x ∷ []) at ≡ Some y → (slice_get xs at ≡ Some y) ⊎ ((at ≡ length xs) × (x ≡ y))
get-push [] x zero y there = inr (refl, same_some there)
get-push [] x (suc at) y there = absurd cc
get-push (z ∷ xs) x zero y there = inl there
get-push (z ∷ xs) x (suc at) y there = elim (get-push xs x at y there) [
  | inl early ↦ inl early
  | inr last ↦ inr (ap suc last.0, last.1)
]

pub get-take : {X : Type 0} (xs : List X) (n at : ℕ) → at < n → slice_get (take n xs) at ≡ slice_get xs at
get-take xs zero at low = absurd (omega arith)
get-take (x ∷ xs) (suc n) (suc at) low = get-take xs n at (omega arith)
get-take xs n at low = refl

-- a row has as many groups as the list in order
pub length-row : (groups : List PooledState) → length groups ≡ length (in_order groups)
length-row groups = sym (length_permutation groups (in_order groups) (IsPermutation-arranged head_rank groups))

-- no group
pub AreFound-none : (place_of : ℕ → Option ℕ) → ((number : ℕ) → place_of number ≡ None) → AreFound [] place_of
AreFound-none place_of none = search rules

pub AreFound-same : (groups : List PooledState) (place_of now : ℕ → Option ℕ) → ((number : ℕ) → now number ≡ place_of number) → AreFound groups place_of → AreFound groups now
AreFound-same groups place_of now same found = search rules

-- a write at a rank, which is read as another number
pub its : (old new : ℕ → Option ℕ) (value read : Option ℕ) (number key : ℕ) → number ≡ key → value ≡ read → Sets old new number value → Sets old new key read
its old new value read number key is value_is sets = subst (λ v. Sets old new key v) value_is (subst (λ k. Sets old new k value) is sets)

-- each head stands once
pub AreApart-found : (groups : List PooledState) (place_of : ℕ → Option ℕ) → AreFound groups place_of → AreApart head_rank groups
AreApart-found groups place_of found i j a b at_i at_j same = same_some (sym (found.known i a at_i) ∙ ap place_of same ∙ found.known j b at_j)

-- a group that left by its place, as the list in order has it
pub in_order-left : (groups : List PooledState) (place_of : ℕ → Option ℕ) → AreFound groups place_of → (place : ℕ) (gone : PooledState) → slice_get groups place ≡ Some gone
    → (left : List PooledState) → LetsGo groups place left → (now : ℕ → Option ℕ) → AreFound left now
    → (index : ℕ) × IsHeadOf (in_order groups) gone.head.id index gone × (in_order left ≡ remove (in_order groups) index)
in_order-left groups place_of found place gone here left goes now found_now = (
  at,
  record { here = ap (λ gs. slice_get gs at) whole ∙ get-insert (in_order left) at gone within; head_is = refl },
  sym (ap (λ gs. remove gs at) whole ∙ remove-insert (in_order left) at gone within),
)
  where
    apart : AreApart head_rank groups
    apart = AreApart-found groups place_of found

    at : ℕ
    at = lower head_rank (head_rank gone) (in_order left)

    within : at ≤ length (in_order left)
    within = lower-within head_rank (head_rank gone) (in_order left)

    new : (z : PooledState) → IsIn left z → head_rank z ≡ head_rank gone → ⊥
    new z there same = let stood = goes.stood there.0 z there.1 in stood.1 (apart stood.0 place z gone stood.2 here same)

    of : (z : PooledState) → IsIn groups z → (gone ≡ z) ⊎ IsIn left z
    of z there = search (rules, cases_eq, same_some)

    old : (z : PooledState) → IsIn left z → IsIn groups z
    old z there = let stood = goes.stood there.0 z there.1 in (stood.0, stood.2)

    whole : in_order groups ≡ insert (in_order left) at gone
    whole = arranged-more head_rank groups left gone apart (AreApart-found left now found_now) new of (place, here) old

module _ (groups : List PooledState) (place_of : ℕ → Option ℕ) (found : AreFound groups place_of) where
  abbrev apart_here : AreApart head_rank groups
  apart_here = AreApart-found groups place_of found

  pub AreUp-found : AreUp head_rank (in_order groups)
  AreUp-found = AreUp-arranged head_rank groups apart_here

  -- a rank is found, or no head has it

  pub HasNoHead-found : (head : SpanId) → place_of (rank head) ≡ None → HasNoHead (in_order groups) head
  HasNoHead-found head none index group is =
      let stands = arranged-in head_rank groups group (index, is.here) in
      let e = sym (ap place_of (ap rank is.head_is) ∙ none) ∙ found.known stands.0 group stands.1 in
      cc

  pub found_within : (number place : ℕ) → place_of number ≡ Some place → place < length groups
  found_within number place is = let at = found.only number place is in slice_get_within groups place at.0 at.1

  pub HasRankAt-row : (number place : ℕ) (group : PooledState) → place_of number ≡ Some place → slice_get groups place ≡ Some group → HasRankAt groups number group
  HasRankAt-row number place group is there = let at = found.only number place is in (place, there, ap head_rank (same_some (sym there ∙ at.1)) ∙ at.2)

  pub HasRankAt-found : (number place : ℕ) (group : PooledState) → place_of number ≡ Some place → slice_get groups place ≡ Some group → HasRankAt (in_order groups) number group
  HasRankAt-found number place group is there =
      let stands = in-arranged head_rank groups group (place, there) in
      (stands.0, stands.1, (HasRankAt-row number place group is there).2)

  pub HasHeadAt-found : (head : SpanId) (place : ℕ) (group : PooledState) → place_of (rank head) ≡ Some place → slice_get groups place ≡ Some group → HasHeadAt (in_order groups) head group
  HasHeadAt-found head place group is there =
      let its = HasRankAt-found (rank head) place group is there in
      (its.0, record { here = its.1; head_is = id_from_rank group.head.id head its.2 })

  -- where the group of a head stands
  pub place-IsHeadOf : (head : SpanId) (index : ℕ) (group : PooledState) → IsHeadOf (in_order groups) head index group
      → (place : ℕ) × (place_of (rank head) ≡ Some place) × (slice_get groups place ≡ Some group)
  place-IsHeadOf head index group is =
      let stands = arranged-in head_rank groups group (index, is.here) in
      (stands.0, ap place_of (sym (ap rank is.head_is)) ∙ found.known stands.0 group stands.1, stands.1)

  pub there-IsHeadOf : (head : SpanId) (index : ℕ) (group : PooledState) → IsHeadOf (in_order groups) head index group → (at : ℕ) → place_of (rank head) ≡ Some at → slice_get groups at ≡ Some group
  there-IsHeadOf head index group is at at_is = let found_at = place-IsHeadOf head index group is in subst (λ n. slice_get groups n ≡ Some group) (same_some (sym found_at.1 ∙ at_is)) found_at.2

  pub has_place : (head : SpanId) (group : PooledState) → HasHeadAt (in_order groups) head group → place_of (rank head) ≡ None → ⊥
  has_place head group its none = let found_at = place-IsHeadOf head its.0 group its.1 in let e = sym none ∙ found_at.1 in cc

  -- the head that was looked for
  pub head_found : (head : SpanId) (at : ℕ) → place_of (rank head) ≡ Some at → (group : PooledState) → slice_get groups at ≡ Some group → group.head.id ≡ head
  head_found head at at_is group there = let old = found.only (rank head) at at_is in id_from_rank group.head.id head (ap head_rank (same_some (sym there ∙ old.1)) ∙ old.2)

  -- a group that comes, at the end of the row
  module _ (group : PooledState) (new : HasNoHead (in_order groups) group.head.id) (now : ℕ → Option ℕ) (sets : Sets place_of now (head_rank group) (Some (length groups))) where
    its_rank : (z : PooledState) → IsIn groups z → head_rank z ≡ head_rank group → ⊥
    its_rank z there same = let stands = in-arranged head_rank groups z there in new stands.0 z (record { here = stands.1; head_is = id_from_rank z.head.id group.head.id same })

    pub AreFound-push : AreFound (groups ++ group ∷ []) now
    AreFound-push = record {
      known = λ place z there. elim (get-push groups group place z there) [
        | inl early ↦ sets.others (head_rank z) (its_rank z (place, early)) ∙ found.known place z early
        | inr last ↦ ap now (ap head_rank (sym last.1)) ∙ sets.changed ∙ ap Some (sym last.0)
      ];
      only = λ number place is. elim (cases_eq number (head_rank group)) [
        | inl same ↦
            let at : place ≡ length groups = same_some (sym is ∙ ap now same ∙ sets.changed) in
            (group, ap (slice_get (groups ++ group ∷ [])) at ∙ get-last groups group, sym same)
        | inr away ↦
            let old = found.only number place (sym (sets.others number away) ∙ is) in
            (old.0, get_left groups (group ∷ []) place old.0 old.1, old.2)
      ];
    }

    pub in_order-push : (index : ℕ) × IsPlaceFor (in_order groups) group.head.id index × (in_order (groups ++ group ∷ []) ≡ insert (in_order groups) index group)
    in_order-push = (
      lower head_rank (head_rank group) (in_order groups),
      record {
        within = lower-within head_rank (head_rank group) (in_order groups);
        before = lower-before head_rank (head_rank group) (in_order groups);
        after = place-after head_rank groups group apart_here its_rank;
      },
      arranged-more head_rank (groups ++ group ∷ []) groups group (AreApart-found (groups ++ group ∷ []) now AreFound-push) apart_here its_rank
          (λ z there. elim (get-push groups group there.0 z there.1) [
            | inl early ↦ inr (there.0, early)
            | inr last ↦ inl last.1
          ])
          (length groups, get-last groups group)
          (λ z there. (there.0, get_left groups (group ∷ []) there.0 z there.1)),
    )

  -- a group that changes where it stands, and keeps its head
  module _ (place : ℕ) (group now : PooledState) (here : slice_get groups place ≡ Some group) (same_head : now.head.id ≡ group.head.id) where
    pub AreFound-set : AreFound (set groups place now) place_of
    AreFound-set = record {
      known = λ other z there. elim (cases-set groups place now other z there) [
        | inl is ↦ ap place_of (ap head_rank (sym is.1) ∙ ap rank same_head) ∙ found.known place group here ∙ ap Some (sym is.0)
        | inr old ↦ found.known other z old.1
      ];
      only = λ number other is.
          let old = found.only number other is in
          elim (cases_eq other place) [
            | inl same ↦ (
              now,
              ap (slice_get (set groups place now)) same ∙ get-set groups place group now here,
              ap rank same_head ∙ ap head_rank (same_some (sym here ∙ sym (ap (slice_get groups) same) ∙ old.1)) ∙ old.2,
            )
            | inr away ↦ (old.0, get-set_other groups place other now away ∙ old.1, old.2)
          ];
    }

    pub in_order-set : (head : SpanId) (index : ℕ) → IsHeadOf (in_order groups) head index group → in_order (set groups place now) ≡ set (in_order groups) index now
    in_order-set head index is = arranged-set head_rank groups apart_here place group now here (ap rank same_head) index is.here

  -- a group that goes, whose place the last takes
  module _ (place : ℕ) (gone : PooledState) (here : slice_get groups place ≡ Some gone) (left : List PooledState) (left_is : left ≡ swap_remove groups place gone) where
    abbrev last : PooledState
    last = get_or groups (length groups - 1) gone

    within : place < length groups
    within = slice_get_within groups place gone here

    last_is : slice_get groups (length groups - 1) ≡ Some last
    last_is = slice_get-get_or groups (length groups - 1) gone (let low = within in omega arith)

    pub shorter : suc (length left) ≡ length groups
    shorter = search (rules, length-set, within)

    get-left_over : (at : ℕ) → at < length left → slice_get left at ≡ slice_get (set groups place last) at
    get-left_over at low = ap (λ (gs : List PooledState). slice_get gs at) left_is ∙ get-take (set groups place last) (length groups - 1) at (let e = shorter in omega arith)

    -- the groups before it stay where they are
    pub lower-swap : (at : ℕ) → at < place → slice_get left at ≡ slice_get groups at
    lower-swap at less = get-left_over at (let low = within in let long = shorter in omega arith) ∙ get-set_other groups place at last (λ same. omega (arith, same))

    pub LetsGo-swap : LetsGo groups place left
    LetsGo-swap = record {
      stood = λ at z there.
          let low : at < length left = slice_get_within left at z there in
          elim (cases-set groups place last at z (sym (get-left_over at low) ∙ there)) [
            | inl is ↦ (length groups - 1, (λ e. let same = is.0 in let long = shorter in omega arith), last_is ∙ ap Some is.1)
            | inr old ↦ (at, old.0, old.1)
          ];
      stay = λ was z there away.
          let low : was < length groups = slice_get_within groups was z there in
          elim (cases_eq was (length groups - 1)) [
            | inl same ↦ (
              place,
              get-left_over place (let long = shorter in let first = within in omega arith) ∙ get-set groups place gone last here
                  ∙ ap Some (same_some (sym last_is ∙ sym (ap (slice_get groups) same) ∙ there)),
            )
            | inr other ↦ (was, get-left_over was (let long = shorter in omega arith) ∙ get-set_other groups place was last away ∙ there)
          ];
    }

    module _ (mid : ℕ → Option ℕ) (strikes : Sets place_of mid (head_rank gone) None) where
      -- the last itself
      pub AreFound-last : (place < length left → ⊥) → AreFound left mid
      AreFound-last high = record {
        known = λ at z there.
            let low : at < length left = slice_get_within left at z there in
            elim (cases-set groups place last at z (sym (get-left_over at low) ∙ there)) [
              | inl is ↦ absurd (high (subst (λ n. n < length left) is.0 low))
              | inr old ↦ strikes.others (head_rank z) (λ same. old.0 (apart_here at place z gone old.1 here same)) ∙ found.known at z old.1
            ];
        only = λ number at is.
            elim (cases_eq number (head_rank gone)) [
              | inl same ↦ absurd (let e = sym (ap mid same ∙ strikes.changed) ∙ is in cc)
              | inr away ↦
                  let old = found.only number at (sym (strikes.others number away) ∙ is) in
                  let other : at ≢ place = λ e. away (sym old.2 ∙ ap head_rank (same_some (sym old.1 ∙ ap (slice_get groups) e ∙ here))) in
                  let low : at < length groups = slice_get_within groups at old.0 old.1 in (
                    old.0,
                    get-left_over at (elim (cases_lt place (length left)) [
                      | inl less ↦ absurd (high less)
                      | inr more ↦ let long = shorter in let first = within in omega (arith, other)
                    ]) ∙ get-set_other groups place at last other ∙ old.1,
                    old.2,
                  )
            ];
      }

      -- another than the last
      module _ (less : place < length left) (read : PooledState) (there : slice_get left place ≡ Some read) where
        read_is : last ≡ read
        read_is = same_some (sym (get-left_over place less ∙ get-set groups place gone last here) ∙ there)

        two : head_rank last ≢ head_rank gone
        two same = let e = apart_here (length groups - 1) place last gone last_is here same in let long = shorter in omega arith

        pub mid-last : mid (head_rank read) ≡ Some (length groups - 1)
        mid-last = ap mid (ap head_rank (sym read_is)) ∙ strikes.others (head_rank last) two ∙ found.known (length groups - 1) last last_is

        pub AreFound-other : (now : ℕ → Option ℕ) → Sets mid now (head_rank read) (Some place) → AreFound left now
        AreFound-other now moves = record {
          known = λ at z at_z.
              let low : at < length left = slice_get_within left at z at_z in
              elim (cases-set groups place last at z (sym (get-left_over at low) ∙ at_z)) [
                | inl is ↦ ap now (ap head_rank (sym is.1) ∙ ap head_rank read_is) ∙ moves.changed ∙ ap Some (sym is.0)
                | inr old ↦
                    moves.others (head_rank z) (λ same. let e = apart_here at (length groups - 1) z last old.1 last_is (same ∙ ap head_rank (sym read_is)) in let long = shorter in omega arith)
                    ∙ strikes.others (head_rank z) (λ same. old.0 (apart_here at place z gone old.1 here same)) ∙ found.known at z old.1
              ];
          only = λ number at is.
              elim (cases_eq number (head_rank read)) [
                | inl same ↦
                    let at_is : at ≡ place = same_some (sym is ∙ ap now same ∙ moves.changed) in
                    (read, ap (slice_get left) at_is ∙ there, sym same)
                | inr apart ↦ elim (cases_eq number (head_rank gone)) [
                  | inl same ↦ absurd (let e = sym (ap mid same ∙ strikes.changed) ∙ sym (moves.others number apart) ∙ is in cc)
                  | inr away ↦
                      let old = found.only number at (sym (moves.others number apart ∙ strikes.others number away) ∙ is) in
                      let other : at ≢ place = λ e. away (sym old.2 ∙ ap head_rank (same_some (sym old.1 ∙ ap (slice_get groups) e ∙ here))) in
                      let not_last : at ≢ length groups - 1 = λ e. apart (sym old.2 ∙ ap head_rank (same_some (sym old.1 ∙ ap (slice_get groups) e ∙ last_is)) ∙ ap head_rank read_is) in
                      let low : at < length groups = slice_get_within groups at old.0 old.1 in
                      (old.0, get-left_over at (let long = shorter in omega (arith, not_last)) ∙ get-set_other groups place at last other ∙ old.1, old.2)
                ]
              ];
        }
