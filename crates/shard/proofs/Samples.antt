-- Some elements of a list: the first, and one after each so many others.
use Rattle.std.proofs.Common.{zero, suc, ◌≡◌, ℕ, ◌+◌, ◌≤◌, Bool, true, false, cond, List, [], ◌∷◌, drop, is_some, length, Some, slice_get, ◌∙◌, ap, sym, refl, arith}
use Rattle.std.specs.FinSet as set
use Rattle.std.proofs.lemmas.List.{drop-drop}
use Rattle.std.proofs.lemmas.List.Sums.{sum_by-append}
use Rattle.span.specs.Log.{live_slots}
use Rattle.span.specs.State.{SpanState}
use Rattle.groups.specs.Group.{Group, live_in, paged_in, spans_in, spans_of}
use Rattle.groups.specs.Spans.{live_count}
use Rattle.groups.proofs.Lists.{same_some}
use Rattle.shard.specs.Spaced.{passing, spaced}

module _ {X : Type 0} where
  passing-drop : (first after : ℕ) (xs : List X) → passing first after xs ≡ spaced after (drop first xs)
  passing-drop zero after xs = refl
  passing-drop (suc first) after [] = refl
  passing-drop (suc first) after (x ∷ xs) = passing-drop first after xs

  drop-here : (at : ℕ) (x : X) (xs : List X) → slice_get xs at ≡ Some x → drop at xs ≡ x ∷ drop (suc at) xs
  drop-here at x [] here = absurd cc
  drop-here zero x (y ∷ xs) here = ap (λ z. z ∷ xs) (same_some here)
  drop-here (suc at) x (y ∷ xs) here = drop-here at x xs here

  -- what stands behind so many is what stood so many further
  pub get-drop : (from at place : ℕ) (xs : List X) → place ≡ from + at → slice_get (drop from xs) at ≡ slice_get xs place
  get-drop zero at place xs is = let here : place ≡ at = omega (arith, is) in ap (slice_get xs) (sym here)
  get-drop (suc from) at place [] is = refl
  get-drop (suc from) at zero (x ∷ xs) is = absurd (omega (arith, is))
  get-drop (suc from) at (suc place) (x ∷ xs) is = get-drop from at place xs (omega (arith, is))

  -- after the element at the place comes that behind the gap
  pub spaced-next : (gap at next : ℕ) (x : X) (xs : List X) → slice_get xs at ≡ Some x → next ≡ at + (gap + 1) → spaced gap (drop at xs) ≡ x ∷ spaced gap (drop next xs)
  spaced-next gap at next x xs here is =
      let sum : suc at + gap ≡ next = omega (arith, is) in
      ap (spaced gap) (drop-here at x xs here) ∙ ap (λ rest. x ∷ rest) (passing-drop gap gap (drop (suc at) xs) ∙ ap (spaced gap) (drop-drop gap (suc at) xs ∙ ap (λ n. drop n xs) sum))

-- what the element at the place and those after it have

module _ {Closed : Type 0} (gap at next : ℕ) (group : Group Closed) (groups : List (Group Closed)) (here : slice_get groups at ≡ Some group) (is : next ≡ at + (gap + 1)) where
  pub paged-next : length (paged_in (spaced gap (drop at groups))) ≡ cond (is_some group.page) 1 0 + length (paged_in (spaced gap (drop next groups)))
  paged-next = ap (λ (gs : List (Group Closed)). length (paged_in gs)) (spaced-next gap at next group groups here is) ∙ by_test (is_some group.page)
    where
      by_test : (b : Bool) → length (cond b (group ∷ paged_in (spaced gap (drop next groups))) (paged_in (spaced gap (drop next groups)))) ≡ cond {A = ℕ} b 1 0 + length (paged_in (spaced gap (drop next groups)))
      by_test true = omega arith
      by_test false = omega arith

  pub live-next : live_in (spaced gap (drop at groups)) ≡ live_count (spans_of group) + live_in (spaced gap (drop next groups))
  live-next = ap (λ (gs : List (Group Closed)). live_in gs) (spaced-next gap at next group groups here is)
      ∙ sum_by-append (λ (s : SpanState). set.len (live_slots s.log)) (spans_of group) (spans_in (spaced gap (drop next groups)))

  pub live-paged-next : live_in (paged_in (spaced gap (drop at groups))) ≡ cond (is_some group.page) (live_count (spans_of group)) 0 + live_in (paged_in (spaced gap (drop next groups)))
  live-paged-next = ap (λ (gs : List (Group Closed)). live_in (paged_in gs)) (spaced-next gap at next group groups here is) ∙ by_test (is_some group.page)
    where
      by_test : (b : Bool) → live_in (cond b (group ∷ paged_in (spaced gap (drop next groups))) (paged_in (spaced gap (drop next groups)))) ≡ cond {A = ℕ} b (live_count (spans_of group)) 0 + live_in (paged_in (spaced gap (drop next groups)))
      by_test true = sum_by-append (λ (s : SpanState). set.len (live_slots s.log)) (spans_of group) (spans_in (paged_in (spaced gap (drop next groups))))
      by_test false = omega arith
