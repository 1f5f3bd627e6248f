-- Where the lines of a thread stand.
use Rattle.thread_runner.proofs.Names.{◌≡◌, ◌∙◌, ◌+◌, ◌++◌, ◌==◌, ◌<◌, ℕ, Bool, true, false, List, [], ◌∷◌, Some, ap, suc, zero, inl, inr, ◌≤◌, set, get_or, vec_items, Vec, append-nil, arith, length, map, refl, subst, sym, add-zero, slice_get, rules, if◌then◌else◌, eqb_tells, slice_get_read, slice_get_within, in_either, same_some, Line, is_line_of, places_from, places_of, AddsAt, AreLaid}
use Rattle.marks.proofs.Lists.{slice_get-map_at, slice_get-set_other, slice_get-set_same}

-- the places in two parts
pub places_from-append : (thread place : ℕ) (above below : List Line) → places_from thread place (above ++ below) ≡ places_from thread place above ++ places_from thread (place + length above) below
places_from-append thread place [] below = ap (λ p. places_from thread p below) (sym (add-zero place))
places_from-append thread place (l ∷ above) below = grind (arith, places_from-append thread (place + 1) above below)

-- the places after one line more
pub places_of-push : (thread : ℕ) (above : List Line) (l : Line) → places_of thread (above ++ l ∷ []) ≡ places_of thread above ++ (if is_line_of thread l then length above ∷ [] else [])
places_of-push thread above l = grind (arith, places_from-append thread 0 above (l ∷ []))

-- the thread's list has a line more
pub AreLaid-own : (above : List Line) (place thread : ℕ) (l : Line) (old new : List (List ℕ)) → ((at : ℕ) → is_line_of at l ≡ (thread == at))
    → length above ≡ place → AreLaid above old → AddsAt thread place old new
    → AreLaid (above ++ l ∷ []) new
AreLaid-own above place thread l old new own long laid adds at listed is = search (rules, places_of-push)

-- a line that is no thread's
pub AreLaid-other : (above : List Line) (l : Line) (places : List (List ℕ)) → ((thread : ℕ) → is_line_of thread l ≡ false) → AreLaid above places → AreLaid (above ++ l ∷ []) places
AreLaid-other above l places none laid at listed is =
    laid at listed is ∙ sym (append-nil (places_of at above)) ∙ ap (λ (b : Bool). places_of at above ++ (if b then length above ∷ [] else [])) (sym (none at)) ∙ sym (places_of-push at above l)

-- at a place of a thread's lines stands one of them, by the line that is the first
line_from-place : (thread from : ℕ) (lines : List Line) (done place : ℕ) → slice_get (places_from thread from lines) done ≡ Some place
    → (k : ℕ) × (place ≡ from + k) × ((l : Line) × (slice_get lines k ≡ Some l) × (is_line_of thread l ≡ true))
line_from-place thread from [] done place is = absurd cc
line_from-place thread from (first ∷ lines) done place is = by_test (is_line_of thread first) refl done is (line_from-place thread (from + 1) lines)
  where
    by_test : (b : Bool) → is_line_of thread first ≡ b → (done : ℕ) → slice_get (if b then from ∷ places_from thread (from + 1) lines else places_from thread (from + 1) lines) done ≡ Some place
        → ((done place : ℕ) → slice_get (places_from thread (from + 1) lines) done ≡ Some place
        → (k : ℕ) × (place ≡ from + 1 + k) × ((l : Line) × (slice_get lines k ≡ Some l) × (is_line_of thread l ≡ true)))
        → (k : ℕ) × (place ≡ from + k) × ((l : Line) × (slice_get (first ∷ lines) k ≡ Some l) × (is_line_of thread l ≡ true))
    by_test true own zero is below = (0, let here : from ≡ place = cc in omega (arith, here), (first, refl, own))
    by_test true own (suc done) is below = let (k, at, there) = below done place is in (suc k, omega arith, there)
    by_test false other done is below = let (k, at, there) = below done place is in (suc k, omega arith, there)

pub line_at-place : (thread : ℕ) (lines : List Line) (done place : ℕ) → slice_get (places_of thread lines) done ≡ Some place
    → (l : Line) × (slice_get lines place ≡ Some l) × (is_line_of thread l ≡ true)
line_at-place thread lines done place is =
    let (k, at, (l, there, own)) = line_from-place thread 0 lines done place is in
    (l, subst (λ p. slice_get lines p ≡ Some l) (let same : k ≡ place = omega arith in same) there, own)

-- a list that is written at the thread's place
pub AddsAt-set : (thread place : ℕ) (old : List (List ℕ)) (before now : List ℕ) → slice_get old thread ≡ Some before → now ≡ before ++ place ∷ [] → AddsAt thread place old (set old thread now)
AddsAt-set thread place old before now here is at listed there = search (rules, eqb_tells, slice_get-set_same, slice_get-set_other, append-nil)

-- all that stands in a list after one more of these
each-push : {X : Type 0} (P : X → Type 0) (xs : List X) (x : X) → ((at : ℕ) (y : X) → slice_get xs at ≡ Some y → P y) → P x → (at : ℕ) (y : X) → slice_get (xs ++ x ∷ []) at ≡ Some y → P y
each-push P xs x each it at y there = search (rules, in_either, same_some)

-- one more empty list
pub AreLaid-none : (lists : List (List ℕ)) → AreLaid [] lists → AreLaid [] (lists ++ [] ∷ [])
AreLaid-none lists laid thread listed there = each-push (λ (l : List ℕ). l ≡ []) lists [] laid refl thread listed there

-- a thread without a list
pub AddsAt-none : (thread place : ℕ) (old : List (List ℕ)) → length old ≤ thread → AddsAt thread place old old
AddsAt-none thread place old none at listed there = elim (eqb_tells thread at) [
  | inl (passes, same) ↦ absurd (let within : at < length old = slice_get_within old at listed there in omega arith)
  | inr (fails, differ) ↦ (listed, there, sym (append-nil listed) ∙ ap (λ (b : Bool). listed ++ (if b then place ∷ [] else [])) (sym fails))
]

-- an element that a look-up in a list of lists found
pub slice_get-items : {A Z : Type 0} (lists : List (Vec A Z)) (at : ℕ) (there : Vec A Z) → at < length lists → there ≡ get_or lists at there → slice_get (map vec_items lists) at ≡ Some there.items
slice_get-items lists at there within is = slice_get-map_at vec_items lists at there (slice_get_read lists (length lists) at there refl within is)
