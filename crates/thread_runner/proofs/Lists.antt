-- Lists that are gone through by places: of receipts and of logs.
use Rattle.thread_runner.proofs.Names.{zero, suc, ◌≡◌, ◌∙◌, ◌+◌, ◌++◌, ℕ, List, [], ◌∷◌, Some, ap, append-nil, append_assoc, arith, drop, map, slice_get, subst, sym, take, zero-add, len, flat_map, sum_by, flat_map-append, map-append, sum_by-append, sum_by-cons, kept_changes, live_slots, span_of_log, Receipt, SpanLog, live_count, drop_step, take_more, LineAnswer, lineless}
use Rattle.span.specs.State.{SpanState}

pub slice_get-drop : {X : Type 0} (xs : List X) (first i : ℕ) (x : X) → slice_get xs (first + i) ≡ Some x → slice_get (drop first xs) i ≡ Some x
slice_get-drop xs zero i x here = subst (λ n. slice_get xs n ≡ Some x) (zero-add i) here
slice_get-drop [] (suc first) i x here =
    let after : suc first + i ≡ suc (first + i) = omega arith in
    let none : slice_get [] (suc (first + i)) ≡ Some x = subst (λ n. slice_get [] n ≡ Some x) after here in
    absurd cc
slice_get-drop (y ∷ xs) (suc first) i x here =
    let after : suc first + i ≡ suc (first + i) = omega arith in
    slice_get-drop xs first i x (subst (λ n. slice_get (y ∷ xs) n ≡ Some x) after here)

-- one receipt more, which no line asked for
pub lineless-more : (xs : List Receipt) (first i : ℕ) (x : Receipt) (base now later : List LineAnswer) → slice_get xs (first + i) ≡ Some x → now ≡ base ++ flat_map lineless (take i (drop first xs))
    → later ≡ now ++ lineless x → later ≡ base ++ flat_map lineless (take (i + 1) (drop first xs))
lineless-more xs first i x base now later here before more =
    let step = ap (flat_map lineless) (take_more (drop first xs) i x (slice_get-drop xs first i x here))
    ∙ flat_map-append lineless (take i (drop first xs)) (x ∷ []) ∙ ap (λ l. flat_map lineless (take i (drop first xs)) ++ l) (append-nil (lineless x)) in
    more ∙ ap (λ l. l ++ lineless x) before ∙ append_assoc base (flat_map lineless (take i (drop first xs))) (lineless x) ∙ ap (λ l. base ++ l) (sym step)

-- the receipt of a place is the first from there on
pub take-drop_one : {X : Type 0} (xs : List X) (place : ℕ) (x : X) → slice_get xs place ≡ Some x → take 1 (drop place xs) ≡ x ∷ []
take-drop_one xs place x here = ap (take 1) (drop_step xs place x here)

-- and those after it begin one place further
pub drop-more : {X : Type 0} (xs : List X) (place : ℕ) (x : X) → slice_get xs place ≡ Some x → drop (place + 1) xs ≡ drop 1 (drop place xs)
drop-more xs place x here =
    let one : place + 1 ≡ suc place = omega arith in
    ap (λ n. drop n xs) one ∙ sym (ap (drop 1) (drop_step xs place x here))

-- the live keys of one log more
pub live_count-more_log : (logs : List SpanLog) (i : ℕ) (log : SpanLog) → slice_get logs i ≡ Some log
    → live_count (map span_of_log (take (i + 1) logs)) ≡ live_count (map span_of_log (take i logs)) + len (live_slots (kept_changes log.log))
live_count-more_log logs i log here =
    let one : sum_by (λ (s : SpanState). len (live_slots s.log)) (span_of_log log ∷ [])
    ≡ len (live_slots (kept_changes log.log)) = sum_by-cons (λ (s : SpanState). len (live_slots s.log)) (span_of_log log) [] ∙ omega arith in
    ap (λ l. live_count (map span_of_log l)) (take_more logs i log here)
    ∙ ap live_count (map-append span_of_log (take i logs) (log ∷ []))
    ∙ sum_by-append (λ (s : SpanState). len (live_slots s.log)) (map span_of_log (take i logs)) (span_of_log log ∷ [])
    ∙ ap (λ n. live_count (map span_of_log (take i logs)) + n) one
