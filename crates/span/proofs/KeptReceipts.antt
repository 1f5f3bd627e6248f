-- A list of receipts by runs: what is added leaves the earlier receipts as they were, and where a receipt stands.
use Rattle.std.proofs.Common.{zero, suc, ◌≡◌, ℕ, ◌+◌, ◌-◌, ◌*◌, ◌^◌, ◌<◌, ◌≤◌, ◌==◌, Bool, true, false, eqb, eqb-true, if◌then◌else◌, None, List, [], ◌∷◌, ◌++◌, get_or, length, Some, slice_get, slice_set, ap, sym, subst, ◌∙◌, refl, inl, inr, arith, rules}
use mathlib.Core.HLevel.{is_prop→PathP}
use native.Mathlib.Bridge.{le_prop}
use Rattle.std.proofs.lemmas.Bool.{cases_lt}
use Rattle.std.proofs.lemmas.List.{append-nil, append_assoc, length-append}
use Rattle.std.proofs.lemmas.Option.{get_or_from_slice_get, same_Some, slice_get_within}
use Rattle.span.specs.Classes.{width_of}
use Rattle.span.specs.Stored.{run_from}
use Rattle.span.specs.StoredReceipts.{AreRuns, CountsOn, CountsUp, Follows, GoesOn, HasCall, HasPlace, IsCountedOf, IsLast, IsNextOf, IsRunWithin, MayCount, call_in, call_width, call_words, counted_form, counted_up, first_in, key_in, next_start, receipt_in, receipts_in, run_receipts, stride, with_call, with_last_call}
use Rattle.span.proofs.Ids.{same_id}
use Rattle.span.proofs.KeptWords.{run_from-last, run_from-more}
use Rattle.span.proofs.Widths.{width_of-injective}
use Rattle.span.specs.declared.limits.TheConstants.{MOST_SHARDS, MOST_SPANS}
use Rattle.span.specs.declared.receipt.Receipt.{Receipt}
use Rattle.span.specs.declared.stored_receipt.StoredCall.{StoredCall}
use Rattle.span.specs.declared.stored_receipt.StoredCall.TheVariants.{Put, Set}
use Rattle.span.specs.declared.class.Class.{Class}
use Rattle.span.specs.declared.class.Class.TheVariants.{C16}
use Rattle.span.specs.declared.receipt.Call.TheVariants as call
use Rattle.span.specs.declared.stored_receipt.ReceiptRun.{ReceiptRun}

IsRunWithin-fewer : (words : ℕ) (run : ReceiptRun) (k n : ℕ) → k ≤ n → IsRunWithin words run n → IsRunWithin words run k
IsRunWithin-fewer words run k n less within j low = within j (omega arith)

IsRunWithin-more : (words more : ℕ) (run : ReceiptRun) (n : ℕ) → words ≤ more → IsRunWithin words run n → IsRunWithin more run n
IsRunWithin-more words more run n less within k low = let has = within k low in (has.0, has.1, let w = has.2 in omega arith)

-- one more call
IsRunWithin-push : (words : ℕ) (run : ReceiptRun) (n : ℕ) → IsRunWithin words run n → HasCall words run n → IsRunWithin words run (n + 1)
IsRunWithin-push words run n within has k low = search (rules, cases_lt)

receipt_in-more : (words more : List ℕ) (run : ReceiptRun) (k : ℕ) → HasCall (length words) run k → receipt_in (words ++ more) run k ≡ receipt_in words run k
receipt_in-more words more run k has = search (rules, run_from-more)

run_receipts-more : (words more : List ℕ) (run : ReceiptRun) (n : ℕ) → IsRunWithin (length words) run n → run_receipts (words ++ more) run n ≡ run_receipts words run n
run_receipts-more words more run zero within = refl
run_receipts-more words more run (suc n) within = λ i. run_receipts-more words more run n (IsRunWithin-fewer (length words) run n (suc n) (omega arith) within) i
    ++ receipt_in-more words more run n (within n (omega arith)) i ∷ []

receipts_in-more : (words more : List ℕ) (len start : ℕ) (runs : List ReceiptRun) → AreRuns (length words) len start runs → receipts_in (words ++ more) len runs ≡ receipts_in words len runs
receipts_in-more words more len start [] are = refl
receipts_in-more words more len start (run ∷ runs) are =
    let within : IsRunWithin (length words) run (next_start len runs - run.start) = subst (λ s. IsRunWithin (length words) run (next_start len runs - s)) (sym are.0.0) are.0.2 in
    λ i. run_receipts-more words more run (next_start len runs - run.start) within i ++ receipts_in-more words more len (next_start len runs) runs are.1 i

length-run_receipts : (words : List ℕ) (run : ReceiptRun) (n : ℕ) → length (run_receipts words run n) ≡ n
length-run_receipts words run zero = refl
length-run_receipts words run (suc n) = length-append (run_receipts words run n) (receipt_in words run n ∷ []) ∙ let e = length-run_receipts words run n in omega arith

-- how many receipts there are
pub length-receipts_in : (words : List ℕ) (wide len start : ℕ) (runs : List ReceiptRun) → AreRuns wide len start runs → start + length (receipts_in words len runs) ≡ len
length-receipts_in words wide len start [] are = let e : start ≡ len = are in omega arith
length-receipts_in words wide len start (run ∷ runs) are =
    let parts = length-append (run_receipts words run (next_start len runs - run.start)) (receipts_in words len runs) in
    let here = length-run_receipts words run (next_start len runs - run.start) in
    let rest = length-receipts_in words wide len (next_start len runs) runs are.1 in
    let from = are.0.0 in
    let up = are.0.1 in
    omega arith

pub get_left : {Y : Type 0} (l m : List Y) (i : ℕ) (y : Y) → slice_get l i ≡ Some y → slice_get (l ++ m) i ≡ Some y
get_left [] m i y at = absurd cc
get_left (x ∷ l) m zero y at = at
get_left (x ∷ l) m (suc i) y at = get_left l m i y at

pub get_right : {Y : Type 0} (l m : List Y) (k i : ℕ) (y : Y) → k ≡ length l + i → slice_get m i ≡ Some y → slice_get (l ++ m) k ≡ Some y
get_right [] m k i y e at = let same : k ≡ i = omega arith in ap (λ k. slice_get m k) same ∙ at
get_right (x ∷ l) m zero i y e at = absurd (omega arith)
get_right (x ∷ l) m (suc k) i y e at = get_right l m k i y (omega arith) at

get-run_receipts : (words : List ℕ) (run : ReceiptRun) (n k : ℕ) → k < n → slice_get (run_receipts words run n) k ≡ Some (receipt_in words run k)
get-run_receipts words run zero k less = absurd (omega arith)
get-run_receipts words run (suc n) k less = elim (cases_lt k n) [
  | inl before ↦ get_left (run_receipts words run n) (receipt_in words run n ∷ []) k (receipt_in words run k) (get-run_receipts words run n k before)
  | inr last ↦
      let same : k ≡ n = omega arith in
      let long = length-run_receipts words run n in
      get_right (run_receipts words run n) (receipt_in words run n ∷ []) k 0 (receipt_in words run k) (omega arith) (ap (λ k. Some (receipt_in words run k)) (sym same))
]

-- the receipt at a place that a run has, and that the run's call is within these words
pub record Stands (words : List ℕ) (wide len start place : ℕ) (runs : List ReceiptRun) (run : ReceiptRun) : Type 0 where
  pub receipt : slice_get (receipts_in words len runs) (place - start) ≡ Some (receipt_in words run (place - run.start))
  pub within : HasCall wide run (place - run.start)

-- the run of the place is the first, or one behind it
stands_at : (words : List ℕ) (wide len start place i : ℕ) (runs : List ReceiptRun) (run : ReceiptRun) → AreRuns wide len start runs → start ≤ place → place < len
    → slice_get runs i ≡ Some run → run.start ≤ place → ((next : ReceiptRun) → slice_get runs (i + 1) ≡ Some next → place < next.start) → Stands words wide len start place runs run
stands_at words wide len start place i [] run are low high at from to = absurd cc
stands_at words wide len start place zero (first ∷ runs) run are low high at from to =
    let same : first ≡ run = same_Some first run at in
    let ends : place < next_start len runs = before runs high (λ next is. to next is) in
    let starts : run.start ≡ start = ap (λ (r : ReceiptRun). r.start) (sym same) ∙ are.0.0 in
    let fits : place - run.start < next_start len runs - first.start = let e = are.0.0 in omega arith in
    let place_is : place - start ≡ place - run.start = omega arith in
    record {
      receipt = ap (λ k. slice_get (receipts_in words len (first ∷ runs)) k) place_is
          ∙ get_left (run_receipts words first (next_start len runs - first.start)) (receipts_in words len runs) (place - run.start) (receipt_in words run (place - run.start))
          (get-run_receipts words first (next_start len runs - first.start) (place - run.start) fits ∙ ap (λ (r : ReceiptRun). Some (receipt_in words r (place - run.start))) same);
      within = subst (λ (r : ReceiptRun). HasCall wide r (place - run.start)) same (are.0.2 (place - run.start) (let e = are.0.0 in omega arith));
    }
  where
    before : (runs : List ReceiptRun) → place < len → ((next : ReceiptRun) → slice_get runs 0 ≡ Some next → place < next.start) → place < next_start len runs
    before [] high to = high
    before (next ∷ runs) high to = to next refl
stands_at words wide len start place (suc i) (first ∷ runs) run are low high at from to =
    let later : next_start len runs ≤ place = behind runs i (next_start len runs) are.1 at in
    let e : suc i + 1 ≡ suc (i + 1) = omega arith in
    let rest = stands_at words wide len (next_start len runs) place i runs run are.1 later high at from (λ next is. to next (ap (λ k. slice_get (first ∷ runs) k) e ∙ is)) in
    let long = length-run_receipts words first (next_start len runs - first.start) in
    record {
      receipt = get_right (run_receipts words first (next_start len runs - first.start)) (receipts_in words len runs) (place - start) (place - next_start len runs) (receipt_in words run (place - run.start))
          (let e = are.0.0 in let up = are.0.1 in omega arith) rest.receipt;
      within = rest.within;
    }
  where
    behind : (runs : List ReceiptRun) (i start : ℕ) → AreRuns wide len start runs → slice_get runs i ≡ Some run → start ≤ place
    behind [] i start are at = absurd cc
    behind (first ∷ runs) zero start are at = let e = are.0.0 in let same : first.start ≡ run.start = ap (λ (r : ReceiptRun). r.start) (same_Some first run at) in omega arith
    behind (first ∷ runs) (suc i) start are at = let rest = behind runs i (next_start len runs) are.1 at in let up = are.0.1 in omega arith

pub stands : (words : List ℕ) (len place i : ℕ) (runs : List ReceiptRun) → AreRuns (length words) len 0 runs → place < len → (has : HasPlace runs place i)
    → Stands words (length words) len 0 place runs has.run
stands words len place i runs are high has = stands_at words (length words) len 0 place i runs has.run are (omega arith) high has.at has.from has.to

-- the first run starts at the first place
pub first_at : (wide len start : ℕ) (runs : List ReceiptRun) (first : ReceiptRun) → AreRuns wide len start runs → slice_get runs 0 ≡ Some first → first.start ≡ start
first_at wide len start [] first are at = absurd cc
first_at wide len start (run ∷ runs) first are at = ap (λ (r : ReceiptRun). r.start) (sym (same_Some run first at)) ∙ are.0.0

pub not_empty : (n : ℕ) → (n == 0) ≡ false → 0 < n
not_empty zero is = absurd cc
not_empty (suc n) is = omega arith

-- a run's call that is told to be the receipt's, which it follows
receipt_in-told : (words : List ℕ) (run : ReceiptRun) (k : ℕ) (call : StoredCall) (receipt : Receipt) → Follows run k receipt
    → call_in call k (run_from words (first_in (with_call run call) k) (call_width call)) ≡ receipt.call → receipt_in words (with_call run call) k ≡ receipt
receipt_in-told words run k call receipt next calls =
    λ i. record {
      key = record {
        span = same_id (key_in run k).span receipt.key.span next.shard next.serial i;
        slot = next.slot i;
        generation = next.generation i;
        generation_in_range = is_prop→PathP (λ i. 1 ≤ next.generation i) (λ i. le_prop) run.generation_in_range receipt.key.generation_in_range i;
      };
      worker = next.worker i;
      section = next.section i;
      at = next.place i;
      call = calls i;
    }

-- the next call of a run is the receipt
receipt_in-next : (words : List ℕ) (run : ReceiptRun) (k first : ℕ) (call : StoredCall) (receipt : Receipt) → IsNextOf run k first call receipt
    → call_in call k (run_from words first (call_width call)) ≡ receipt.call → receipt_in words run k ≡ receipt
receipt_in-next words run k first call receipt next told = receipt_in-told words run k run.call receipt next.follows
    ((λ i. call_in (next.call_is i) k (run_from words (next.words i) (call_width (next.call_is i)))) ∙ told)

next_start-last : (more len : ℕ) (second : ReceiptRun) (runs : List ReceiptRun) (call : StoredCall)
    → next_start more (with_last_call (second ∷ runs) call) ≡ next_start len (second ∷ runs)
next_start-last more len second [] call = refl
next_start-last more len second (third ∷ runs) call = refl

-- the last run's call is another one, by which it shows the same receipts, and one more
receipts_in-last : (words : List ℕ) (wide len start last : ℕ) (runs : List ReceiptRun) (run : ReceiptRun) (call : StoredCall) → AreRuns wide len start runs → IsLast runs len run last
    → run_receipts words (with_call run call) (len - run.start) ≡ run_receipts words run (len - run.start)
    → receipts_in words (len + 1) (with_last_call runs call) ≡ receipts_in words len runs ++ receipt_in words (with_call run call) (len - run.start) ∷ []
receipts_in-last words wide len start zero (first ∷ []) run call are is before =
    let same : first ≡ run = same_Some first run is.at in
    let more : (len + 1) - run.start ≡ suc (len - run.start) = let low = is.from in omega arith in
    (λ i. run_receipts words (with_call (same i) call) ((len + 1) - (same i).start) ++ [])
    ∙ append-nil (run_receipts words (with_call run call) ((len + 1) - run.start))
    ∙ ap (run_receipts words (with_call run call)) more
    ∙ (λ i. before i ++ receipt_in words (with_call run call) (len - run.start) ∷ [])
    ∙ (λ i. sym (append-nil (run_receipts words (sym same i) (len - (sym same i).start))) i ++ receipt_in words (with_call run call) (len - run.start) ∷ [])
receipts_in-last words wide len start zero (first ∷ second ∷ runs) run call are is before = absurd (let count = is.count in omega arith)
receipts_in-last words wide len start (suc last) (first ∷ second ∷ runs) run call are is before = search (rules, next_start-last, append_assoc, (receipts_in-last words wide len second.start last (second ∷ runs) run call are.1))
receipts_in-last words wide len start last runs run call are is before = absurd (let at = is.at in cc)

next_start-push : (more len : ℕ) (runs : List ReceiptRun) (run : ReceiptRun) → run.start ≡ len → next_start more (runs ++ run ∷ []) ≡ next_start len runs
next_start-push more len [] run last = last
next_start-push more len (first ∷ runs) run last = refl

-- one more run that starts where the others end
receipts_in-push : (words : List ℕ) (wide len start : ℕ) (runs : List ReceiptRun) (run : ReceiptRun) → AreRuns wide len start runs → run.start ≡ len
    → receipts_in words (len + 1) (runs ++ run ∷ []) ≡ receipts_in words len runs ++ receipt_in words run 0 ∷ []
receipts_in-push words wide len start [] run are last = search (rules, append-nil)
receipts_in-push words wide len start (first ∷ runs) run are last =
    (λ i. run_receipts words first (next_start-push (len + 1) len runs run last i - first.start) ++ receipts_in-push words wide len (next_start len runs) runs run are.1 last i)
    ∙ sym (append_assoc (run_receipts words first (next_start len runs - first.start)) (receipts_in words len runs) (receipt_in words run 0 ∷ []))

-- the calls of the last run so far are within these words
within_last : (wide len start last : ℕ) (runs : List ReceiptRun) (run : ReceiptRun) → AreRuns wide len start runs → IsLast runs len run last → IsRunWithin wide run (len - run.start)
within_last wide len start zero (first ∷ []) run are is =
    subst (λ (r : ReceiptRun). IsRunWithin wide r (len - r.start)) (same_Some first run is.at) (subst (λ s. IsRunWithin wide first (len - s)) (sym are.0.0) are.0.2)
within_last wide len start zero (first ∷ second ∷ runs) run are is = absurd (let count = is.count in omega arith)
within_last wide len start (suc last) (first ∷ second ∷ runs) run are is =
    within_last wide len second.start last (second ∷ runs) run are.1 (record { count = let count = is.count in omega arith; at = is.at; from = is.from })
within_last wide len start last runs run are is = absurd (let at = is.at in cc)

-- the same of what ties runs to words and places
AreRuns-last : (wide more len start last : ℕ) (runs : List ReceiptRun) (run : ReceiptRun) (call : StoredCall) → AreRuns wide len start runs → wide ≤ more → IsLast runs len run last
    → IsRunWithin more (with_call run call) ((len - run.start) + 1) → AreRuns more (len + 1) start (with_last_call runs call)
AreRuns-last wide more len start zero (first ∷ []) run call are low is within =
    let same : first ≡ run = same_Some first run is.at in
    let e = are.0.0 in
    let up = are.0.1 in
    let n : (len - first.start) + 1 ≡ (len + 1) - start = omega arith in (
      (
        are.0.0,
        omega arith,
        subst (IsRunWithin more (with_call first call)) n (subst (λ (r : ReceiptRun). IsRunWithin more (with_call r call) ((len - r.start) + 1)) (sym same) within),
      ),
      refl,
    )
AreRuns-last wide more len start zero (first ∷ second ∷ runs) run call are low is within = absurd (let count = is.count in omega arith)
AreRuns-last wide more len start (suc last) (first ∷ second ∷ runs) run call are low is within =
    let rest : IsLast (second ∷ runs) len run last = record { count = let count = is.count in omega arith; at = is.at; from = is.from } in
    let next = next_start-last (len + 1) len second runs call in (
      (
        are.0.0,
        subst (λ n. start < n) (sym next) are.0.1,
        subst (λ n. IsRunWithin more first (n - start)) (sym next) (IsRunWithin-more wide more first (second.start - start) low are.0.2),
      ),
      subst (λ n. AreRuns more (len + 1) n (with_last_call (second ∷ runs) call)) (sym next)
          (AreRuns-last wide more len second.start last (second ∷ runs) run call are.1 low rest within),
    )
AreRuns-last wide more len start last runs run call are low is within = absurd (let at = is.at in cc)

-- the last run is replaced by itself with this call
set-with_call : (runs : List ReceiptRun) (last : ℕ) (run new : ReceiptRun) (call : StoredCall) → last + 1 ≡ length runs → run ≡ get_or runs last run → new ≡ with_call run call
    → slice_set runs last new ≡ with_last_call runs call
set-with_call (first ∷ []) zero run new call count read is = (λ i. is i ∷ []) ∙ (λ i. with_call (read i) call ∷ [])
set-with_call (first ∷ second ∷ runs) (suc last) run new call count read is =
    ap (λ l. first ∷ l) (set-with_call (second ∷ runs) last run new call (omega arith) read is)
set-with_call runs last run new call count read is = absurd (omega arith)

-- the last run is written with this call, and with any proofs of what its numbers are
pub with_last_call-set : (runs : List ReceiptRun) (last : ℕ) (run : ReceiptRun) (call : StoredCall) (shard : run.shard < MOST_SHARDS) (serial : run.serial < MOST_SPANS) (generation : 1 ≤ run.generation)
    → last + 1 ≡ length runs → run ≡ get_or runs last run
    → slice_set runs last (record (with_call run call) { shard_in_range = shard; serial_in_range = serial; generation_in_range = generation }) ≡ with_last_call runs call
with_last_call-set runs last run call shard serial generation count read =
    set-with_call runs last run (record (with_call run call) { shard_in_range = shard; serial_in_range = serial; generation_in_range = generation }) call count read
    (λ i. record (with_call run call) {
      shard_in_range = le_prop shard run.shard_in_range i;
      serial_in_range = le_prop serial run.serial_in_range i;
      generation_in_range = le_prop generation run.generation_in_range i;
    })

-- where the last run's call is its own, the runs are as they were
with_last_call-own : (len last : ℕ) (runs : List ReceiptRun) (run : ReceiptRun) → IsLast runs len run last → with_last_call runs run.call ≡ runs
with_last_call-own len last [] run is = refl
with_last_call-own len zero (first ∷ []) run is = let same : first ≡ run = same_Some first run is.at in λ i. with_call first (sym same i).call ∷ []
with_last_call-own len (suc last) (first ∷ []) run is = absurd (let at = is.at in cc)
with_last_call-own len zero (first ∷ second ∷ runs) run is = absurd (let count = is.count in omega arith)
with_last_call-own len (suc last) (first ∷ second ∷ runs) run is =
    ap (λ l. first ∷ l) (with_last_call-own len last (second ∷ runs) run (record { count = let count = is.count in omega arith; at = is.at; from = is.from }))

AreRuns-push : (wide more len start : ℕ) (runs : List ReceiptRun) (run : ReceiptRun) → AreRuns wide len start runs → wide ≤ more → run.start ≡ len → IsRunWithin more run 1
    → AreRuns more (len + 1) start (runs ++ run ∷ [])
AreRuns-push wide more len start [] run are low last within =
    let e : start ≡ len = are in
    let n : 1 ≡ (len + 1) - start = omega arith in
    ((last ∙ sym e, omega arith, subst (IsRunWithin more run) n within), refl)
AreRuns-push wide more len start (first ∷ runs) run are low last within =
    let next = next_start-push (len + 1) len runs run last in (
      (
        are.0.0,
        subst (λ n. start < n) (sym next) are.0.1,
        subst (λ n. IsRunWithin more first (n - start)) (sym next) (IsRunWithin-more wide more first (next_start len runs - start) low are.0.2),
      ),
      subst (λ n. AreRuns more (len + 1) n (runs ++ run ∷ [])) (sym next) (AreRuns-push wide more len (next_start len runs) runs run are.1 low last within),
    )

-- the call whose words were added last
told_last : (words : List ℕ) (k first : ℕ) (call : StoredCall) (receipt : Receipt) → first ≡ length words → call_width call ≡ length (call_words receipt.call)
    → call_in call k (call_words receipt.call) ≡ receipt.call → call_in call k (run_from (words ++ call_words receipt.call) first (call_width call)) ≡ receipt.call
told_last words k first call receipt last wide is = search (rules, run_from-last)

-- a receipt with words of its own, which are added
module _ (words : List ℕ) (len first : ℕ) (runs : List ReceiptRun) (call : StoredCall) (receipt : Receipt) (are : AreRuns (length words) len 0 runs) (last : first ≡ length words)
    (wide : call_width call ≡ length (call_words receipt.call)) (is : (k : ℕ) → call_in call k (call_words receipt.call) ≡ receipt.call) where
  abbrev all_words : List ℕ
  all_words = words ++ call_words receipt.call

  long : length all_words ≡ length words + length (call_words receipt.call)
  long = length-append words (call_words receipt.call)

  -- the next call of a run is within the words
  has_next : (run : ReceiptRun) (k : ℕ) → IsNextOf run k first call receipt → HasCall (length all_words) run k
  has_next run k next = search (rules, long)

  shown : (run : ReceiptRun) (k : ℕ) → IsNextOf run k first call receipt → receipt_in all_words run k ≡ receipt
  shown run k next = receipt_in-next all_words run k first call receipt next (told_last words k first call receipt last wide (is k))

  -- it goes on with the last run
  pub runs-goes_on : GoesOn runs len first call receipt → AreRuns (length (words ++ call_words receipt.call)) (len + 1) 0 runs
  runs-goes_on on =
      let run = on.run in
      let before = IsRunWithin-more (length words) (length all_words) run (len - run.start) (omega (arith, long)) (within_last (length words) len 0 on.last runs run are on.is_last) in
      subst (AreRuns (length all_words) (len + 1) 0) (with_last_call-own len on.last runs run on.is_last)
      (AreRuns-last (length words) (length all_words) len 0 on.last runs run run.call are (omega (arith, long)) on.is_last
      (IsRunWithin-push (length all_words) run (len - run.start) before (has_next run (len - run.start) on.next)))

  pub receipts-goes_on : GoesOn runs len first call receipt → receipts_in (words ++ call_words receipt.call) (len + 1) runs ≡ receipts_in words len runs ++ receipt ∷ []
  receipts-goes_on on =
      let run = on.run in
      ap (receipts_in all_words (len + 1)) (sym (with_last_call-own len on.last runs run on.is_last))
      ∙ receipts_in-last all_words (length words) len 0 on.last runs run run.call are on.is_last refl
      ∙ (λ i. receipts_in-more words (call_words receipt.call) len 0 runs are i ++ shown run (len - run.start) on.next i ∷ [])

  -- it begins a run of its own
  module _ (run : ReceiptRun) (next : IsNextOf run 0 first call receipt) (start : run.start ≡ len) where
    pub runs-push : AreRuns (length (words ++ call_words receipt.call)) (len + 1) 0 (runs ++ run ∷ [])
    runs-push = AreRuns-push (length words) (length all_words) len 0 runs run are (omega (arith, long)) start
        (IsRunWithin-push (length all_words) run 0 (λ k low. absurd (omega arith)) (has_next run 0 next))

    pub receipts-push : receipts_in (words ++ call_words receipt.call) (len + 1) (runs ++ run ∷ []) ≡ receipts_in words len runs ++ receipt ∷ []
    receipts-push = search (rules, receipts_in-push, receipts_in-more, shown)

-- a receipt whose word counts up: no word is added
module _ (words : List ℕ) (len : ℕ) (runs : List ReceiptRun) (call : StoredCall) (receipt : Receipt) (are : AreRuns (length words) len 0 runs) (on : CountsOn words runs len call receipt) where
  -- the words of a counted run are the first alone
  has_counted : (k : ℕ) → on.run.slot + k < 256 → on.run.at + k < 2 ^ 64 → HasCall (length words) (with_call on.run call) k
  has_counted k slot place = search rules

  pub runs-counted : AreRuns (length words) (len + 1) 0 (with_last_call runs call)
  runs-counted =
      let run = on.run in
      let n = len - run.start in
      let before = within_last (length words) len 0 on.last runs run are on.is_last in
      AreRuns-last (length words) (length words) len 0 on.last runs run call are (omega arith) on.is_last
      (IsRunWithin-push (length words) (with_call run call) n (λ k low. has_counted k (before k low).0 (before k low).1)
      (has_counted n on.next.follows.slot_fits on.next.follows.place_fits))

  pub receipts-counted : receipts_in words (len + 1) (with_last_call runs call) ≡ receipts_in words len runs ++ receipt ∷ []
  receipts-counted =
      let run = on.run in
      let n = len - run.start in
      let first : first_in (with_call run call) n ≡ run.first = let none : n * stride call ≡ 0 = ap (λ s. n * s) on.next.same ∙ omega arith in omega arith in
      let told : call_in call n (run_from words (first_in (with_call run call) n) (call_width call)) ≡ receipt.call =
      (λ i. call_in call n (run_from words (first i) (on.next.one i))) ∙ on.next.told in
      receipts_in-last words (length words) len 0 on.last runs run call are on.is_last on.next.before
      ∙ (λ i. receipts_in words len runs ++ receipt_in-told words run n call receipt on.next.follows told i ∷ [])

-- a run is shown the same by another call, if it is its own, or shows the first call, which is all there is, the same
before_shown : (words : List ℕ) (run : ReceiptRun) (k : ℕ) (call counted : StoredCall) → MayCount run.call k call counted
    → call_in counted 0 (run_from words (first_in (with_call run counted) 0) (call_width counted)) ≡ call_in call 0 (run_from words (first_in (with_call run call) 0) (call_width call))
    → run_receipts words (with_call run counted) k ≡ run_receipts words run k
before_shown words run k call counted may shown = search rules

own_at : (words : List ℕ) (first : ℕ) → counted_up 0 (run_from words first 1) ≡ run_from words first 1 → counted_up 0 (run_from words (first + 0) 1) ≡ run_from words (first + 0) 1
own_at words first own = let same : first ≡ first + 0 = omega arith in subst (λ n. counted_up 0 (run_from words n 1) ≡ run_from words n 1) same own

-- the counted form of the calls of a class, which has one word then
form_of_one : (class : Class) (call counted : StoredCall) → (if width_of class == 1 then Some call else None) ≡ Some counted → (call ≡ counted) × (class ≡ C16)
form_of_one class call counted form = by_test (eqb (width_of class) 1) refl form
  where
    by_test : (b : Bool) → eqb (width_of class) 1 ≡ b → (if b then Some call else None) ≡ Some counted → (call ≡ counted) × (class ≡ C16)
    by_test true one is = (same_Some call counted is, width_of-injective class C16 (eqb-true (width_of class) 1 one))
    by_test false one is = absurd cc

-- a run of one call, or a counted one, is counted where the next word counts up
pub counted_if : (words : List ℕ) (run : ReceiptRun) (k : ℕ) (call counted : StoredCall) (receipt : Receipt) → counted_form call ≡ Some counted → MayCount run.call k call counted
    → call_in call k (call_words receipt.call) ≡ receipt.call → CountsUp words run.first k (call_words receipt.call) → Follows run k receipt → IsCountedOf words run k counted receipt
counted_if words run k (Put class) counted receipt form may is up follows = search (rules, form_of_one, own_at, before_shown)
counted_if words run k (Set class) counted receipt form may is up follows = search (rules, form_of_one, own_at, before_shown)
counted_if words run k call counted receipt form may is up follows = absurd cc

-- the receipt at a place, by the run that was read at the number that has it
pub record FoundRun (words : List ℕ) (len place i : ℕ) (runs : List ReceiptRun) (run : ReceiptRun) : Type 0 where
  pub inside : i < length runs
  pub from : run.start ≤ place
  pub within : HasCall (length words) run (place - run.start)
  pub at : slice_get (receipts_in words len runs) place ≡ Some (receipt_in words run (place - run.start))

pub FoundRun-at : (words : List ℕ) (len place i : ℕ) (runs : List ReceiptRun) (run : ReceiptRun) → AreRuns (length words) len 0 runs → place < length (receipts_in words len runs)
    → HasPlace runs place i → run ≡ get_or runs i run → FoundRun words len place i runs run
FoundRun-at words len place i runs run are high has read =
    let same : has.run ≡ run = sym (read ∙ get_or_from_slice_get runs i has.run run has.at) in
    let there = stands words len place i runs are (let count = length-receipts_in words (length words) len 0 runs are in omega arith) has in
    subst (FoundRun words len place i runs) same (record {
      inside = slice_get_within runs i has.run has.at;
      from = has.from;
      within = there.within;
      at = let e : place ≡ place - 0 = omega arith in ap (λ k. slice_get (receipts_in words len runs) k) e ∙ there.receipt;
    })

-- the first run starts at no place above that of a receipt
pub first_low : (words : List ℕ) (wide len place : ℕ) (runs : List ReceiptRun) (first : ReceiptRun) → AreRuns wide len 0 runs → slice_get runs 0 ≡ Some first → first.start ≤ place
first_low words wide len place runs first are at = let zero_is = first_at wide len 0 runs first are at in omega arith
