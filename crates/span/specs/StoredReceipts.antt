-- How a list keeps receipts: those of calls that follow one another as one, all apart from the
-- words of their objects, and of words that count up the first alone.
use Rattle.std.specs.Prelude.{◌≡◌, ◌⊎◌, zero, suc, ℕ, ◌==◌, ◌+◌, ◌-◌, ◌*◌, ◌%◌, ◌^◌, ◌<◌, ◌≤◌, if◌then◌else◌, List, [], ◌∷◌, ◌++◌, Option, None, Some, length, map, slice_get}
use Rattle.std.specs.Coded.{le_prop, ×_prop, Π_prop, →_prop}
use mathlib.Core.HLevel.{×₃_prop}
use native.Mathlib.Nat.{ℕ_set}
use Rattle.span.specs.Classes.{width_of}
use Rattle.span.specs.Stored.{run_from}
use Rattle.span.specs.declared.key.Key.{Key}
use Rattle.span.specs.declared.receipt.Call.{Call}
use Rattle.span.specs.declared.receipt.Call.TheVariants as call
use Rattle.span.specs.declared.receipt.Receipt.{Receipt}
use Rattle.span.specs.declared.stored_receipt.StoredCall.{StoredCall}
use Rattle.span.specs.declared.stored_receipt.StoredCall.TheVariants.{Put, CountedPut, Found, NotFound, Set, CountedSet, NotSet, Freed, NotFreed}
use Rattle.span.specs.declared.stored_receipt.ReceiptRun.{ReceiptRun}
use Rattle.span.specs.declared.stored_receipt.Joins.{Joins}
use Rattle.span.specs.declared.stored_receipt.Joins.TheVariants.{Apart, WithItsWords, Counted}

-- the words of the call's object; none where it has no object
abbrev pub call_words : Call → List ℕ
call_words (call.Put value) = value
call_words (call.Found value) = value
call_words call.NotFound = []
call_words (call.Set value) = value
call_words (call.NotSet value) = value
call_words call.Freed = []
call_words call.NotFreed = []

-- how many words the call has
abbrev pub call_width : StoredCall → ℕ
call_width (Put class) = width_of class
call_width CountedPut = 1
call_width (Found class) = width_of class
call_width NotFound = 0
call_width (Set class) = width_of class
call_width CountedSet = 1
call_width (NotSet class) = width_of class
call_width Freed = 0
call_width NotFreed = 0

-- how far the words of each call of a run stand behind those of the one before it: words that count
-- up are the same, of the first call
abbrev pub stride : StoredCall → ℕ
stride (Put class) = width_of class
stride CountedPut = 0
stride (Found class) = width_of class
stride NotFound = 0
stride (Set class) = width_of class
stride CountedSet = 0
stride (NotSet class) = width_of class
stride Freed = 0
stride NotFreed = 0

-- the words, each so many further on; 0 follows the greatest
abbrev pub counted_up : ℕ → List ℕ → List ℕ
counted_up k words = map (λ word. (word + k) % 2 ^ 128) words

-- the call with this number of a run, where these words stand for it
abbrev pub call_in : StoredCall → ℕ → List ℕ → Call
call_in (Put class) k words = call.Put words
call_in CountedPut k words = call.Put (counted_up k words)
call_in (Found class) k words = call.Found words
call_in NotFound k words = call.NotFound
call_in (Set class) k words = call.Set words
call_in CountedSet k words = call.Set (counted_up k words)
call_in (NotSet class) k words = call.NotSet words
call_in Freed k words = call.Freed
call_in NotFreed k words = call.NotFreed

-- the key of the run's call with this number
abbrev pub key_in : ReceiptRun → ℕ → Key
key_in run k = record {
  span =
      record {
        shard = run.shard;
        serial = run.serial;
        shard_in_range = run.shard_in_range;
        serial_in_range = run.serial_in_range;
      };
  slot = run.slot + k;
  generation = run.generation;
  generation_in_range = run.generation_in_range;
}

-- where the words of the run's call with this number begin, or those from which they count up
abbrev pub first_in : ReceiptRun → ℕ → ℕ
first_in run k = run.first + k * stride run.call

-- the receipt of the run's call with this number, with its words
abbrev pub receipt_in : List ℕ → ReceiptRun → ℕ → Receipt
receipt_in words run k = record {
  key = key_in run k;
  worker = run.worker;
  section = run.section;
  at = run.at + k;
  call = call_in run.call k (run_from words (first_in run k) (call_width run.call));
}

-- what a run of these calls is where their words count up, which those of objects of one word may
-- do
abbrev pub counted_form : StoredCall → Option StoredCall
counted_form (Put class) = if width_of class == 1 then Some CountedPut else None
counted_form (Set class) = if width_of class == 1 then Some CountedSet else None
counted_form _ = None

-- the run is counted, or has one call so far, which may be either
abbrev pub MayCount : StoredCall → ℕ → StoredCall → StoredCall → Type 0
MayCount run k call counted = (run ≡ counted) ⊎ ((k ≡ 1) × (run ≡ call))

-- that many receipts of the run
abbrev pub run_receipts : List ℕ → ReceiptRun → ℕ → List Receipt
run_receipts words run zero = []
run_receipts words run (suc n) = run_receipts words run n ++ receipt_in words run n ∷ []

-- where the first of the runs starts, or how many receipts there are, if there is none
abbrev pub next_start : ℕ → List ReceiptRun → ℕ
next_start len [] = len
next_start len (run ∷ runs) = run.start

-- the receipts of the runs, with the words of their calls; each run goes up to the start of the
-- next
abbrev pub receipts_in : List ℕ → ℕ → List ReceiptRun → List Receipt
receipts_in words len [] = []
receipts_in words len (run ∷ runs) = run_receipts words run (next_start len runs - run.start)
    ++ receipts_in words len runs

-- the run's call with this number has a slot and a place that are numbers of their types, and words
-- among so many
abbrev pub HasCall : ℕ → ReceiptRun → ℕ → Type 0
HasCall words run k = (run.slot + k < 256) × (run.at + k < 2 ^ 64)
    × (first_in run k + call_width run.call ≤ words)

-- the run has that many calls
abbrev pub IsRunWithin : ℕ → ReceiptRun → ℕ → Type 0
IsRunWithin words run n = (k : ℕ) → k < n → HasCall words run k

IsRunWithin-prop : (words : ℕ) (run : ReceiptRun) (n : ℕ) → IsProp (IsRunWithin words run n)
IsRunWithin-prop words run n = Π_prop (λ k. →_prop (×₃_prop le_prop le_prop le_prop))

-- the run starts at this place, the next ones come behind it, and its calls up to there are within
-- these words
abbrev pub IsRunFrom : ℕ → ℕ → ℕ → ReceiptRun → Type 0
IsRunFrom words start next run = (run.start ≡ start) × (start < next)
    × IsRunWithin words run (next - start)

-- the runs start one after another, the first at this place
abbrev pub AreRuns : ℕ → ℕ → ℕ → List ReceiptRun → Type 0
AreRuns words len start [] = start ≡ len
AreRuns words len start (run ∷ runs) = IsRunFrom words start (next_start len runs) run
    × AreRuns words len (next_start len runs) runs

pub AreRuns-prop : (words len start : ℕ) (runs : List ReceiptRun)
    → IsProp (AreRuns words len start runs)
AreRuns-prop words len start [] = ℕ_set _ _
AreRuns-prop words len start (run ∷ runs) = ×_prop
    (×₃_prop (ℕ_set _ _) le_prop (IsRunWithin-prop words run _))
    (AreRuns-prop words len (next_start len runs) runs)

-- the place is that of a receipt of the run with this number, as far as the starts of this one and
-- the next tell
pub record HasPlace (runs : List ReceiptRun) (place i : ℕ) : Type 0 where
  pub run : ReceiptRun
  pub at : slice_get runs i ≡ Some run
  pub from : run.start ≤ place
  pub to : (next : ReceiptRun) → slice_get runs (i + 1) ≡ Some next → place < next.start

-- the receipt follows the first k calls of the run, whatever it says of its call
pub record Follows (run : ReceiptRun) (k : ℕ) (receipt : Receipt) : Type 0 where
  pub shard : run.shard ≡ receipt.key.span.shard
  pub serial : run.serial ≡ receipt.key.span.serial
  pub slot : run.slot + k ≡ receipt.key.slot
  pub slot_fits : run.slot + k < 256
  pub generation : run.generation ≡ receipt.key.generation
  pub worker : run.worker ≡ receipt.worker
  pub section : run.section ≡ receipt.section
  pub place : run.at + k ≡ receipt.at
  pub place_fits : run.at + k < 2 ^ 64

-- the receipt follows the first k calls of the run, and its words would stand at this place
pub record IsNextOf (run : ReceiptRun) (k first : ℕ) (call : StoredCall) (receipt : Receipt) :
    Type 0 where
  pub follows : Follows run k receipt
  pub call_is : run.call ≡ call
  pub words : first_in run k ≡ first

-- the run, where its call is this one
abbrev pub with_call : ReceiptRun → StoredCall → ReceiptRun
with_call run call = record run { call = call }

-- the object is of the word that comes that many after the one at this place, which is itself the
-- first of them
pub record CountsUp (words : List ℕ) (first k : ℕ) (object : List ℕ) : Type 0 where
  pub inside : first < length words
  pub word : counted_up k (run_from words first 1) ≡ object
  pub own : counted_up 0 (run_from words first 1) ≡ run_from words first 1

-- the receipt follows the first k calls of the run, and its word counts up from the run's first,
-- where the run's call is this one
pub record IsCountedOf (words : List ℕ) (run : ReceiptRun) (k : ℕ) (call : StoredCall)
    (receipt : Receipt) : Type 0 where
  pub follows : Follows run k receipt
  pub before : run_receipts words (with_call run call) k ≡ run_receipts words run k
  pub one : call_width call ≡ 1
  pub same : stride call ≡ 0
  pub inside : run.first < length words
  pub told : call_in call k (run_from words run.first 1) ≡ receipt.call

-- the last of the runs, with as many calls as there are up to so many receipts
pub record IsLast (runs : List ReceiptRun) (len : ℕ) (run : ReceiptRun) (last : ℕ) : Type 0 where
  pub count : last + 1 ≡ length runs
  pub at : slice_get runs last ≡ Some run
  pub from : run.start ≤ len

-- the receipt follows those of the last run
pub record GoesOn (runs : List ReceiptRun) (len first : ℕ) (call : StoredCall) (receipt : Receipt) :
    Type 0 where
  pub run : ReceiptRun
  pub last : ℕ
  pub is_last : IsLast runs len run last
  pub next : IsNextOf run (len - run.start) first call receipt

-- the receipt follows those of the last run, where that run's call is this one, so that its word
-- counts up
pub record CountsOn (words : List ℕ) (runs : List ReceiptRun) (len : ℕ) (call : StoredCall)
    (receipt : Receipt) : Type 0 where
  pub run : ReceiptRun
  pub last : ℕ
  pub is_last : IsLast runs len run last
  pub next : IsCountedOf words run (len - run.start) call receipt

-- what is said of how a receipt joins those before it
abbrev pub JoinsAs : List ℕ → List ReceiptRun → ℕ → StoredCall → Receipt → Joins → Type 0
JoinsAs words runs len call receipt Apart = Unit {0}
JoinsAs words runs len call receipt WithItsWords = GoesOn runs len (length words) call receipt
JoinsAs words runs len call receipt (Counted counted) = CountsOn words runs len counted receipt

-- the runs, where the call of the last is this one
abbrev pub with_last_call : List ReceiptRun → StoredCall → List ReceiptRun
with_last_call [] call = []
with_last_call (run ∷ []) call = with_call run call ∷ []
with_last_call (run ∷ next ∷ runs) call = run ∷ with_last_call (next ∷ runs) call
