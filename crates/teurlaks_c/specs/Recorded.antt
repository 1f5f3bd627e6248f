-- What a call does at the seat of an arena whose run is recorded: it is the call of any seat, and
-- its receipts are kept.
use Rattle.std.specs.Prelude.{◌≡◌, ◌++◌, ℕ, List, Option, Some, Result, Ok, Err, IfOk, OnErr}
use Rattle.std.specs.declared.alloc.AllocError.{AllocError}
use Rattle.span.specs.ReceiptLists.{kept_receipts}
use Rattle.span.specs.declared.receipt.Receipt.{Receipt}
use Rattle.arena.specs.Seats.{SeatState}
use Rattle.teurlaks_c.specs.declared.recorded.KeptSeat.{KeptSeat}
use Rattle.teurlaks_c.specs.declared.recorded.RecordedSeat.{RecordedSeat}
use Rattle.teurlaks_c.specs.declared.share.Share.{Share}
use Rattle.teurlaks_c.specs.declared.share.Share.TheVariants as shares

-- the receipts that a seat has kept, in the order of its calls
abbrev pub receipts_of : KeptSeat → List Receipt
receipts_of kept = kept_receipts kept.receipts

-- the seat does this and answers that, and keeps the receipts of just that after those before; or
-- there is no room for a receipt, and neither the seat nor its receipts change
abbrev pub DoesKept : {Answer : Type 0} → (SeatState → Answer → SeatState → Type 0)
    → (SeatState → Answer → List Receipt) → KeptSeat → Result Answer AllocError
    → KeptSeat → Type 0
DoesKept does told before answer after =
    IfOk answer (λ answer. does before.seat answer after.seat
    × (receipts_of after ≡ receipts_of before ++ told before.seat answer))
    × OnErr answer ((after.seat ≡ before.seat) × (receipts_of after ≡ receipts_of before))

-- this is done from one state to the other, with an answer of which this holds
abbrev pub Answers : {State Answer : Type 0} → (State → Answer → State → Type 0)
    → (Answer → Type 0) → State → State → Type 0
Answers does says old new = (answer : _) × does old answer new × says answer

-- to the receipts before, those of the answer at a seat of this worker in this section are added
abbrev pub AddsTold : {Answer : Type 0} → (SeatState → Answer → List Receipt) → ℕ → ℕ → Answer
    → List Receipt → List Receipt → Type 0
AddsTold told worker section answer before after = (seat : SeatState) → seat.worker ≡ worker
    → seat.section ≡ section → after ≡ before ++ told seat answer

-- the recorded seat of the handle does so, at the same arena
pub record AtRecorded {Answer : Type 0} (does : SeatState → Answer → SeatState
    → Type 0) (told : SeatState → Answer → List Receipt)
    (old : Option Share) (answer : Result Answer AllocError) (new : Option Share) : Type 0 where
  pub before : RecordedSeat
  pub after : RecordedSeat
  pub before_is : old ≡ Some (shares.RecordedSeat before)
  pub after_is : new ≡ Some (shares.RecordedSeat after)
  pub arena_is : after.arena ≡ before.arena
  pub did : DoesKept does told before.kept answer after.kept

-- what a seat that there is answers, as the answer of one that there may be
abbrev pub asked_of : {Answer : Type 0} → Result Answer AllocError
    → Result (Option Answer) AllocError
asked_of (Ok answer) = Ok (Some answer)
asked_of (Err error) = Err error
