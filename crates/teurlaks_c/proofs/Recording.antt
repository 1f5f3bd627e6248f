-- Calls at a recorded seat.
use mathlib.Core.Logic.{inr}
use Rattle.std.proofs.Common.{◌≡◌, ◌∙◌, ap, refl, sym}
use Rattle.std.specs.Prelude.{List, Option, Result, Ok, Err, Some}
use Rattle.std.specs.declared.alloc.AllocError.{AllocError}
use Rattle.std.proofs.lemmas.List.{append-nil}
use Rattle.span.specs.declared.receipt.Receipt.{Receipt}
use Rattle.arena.specs.Seats.{SeatState}
use Rattle.teurlaks_c.specs.declared.recorded.RecordedSeat.{RecordedSeat as Recorded}
use Rattle.teurlaks_c.specs.declared.share.Share.{Share}
use Rattle.teurlaks_c.specs.declared.share.Share.TheVariants.{RecordedSeat}
use Rattle.teurlaks_c.specs.Recorded.{AtRecorded, DoesKept, asked_of, receipts_of}
use Rattle.teurlaks_c.specs.SeatCalls.{AsksTold, no_receipts}
use Rattle.teurlaks_c.specs.SessionCalls.{Held}

-- what a recorded seat does, the seat of the handle does that has it
pub asked_told : {Answer : Type 0} (does : SeatState → Answer → SeatState → Type 0) (does_held : Held → Answer → Held → Type 0)
    (told : SeatState → Answer → List Receipt) (old : Option Share) (before after : Recorded)
    → old ≡ Some (RecordedSeat before) → after.arena ≡ before.arena → (answer : Result Answer AllocError) → DoesKept does told before.kept answer after.kept
    → AsksTold does does_held told old (asked_of answer) (Some (RecordedSeat after))
asked_told does does_held told old before after is arena (Ok answer) did =
    inr (inr (record { before = before; after = after; before_is = is; after_is = refl; arena_is = arena; did = did }))
asked_told does does_held told old before after is arena (Err error) did = record {
  before = before;
  after = after;
  before_is = is;
  after_is = refl;
  arena_is = arena;
  did = did;
}

-- the same of a call that no receipt is made of
pub asked_without_receipt : {Answer : Type 0} (does : SeatState → Answer → SeatState → Type 0) (old : Option Share) (before after : Recorded)
    → old ≡ Some (RecordedSeat before) → after.arena ≡ before.arena → after.kept.receipts ≡ before.kept.receipts
    → (answer : Answer) → does before.kept.seat answer after.kept.seat → AtRecorded does no_receipts old (Ok answer) (Some (RecordedSeat after))
asked_without_receipt does old before after is arena receipts answer did = record {
  before = before;
  after = after;
  before_is = is;
  after_is = refl;
  arena_is = arena;
  did = ((did, ap (λ list. receipts_of (record { seat = after.kept.seat; receipts = list })) receipts ∙ sym (append-nil (receipts_of before.kept))), tt);
}
