use Rattle.std.proofs.Common.{ap}
use Rattle.std.specs.Prelude.{Some}
use Rattle.teurlaks_c.proofs.HandingOut.{HandsOutRecorded-of, HandsOutSeat-of}
use Rattle.teurlaks_c.proofs.stewards.take_seat.Goals as goal

pub returns-in-Steward : goal.returns-in-Steward
returns-in-Steward c =
    let same = c.seat_of.ensures.same in
    HandsOutSeat-of (λ b. b.value) (Some c.args.share.now) c.in-Steward.steward c.seat_of.new.steward
    (ap Some c.in-Steward.is) same.0 same.1 c.seat_of.result c.seat_of.ensures.handed

pub returns-in-RecordedSteward : goal.returns-in-RecordedSteward
returns-in-RecordedSteward c =
    let same = c.kept_seat_of.ensures.same in
    HandsOutRecorded-of (λ b. b.value) (Some c.args.share.now) c.in-RecordedSteward.steward c.kept_seat_of.new.steward
    (ap Some c.in-RecordedSteward.is) same.0 same.1
    c.kept_seat_of.result c.kept_seat_of.ensures.handed
