use Rattle.teurlaks_c.specs.SeatCalls.{Sets, SaysSet, set_kept, set_told}
use Rattle.teurlaks_c.specs.SessionCalls.{SetsHeld}
use Rattle.teurlaks_c.proofs.Telling.{AsksTold-told, SaysSet-told}
use Rattle.teurlaks_c.proofs.seats.set_values.Goals as goal

pub returns : goal.returns
returns c =
    let words = c.args.words.now in
    let says = c.tell_at_seat.result in
    let told = c.tell_at_seat.ensures in
    AsksTold-told (set_told words) (Sets c.args.key words) (SetsHeld c.args.key words) set_kept says (SaysSet says) (SaysSet says) (λ none. none)
    (SaysSet-told words says) c.args.handle.now.share c.tell_at_seat.new.handle.share told.0 told.1 told.2
