use Rattle.teurlaks_c.specs.SeatCalls.{Frees, SaysFreed, free_told, freed_kept}
use Rattle.teurlaks_c.specs.SessionCalls.{FreesHeld}
use Rattle.teurlaks_c.proofs.Telling.{AsksTold-told, SaysFreed-told}
use Rattle.teurlaks_c.proofs.seats.free.Goals as goal

pub returns : goal.returns
returns c =
    let says = c.tell_at_seat.result in
    let told = c.tell_at_seat.ensures in
    AsksTold-told free_told (Frees c.args.key) (FreesHeld c.args.key) freed_kept says (SaysFreed says) (SaysFreed says) (λ none. none)
    (SaysFreed-told says) c.args.handle.now.share c.tell_at_seat.new.handle.share told.0 told.1 told.2
