use Rattle.teurlaks_c.specs.SeatCalls.{Puts, SaysPut, put_kept, put_told}
use Rattle.teurlaks_c.specs.SessionCalls.{PutsHeld}
use Rattle.teurlaks_c.proofs.Telling.{AsksTold-told, SaysPut-told}
use Rattle.teurlaks_c.proofs.seats.put_values.Goals as goal

pub returns : goal.returns
returns c =
    let words = c.args.words.now in
    let says = c.tell_at_seat.result in
    let told = c.tell_at_seat.ensures in
    AsksTold-told (put_told words) (Puts words) (PutsHeld words) put_kept says.status (SaysPut says) (SaysPut says) (λ none. none)
    (SaysPut-told words says) c.args.handle.now.share c.tell_at_seat.new.handle.share told.0 told.1 told.2
