use Rattle.teurlaks_c.proofs.Telling.{SaysGot-looked}
use Rattle.teurlaks_c.proofs.seat_calls.look_up.Goals as goal

pub returns-clause-does : goal.returns-clause-does
returns-clause-does c =
    SaysGot-looked c.args.key.now c.args.shared.now.seat c.try_get-answer.new.self c.args.room.now c.try_get-answer.new.room c.looked_reply.result
    c.try_get-answer.result c.try_get-answer.ensures.key c.try_get-answer.ensures.words c.try_get-answer.ensures.seat c.try_get-answer.ensures.busy
    c.looked_reply.ensures
