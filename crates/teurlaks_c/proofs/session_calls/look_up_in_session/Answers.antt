use Rattle.std.proofs.Common.{◌≡◌, ap}
use Rattle.arena.specs.Delays.{CountsCall}
use Rattle.arena.specs.KeyAnswers.{changes_at}
use Rattle.shard.specs.Shown.{shown}
use Rattle.teurlaks_c.proofs.Telling.{SaysGot-held}
use Rattle.teurlaks_c.proofs.session_calls.look_up_in_session.Goals as goal

pub returns-clause-does : goal.returns-clause-does
returns-clause-does c =
    let before = c.args.shared.now.session in
    let after = c.try_get-answer.new.self in
    let looked = c.try_get-answer.ensures in
    let said = SaysGot-held (changes_at looked.told.0) ((shown before.shard.value.value).value_of c.args.key.now) (CountsCall before.seat after.seat)
    (after.seat ≡ before.seat)
    c.args.room.now c.try_get-answer.new.room c.looked_reply.result c.try_get-answer.result
    looked.told.2 looked.seat looked.busy c.looked_reply.ensures in
    (said.0, ((looked.told.0, looked.told.1, said.1.0), ap (λ hold. hold.value.value) looked.shard, said.1.1, said.1.2), said.2)
