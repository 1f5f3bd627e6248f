use Rattle.thread_runner.proofs.Names.{◌≡◌, take, keys_in}
use Rattle.thread_runner.specs.declared.layout.LineFirst.{LineFirst}
use Rattle.thread_runner.proofs.Counting.{each_at-push}
use Rattle.thread_runner.proofs.layout.enter_first.Goals as goal

pub returns : goal.returns
returns c = λ lines are is.
    rw (c.in_ok-push.ensures.items)
    (each_at-push (λ index (one : LineFirst). one.first ≡ keys_in (take one.place lines)) c.args.firsts.now.items
    (record { place = c.args.place; first = c.args.first }) are is)
