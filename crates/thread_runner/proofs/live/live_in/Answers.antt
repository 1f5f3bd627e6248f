use Rattle.thread_runner.proofs.Names.{◌∙◌, ◌+◌, length, refl, sym, slice_get_read}
use Rattle.thread_runner.proofs.Lists.{live_count-more_log}
use Rattle.thread_runner.proofs.live.live_in.Goals as goal

pub loop-log-preserved : goal.loop-log-preserved
loop-log-preserved c =
    let logs = c.args.logs.now in
    let here = slice_get_read logs (length logs) c.loop-log.log-index c.log-item.result refl c.loop-log-test.true c.log-item.is in
    c.in_ok-live.ensures ∙ (λ i. c.loop-log.invariant i + c.live_after.ensures i) ∙ sym (live_count-more_log logs c.loop-log.log-index c.log-item.result here)
