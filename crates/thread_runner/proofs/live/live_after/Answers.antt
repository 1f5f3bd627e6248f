use Rattle.thread_runner.proofs.Names.{◌∙◌, ap, sym, take, live_slots-empty, kept_changes, live_slots, viewed, take_more}
use Rattle.thread_runner.proofs.live.live_after.Goals as goal

pub loop-place-init : goal.loop-place-init
loop-place-init c = c.empty-live.ensures ∙ sym live_slots-empty

pub loop-place-preserved : goal.loop-place-preserved
loop-place-preserved c =
    let changes = kept_changes c.args.log.now in
    c.enter.ensures (take c.loop-place.place changes) c.loop-place.invariant ∙ ap live_slots (sym (take_more changes c.loop-place.place (viewed c.view.result) c.view.ensures))
