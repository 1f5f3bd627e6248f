use Rattle.std.proofs.Common.{◌∙◌, ap, arith, length, refl, sym, take, filter}
use Rattle.std.proofs.lemmas.Option.{slice_get_read}
use Rattle.groups.specs.Group.{spans_in}
use Rattle.groups.specs.Spans.{live_count}
use Rattle.pool.proofs.Walked.{live_count-push, paged, paged-as_before, paged-more}
use Rattle.pool.proofs.walks.live.Goals as goal
use Rattle.pool.proofs.walks.live.Goals.{then-is_paged, else-is_paged}

pub loop-group-preserved : goal.loop-group-preserved
loop-group-preserved g c =
    let here = slice_get_read c.args.groups.now (length c.args.groups.now) c.loop-group.group-index c.group-item.result refl c.loop-group-test.true c.group-item.is in
    let before = c.loop-group.invariant in
    elim c.if-is_paged.branch [
      | then-is_paged w ↦
          let more = ap (λ gs. live_count (spans_in gs)) (paged-more c.args.groups.now c.loop-group.group-index c.group-item.result here (sym c.is_paged.ensures ∙ w.if-is_paged.true))
          ∙ live_count-push (filter paged (take c.loop-group.group-index c.args.groups.now)) c.group-item.result in
          (omega (arith, before.0, more, w.live-is, w.live-live.ensures.live), omega (arith, before.1, w.live-is, w.live-live.ensures.at_most))
      | else-is_paged w ↦
          let same = ap (λ gs. live_count (spans_in gs)) (paged-as_before c.args.groups.now c.loop-group.group-index c.group-item.result here (sym c.is_paged.ensures ∙ w.if-is_paged.false)) in
          (omega (arith, before.0, same, w.live-is), omega (arith, before.1, w.live-is))
    ]
