use Rattle.std.proofs.Common.{length, refl, subst}
use Rattle.std.proofs.lemmas.Option.{slice_get_read}
use Rattle.span.specs.Ids.{rank}
use Rattle.groups.specs.FirstLive.{IsFirstAmong}
use Rattle.groups.specs.Group.{spans_of}
use Rattle.groups.specs.Spans.{SpansState, all_spans}
use Rattle.groups.proofs.FirstLive.{IsFirstAmong-more}
use Rattle.pool.proofs.walks.first_live.Goals as goal

pub loop-group-preserved : goal.loop-group-preserved
loop-group-preserved g c =
    let here = slice_get_read c.args.groups.now (length c.args.groups.now) c.loop-group.group-index c.group-item.result refl c.loop-group-test.true c.group-item.is in
    IsFirstAmong-more spans_of c.args.groups.now c.loop-group.group-index c.group-item.result (rank c.args.from) c.loop-group.first c.first_live.result c.earlier-first.result here
    c.loop-group.invariant
    (subst (λ (s : SpansState). IsFirstAmong (all_spans s) (rank c.args.from) c.first_live.result) c.spans.ensures c.first_live.ensures) c.earlier-first.ensures
