use Rattle.std.proofs.Common.{arith, length, refl, subst}
use Rattle.std.proofs.lemmas.Option.{slice_get_read}
use Rattle.span.specs.Ids.{rank}
use Rattle.groups.specs.FirstLive.{IsFirstAmong}
use Rattle.groups.specs.Group.{spans_of}
use Rattle.groups.specs.Spans.{SpansState, all_spans}
use Rattle.groups.proofs.FirstLive.{IsFirstAmong-more}
use Rattle.shard.proofs.shard.walking.first_live.Goals as goal

pub loop-index-preserved : goal.loop-index-preserved
loop-index-preserved g c =
    let here = slice_get_read c.args.groups.now.items (length c.args.groups.now.items) c.loop-index.index c.index.result.now refl (omega (arith, c.loop-index-test.true, c.len-index-end.ensures)) c.index.ensures in
    IsFirstAmong-more spans_of c.args.groups.now.items c.loop-index.index c.index.result.now (rank c.args.from) c.loop-index.first c.first_live.result c.earlier-first.result here
    c.loop-index.invariant
    (subst (λ (s : SpansState). IsFirstAmong (all_spans s) (rank c.args.from) c.first_live.result) c.spans.ensures c.first_live.ensures) c.earlier-first.ensures
