use Rattle.std.proofs.Common.{◌≡◌, ◌+◌, ◌∙◌, Some, arith, length, refl, slice_get, sym}
use Rattle.std.proofs.lemmas.Option.{slice_get_read}
use Rattle.groups.proofs.Lists.{none_where, one_where}
use Rattle.shard.proofs.Samples.{live-next, paged-next}
use Rattle.shard.proofs.shard.Shard.sample.Goals as goal
use Rattle.shard.proofs.shard.Shard.sample.Goals.{then-is_paged, else-is_paged}

pub loop-index-preserved : goal.loop-index-preserved
loop-index-preserved g c =
    let groups = c.self.inside.groups.items in
    let at = c.loop-index.index in
    let group = c.index-group.result.now in
    let here : slice_get groups at ≡ Some group = slice_get_read groups (length groups) at group refl (omega (arith, c.loop-index-test.true, c.len.ensures)) c.index-group.ensures in
    let pages = paged-next c.args.gap at (at + (c.args.gap + 1)) group groups here refl in
    let live = live-next c.args.gap at (at + (c.args.gap + 1)) group groups here refl in
    record {
      pages = elim c.if-is_paged.branch [
        | then-is_paged w ↦ omega (arith, w.pages-is, c.loop-index.invariant.pages, pages, one_where _ (sym c.is_paged.ensures ∙ w.if-is_paged.true))
        | else-is_paged w ↦ omega (arith, w.pages-is, c.loop-index.invariant.pages, pages, none_where _ (sym c.is_paged.ensures ∙ w.if-is_paged.false))
      ];
      live = omega (arith, c.loop-index.invariant.live, live, c.live-live.ensures.live);
      few = elim c.if-is_paged.branch [
        | then-is_paged w ↦ omega (arith, w.pages-is, c.loop-index.invariant.few, c.loop-index-test.true, c.len.ensures)
        | else-is_paged w ↦ omega (arith, w.pages-is, c.loop-index.invariant.few, c.loop-index-test.true, c.len.ensures)
      ];
      few_live = omega (arith, c.loop-index.invariant.few_live, c.live-live.ensures.at_most, c.loop-index-test.true, c.len.ensures);
    }
