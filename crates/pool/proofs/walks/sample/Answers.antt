use Rattle.std.proofs.Common.{◌≡◌, ◌+◌, ◌∙◌, Some, ap, arith, cond, length, refl, slice_get, sym, ℕ}
use Rattle.std.proofs.lemmas.Option.{slice_get_read}
use Rattle.groups.specs.Group.{spans_of}
use Rattle.groups.specs.Spans.{live_count}
use Rattle.groups.proofs.Lists.{none_where, one_where}
use Rattle.shard.proofs.Samples.{live-paged-next, paged-next}
use Rattle.pool.proofs.walks.sample.Goals as goal
use Rattle.pool.proofs.walks.sample.Goals.{then-is_paged, else-is_paged}

pub loop-index-preserved : goal.loop-index-preserved
loop-index-preserved g c =
    let groups = c.args.groups.now in
    let at = c.loop-index.index in
    let group = c.index-groups-index.result in
    let here : slice_get groups at ≡ Some group = slice_get_read groups (length groups) at group refl (omega (arith, c.loop-index-test.true)) c.index-groups-index.is in
    let pages = paged-next c.args.gap at (at + (c.args.gap + 1)) group groups here refl in
    let live = live-paged-next c.args.gap at (at + (c.args.gap + 1)) group groups here refl in
    elim c.if-is_paged.branch [
      | then-is_paged w ↦
          let paged = sym c.is_paged.ensures ∙ w.if-is_paged.true in
          record {
            pages = omega (arith, w.pages-is, c.loop-index.invariant.pages, pages, one_where _ paged);
            live = omega (arith, w.live-is, c.loop-index.invariant.live, live, ap (λ b. cond {A = ℕ} b (live_count (spans_of group)) 0) paged, w.live-live.ensures.live);
            few = omega (arith, w.pages-is, c.loop-index.invariant.few, c.loop-index-test.true);
            few_live = omega (arith, w.live-is, c.loop-index.invariant.few_live, w.live-live.ensures.at_most, c.loop-index-test.true);
          }
      | else-is_paged w ↦
          let paged = sym c.is_paged.ensures ∙ w.if-is_paged.false in
          record {
            pages = omega (arith, w.pages-is, c.loop-index.invariant.pages, pages, none_where _ paged);
            live = omega (arith, w.live-is, c.loop-index.invariant.live, live, ap (λ b. cond {A = ℕ} b (live_count (spans_of group)) 0) paged);
            few = omega (arith, w.pages-is, c.loop-index.invariant.few, c.loop-index-test.true);
            few_live = omega (arith, w.live-is, c.loop-index.invariant.few_live, c.loop-index-test.true);
          }
    ]
