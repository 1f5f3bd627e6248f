use Rattle.std.proofs.Common.{length, refl, subst, sym, arith}
use Rattle.std.proofs.lemmas.Bool.{false≢true}
use Rattle.std.proofs.lemmas.Option.{slice_get_read}
use Rattle.groups.specs.Group.{spans_of}
use Rattle.groups.specs.Spans.{SpansState, all_spans}
use Rattle.pool.specs.Handover.{HasAnyIn}
use Rattle.pool.specs.State.{PooledState}
use Rattle.pool.proofs.Searches.{below_next, not_there}
use Rattle.pool.proofs.in_both.have_one_in.Goals as goal

pub returns-then-has_any_in : goal.returns-then-has_any_in
returns-then-has_any_in g c =
    let groups = c.args.groups.now in
    let here = slice_get_read groups (length groups) c.loop-index.index c.index-groups-index.result refl (omega arith) c.index-groups-index.is in (
      (λ t. (c.loop-index.index, c.index-groups-index.result, here, subst (λ (s : SpansState). HasAnyIn c.args.shard.now.groups (all_spans s)) c.spans.ensures (c.if-has_any_in.ensures.0 refl))),
      (λ found. refl),
    )

pub loop-index-preserved : goal.loop-index-preserved
loop-index-preserved g c =
    let groups = c.args.groups.now in
    let here = slice_get_read groups (length groups) c.loop-index.index c.index-groups-index.result refl (omega arith) c.index-groups-index.is in
    below_next (λ (g : PooledState). HasAnyIn c.args.shard.now.groups (spans_of g)) groups c.loop-index.index c.index-groups-index.result here
    (λ found. false≢true (c.if-has_any_in.ensures.1 (subst (λ (s : SpansState). HasAnyIn c.args.shard.now.groups (all_spans s)) (sym c.spans.ensures) found))) c.loop-index.invariant

pub returns : goal.returns
returns g c = (
  (λ t. absurd (false≢true t)),
  (λ found. absurd (not_there (λ (g : PooledState). HasAnyIn c.args.shard.now.groups (spans_of g)) c.args.groups.now c.loop-index.index (omega arith) c.loop-index.invariant found)),
)
