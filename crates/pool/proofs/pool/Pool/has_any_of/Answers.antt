use Rattle.std.proofs.Common.{refl, subst, sym, arith}
use Rattle.std.proofs.lemmas.Bool.{false≢true}
use Rattle.shard.specs.Group.{GroupState}
use Rattle.groups.specs.Group.{spans_of}
use Rattle.groups.specs.Spans.{SpansState, all_spans}
use Rattle.groups.proofs.Lists.{there_at}
use Rattle.pool.specs.Calls.{HasAny}
use Rattle.pool.proofs.Searches.{below_next, not_there}
use Rattle.pool.proofs.pool.Pool.has_any_of.Goals as goal

pub returns-then-has_any : goal.returns-then-has_any
returns-then-has_any g c =
    let at = there_at c.args.shard.now.groups c.loop-index.index (omega arith) in (
      (λ t. (c.loop-index.index, at.0, at.1, subst (λ (s : SpansState). HasAny c.args.self.now.groups (all_spans s)) (c.spans_at.ensures at.0 at.1) (c.if-has_any.ensures.0 refl))),
      (λ found. refl),
    )

pub loop-index-preserved : goal.loop-index-preserved
loop-index-preserved g c =
    let at = there_at c.args.shard.now.groups c.loop-index.index (omega arith) in
    below_next (λ (g : GroupState). HasAny c.args.self.now.groups (spans_of g)) c.args.shard.now.groups c.loop-index.index at.0 at.1
    (λ found. false≢true (c.if-has_any.ensures.1 (subst (λ (s : SpansState). HasAny c.args.self.now.groups (all_spans s)) (sym (c.spans_at.ensures at.0 at.1)) found))) c.loop-index.invariant

pub returns : goal.returns
returns g c = (
  (λ t. absurd (false≢true t)),
  (λ found. absurd (not_there (λ (g : GroupState). HasAny c.args.self.now.groups (spans_of g)) c.args.shard.now.groups c.loop-index.index (omega arith) c.loop-index.invariant found)),
)
