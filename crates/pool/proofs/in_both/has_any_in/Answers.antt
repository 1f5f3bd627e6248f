use Rattle.std.proofs.Common.{refl, subst, sym, arith}
use Rattle.std.proofs.lemmas.Bool.{false≢true}
use Rattle.span.specs.State.{SpanState}
use Rattle.span.specs.declared.id.SpanId.{SpanId}
use Rattle.groups.specs.Spans.{all_spans}
use Rattle.groups.specs.Group.{IsElsewhere}
use Rattle.pool.proofs.Searches.{below_next, not_there}
use Rattle.pool.proofs.in_both.has_any_in.Goals as goal

pub returns-then-has : goal.returns-then-has
returns-then-has g c = (
  (λ t. (c.loop-place.place, c.span_at.result.now, c.span_at.ensures, subst (λ (id : SpanId). IsElsewhere c.args.shard.now.groups id → ⊥) c.id.ensures (c.if-has.ensures.0 refl))),
  (λ found. refl),
)

pub loop-place-preserved : goal.loop-place-preserved
loop-place-preserved g c =
    below_next (λ (s : SpanState). IsElsewhere c.args.shard.now.groups s.id → ⊥) (all_spans c.args.spans.now) c.loop-place.place c.span_at.result.now c.span_at.ensures
    (λ away. false≢true (c.if-has.ensures.1 (subst (λ (id : SpanId). IsElsewhere c.args.shard.now.groups id → ⊥) (sym c.id.ensures) away))) c.loop-place.invariant

pub returns : goal.returns
returns g c = (
  (λ t. absurd (false≢true t)),
  (λ found. absurd (not_there (λ (s : SpanState). IsElsewhere c.args.shard.now.groups s.id → ⊥) (all_spans c.args.spans.now) c.loop-place.place (omega arith) c.loop-place.invariant found)),
)
