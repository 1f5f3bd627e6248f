use Rattle.std.proofs.Common.{◌⊎◌, refl, subst, sym, inl, inr, arith}
use Rattle.std.proofs.lemmas.Bool.{false≢true}
use Rattle.span.specs.State.{SpanState}
use Rattle.span.specs.declared.id.SpanId.{SpanId}
use Rattle.groups.specs.Spans.{all_spans}
use Rattle.groups.specs.Group.{IsElsewhere}
use Rattle.pool.specs.Calls.{MayOpen}
use Rattle.pool.proofs.Searches.{below_next, not_there}
use Rattle.pool.proofs.pool.handover.is_doubled.Goals as goal

pub returns-then-may_open : goal.returns-then-may_open
returns-then-may_open g c = (
  (λ t. (c.loop-place.place, c.span_at.result.now, c.span_at.ensures, inl (subst (MayOpen c.args.shard.now) c.id-id.ensures (c.if-may_open.ensures.0 refl)))),
  (λ found. refl),
)

pub returns-then-has : goal.returns-then-has
returns-then-has g c = (
  (λ t. (c.loop-place.place, c.span_at.result.now, c.span_at.ensures, inr (subst (λ (id : SpanId). IsElsewhere c.args.shard.now.groups id → ⊥) c.id-id.ensures (c.if-has.ensures.0 refl)))),
  (λ found. refl),
)

pub loop-place-preserved : goal.loop-place-preserved
loop-place-preserved g c =
    below_next (λ (s : SpanState). MayOpen c.args.shard.now s.id ⊎ (IsElsewhere c.args.shard.now.groups s.id → ⊥))
    (all_spans c.args.spans.now) c.loop-place.place c.span_at.result.now c.span_at.ensures
    (λ either. elim either [
      | inl own ↦ false≢true (c.if-may_open.ensures.1 (subst (MayOpen c.args.shard.now) (sym c.id-id.ensures) own))
      | inr here ↦ false≢true (c.if-has.ensures.1 (subst (λ (id : SpanId). IsElsewhere c.args.shard.now.groups id → ⊥) (sym c.id-id.ensures) here))
    ]) c.loop-place.invariant

pub returns : goal.returns
returns g c = (
  (λ t. absurd (false≢true t)),
  (λ found. absurd (not_there (λ (s : SpanState). MayOpen c.args.shard.now s.id ⊎ (IsElsewhere c.args.shard.now.groups s.id → ⊥))
      (all_spans c.args.spans.now) c.loop-place.place (omega arith) c.loop-place.invariant found)),
)
