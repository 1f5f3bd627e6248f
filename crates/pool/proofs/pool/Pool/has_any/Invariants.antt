use Rattle.std.proofs.Common.{◌≡◌, ◌<◌, ℕ, Some, slice_get}
use Rattle.span.specs.State.{SpanState}
use Rattle.groups.specs.Spans.{all_spans}
use Rattle.groups.specs.Group.{IsElsewhere}
use Rattle.pool.proofs.pool.Pool.has_any.Given as goal

abbrev pub invariant-loop-place : goal.invariant-loop-place
invariant-loop-place g l = (other : ℕ) (span : SpanState) → other < l.place → slice_get (all_spans l.spans) other ≡ Some span → (IsElsewhere l.self.groups span.id → ⊥) → ⊥
