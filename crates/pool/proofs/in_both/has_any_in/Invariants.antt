use Rattle.std.proofs.Common.{◌≡◌, ◌<◌, ℕ, Some, slice_get}
use Rattle.span.specs.State.{SpanState}
use Rattle.groups.specs.Spans.{all_spans}
use Rattle.groups.specs.Group.{IsElsewhere}
use Rattle.pool.proofs.in_both.has_any_in.Given as goal

abbrev pub invariant-loop-place : goal.invariant-loop-place
invariant-loop-place g l = (other : ℕ) (span : SpanState) → other < l.place → slice_get (all_spans l.spans) other ≡ Some span → (IsElsewhere l.shard.groups span.id → ⊥) → ⊥
