use Rattle.std.proofs.Common.{ℕ, ◌≡◌, ◌+◌, ◌<◌, false, slice_index_or}
use Rattle.span.specs.Ids.{same_span}
use Rattle.audit.specs.declared.log.LogPlace.{LogPlace}
use Rattle.audit.proofs.log.has_twice.Given as goal

abbrev pub invariant-loop-k : goal.invariant-loop-k
invariant-loop-k l = (k : ℕ) (d : LogPlace) → k + 1 < l.k → same_span (slice_index_or l.places k d).span (slice_index_or l.places (k + 1) d).span ≡ false
