use Rattle.std.proofs.Common.{ℕ, ◌≡◌, ◌<◌, slice_index_or}
use Rattle.audit.specs.declared.verdict.Verdict.TheVariants as verdict
use Rattle.audit.proofs.verdict.has.Given as goal

abbrev pub invariant-loop-other : goal.invariant-loop-other
invariant-loop-other l = (w : ℕ) → w < l.other-index → slice_index_or l.verdicts w verdict.OutOfMemory ≡ l.verdict → ⊥
