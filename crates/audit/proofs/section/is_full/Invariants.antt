use Rattle.std.proofs.Common.{ℕ, ◌≡◌, ◌<◌, true, false, get_or}
use Rattle.audit.proofs.section.is_full.Given as goal

abbrev pub invariant-loop-told : goal.invariant-loop-told
invariant-loop-told l = (k : ℕ) → k < l.told-index → get_or l.row.told.items k false ≡ true
