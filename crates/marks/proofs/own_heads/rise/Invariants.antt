use Rattle.std.proofs.Common.{ℕ, ◌+◌, ◌<◌, get_or}
use Rattle.marks.proofs.own_heads.rise.Given as goal

-- the numbers up to place k rise
abbrev pub invariant-loop-k : goal.invariant-loop-k
invariant-loop-k l = (i : ℕ) → i + 1 < l.k → get_or l.ranks i 0 < get_or l.ranks (i + 1) 0
