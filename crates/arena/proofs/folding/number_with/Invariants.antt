use Rattle.std.proofs.Common.{All, option_map, take}
use Rattle.arena.specs.Locked.{HasGroup}
use Rattle.arena.proofs.folding.number_with.Given as goal

abbrev pub invariant-loop-number : goal.invariant-loop-number
invariant-loop-number g l = All (λ shard. HasGroup l.owned (option_map (λ locked. locked.guard.value.value) shard) → ⊥) (take l.number l.shards)
