use Rattle.std.proofs.Common.{◌≡◌, ◌≤◌}
use Rattle.arena.specs.Walks.{HasGoneOn}
use Rattle.arena.proofs.walk.Walk.next_of_shard.Given as goal

abbrev pub invariant-loop-serial : goal.invariant-loop-serial
invariant-loop-serial g l = (l.self.shard ≡ l.fn.self.shard) × (l.self.serial ≤ l.serial) × HasGoneOn l.fn.self l.self
