use Rattle.std.proofs.Common.{length}
use Rattle.arena.proofs.unlocked.+unlocked_shards.Given as goal

abbrev pub decreases-unlocked_shards : goal.decreases-unlocked_shards
decreases-unlocked_shards l = length l.shards.now
