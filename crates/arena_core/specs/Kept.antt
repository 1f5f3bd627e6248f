-- How a core's fields show, and what they keep. No public clause cites this module.
use Rattle.std.specs.Prelude.{List}
use Rattle.shard.specs.State.{ShardState}
use Rattle.arena_core.specs.declared.machine.Core.TheInside.{Inside}
use Rattle.arena_core.specs.Made.{all_shards}
use Rattle.arena_core.specs.Moved.{KnowsMoved}
use Rattle.arena_core.specs.Sound.{IsSound}
use Rattle.arena_core.specs.State.{CoreState}

-- all shards, of which the fields have those that were made
abbrev pub shards_of : {L : Type 0} → Inside L → List ShardState
shards_of c = all_shards c.limits c.shards.items

-- what contracts see of the fields
abbrev pub state_of : {L : Type 0} → Inside L → CoreState
state_of c = record {
  limits = c.limits;
  shards = shards_of c;
  pool = c.pool;
  plan = c.plan;
  rings = c.rings;
  forgotten = c.forgotten.items;
}

pub record IsKept {L : Type 0} (c : Inside L) : Type 0 where
  pub sound : IsSound (state_of c)
  -- the whereabouts say where each span is that left its shard for another
  pub moved : KnowsMoved (shards_of c) c.whereabouts.entries
