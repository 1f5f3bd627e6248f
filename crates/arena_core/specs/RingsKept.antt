-- What a core keeps for its rings. No public clause cites this module.
use Rattle.std.specs.Prelude.{◌≤◌, List, ⊤}
use Rattle.arena_core.specs.Rings.{RingState, new_rings}
use Rattle.arena_core.specs.declared.late_rings.Room.{Room}
use Rattle.arena_core.specs.declared.late_rings.Room.TheVariants.{Unmade, Made}

-- the rings, which are empty until they are made
abbrev pub rings_in : Room → List (List RingState)
rings_in (Unmade shards capacity) = new_rings shards capacity
rings_in (Made rings) = rings.value

-- a ring that is to be made holds some key
abbrev pub HasCapacity : Room → Type 0
HasCapacity (Unmade shards capacity) = 1 ≤ capacity
HasCapacity (Made rings) = ⊤
