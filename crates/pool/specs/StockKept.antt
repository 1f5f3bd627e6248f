-- What a stock of groups keeps. No public clause cites this module.
use Rattle.std.specs.Prelude.{◌≤◌}
use Rattle.groups.specs.Directory.{KnowsGuests}
use Rattle.pool.specs.Sound.{IsSound}
use Rattle.pool.specs.State.{PoolState}
use Rattle.pool.specs.declared.stock.Stock.TheInside.{Inside}

-- what contracts see of the fields
abbrev pub state_of : {L : Type 0} → Inside L → PoolState
state_of p =
    record {
      groups = p.groups.groups;
      group_room = p.group_room;
      span_room = p.span_room;
      has_plan = p.has_plan;
    }

-- it is sound, and the reserved room is there
pub record IsKept {L : Type 0} (p : Inside L) : Type 0 where
  pub sound : IsSound (state_of p)
  pub room_for_groups : p.group_room ≤ p.groups.room
  -- the directory says where each guest stands, and has room for as many more as room is reserved
  -- for spans
  pub guests_known : KnowsGuests p.groups.groups p.directory.entries
  pub room_for_entries : p.span_room ≤ p.directory.room
