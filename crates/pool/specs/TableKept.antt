-- How the table of groups shows, and what it keeps. No public clause cites this module.
use Rattle.std.specs.Prelude.{◌≡◌, ◌+◌, ◌*◌, ◌≤◌, length, vec_capacity}
use Rattle.std.specs.FinMap as table
use Rattle.pool.specs.Groups.{GroupsState}
use Rattle.groups.specs.Least.{IsLeast, KnowsLeast}
use Rattle.pool.specs.Ranked.{in_order}
use Rattle.pool.specs.Tabled.{AreKept}
use Rattle.pool.specs.declared.group_table.GroupTable.TheInside.{Inside}

-- what contracts see of the fields
abbrev pub state_of : {L : Type 0} → Inside L → GroupsState
state_of t = record { groups = in_order t.row.items; room = t.room }

pub record IsKept {L : Type 0} (t : Inside L) : Type 0 where
  pub kept : AreKept t.row.items (vec_capacity t.row) (table.get t.places.entries)
      (t.places.room) t.paged t.room
  -- no more ranks are noted than twice as many as there are groups, and one
  pub few : length t.paged.ranks ≤ 2 * length t.row.items + 1
  -- each group has a byte, and there is room for as many more as there is for groups
  pub known : KnowsLeast IsLeast t.row.items t.least.items
  pub bytes : length t.least.items ≡ length t.row.items
  pub in_bytes : length t.row.items + t.room ≤ vec_capacity t.least
