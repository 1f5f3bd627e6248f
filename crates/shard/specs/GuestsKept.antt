-- How what a shard keeps of guests shows, and what it keeps. No public clause cites this module.
use Rattle.std.specs.Prelude.{◌≡◌, [], vec_capacity}
use Rattle.shard.specs.Guests.{GuestsState}
use Rattle.shard.specs.declared.guests.Guests.TheInside.{Inside}

-- what contracts see of the fields
abbrev pub state_of : {L : Type 0} → Inside L → GuestsState
state_of g = record {
  directory = g.directory;
  span_room = g.span_room;
  onto = g.onto;
  list_room = vec_capacity g.list;
}

-- the list has none
pub record IsKept {L : Type 0} (g : Inside L) : Type 0 where
  pub none : g.list.items ≡ []
