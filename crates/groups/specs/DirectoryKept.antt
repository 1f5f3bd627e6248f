-- What a directory keeps. No public clause cites this module.
use Rattle.std.specs.Prelude.{◌≤◌}
use Rattle.groups.specs.declared.directory.Directory.TheInside.{Inside}

-- the reserved room is there
pub record IsKept (d : Inside) : Type 0 where
  pub room_for_entries : d.room ≤ d.places.room
