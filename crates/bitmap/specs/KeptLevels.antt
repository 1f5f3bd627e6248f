-- What levels keep. No public clause cites this module.
use Rattle.std.specs.Prelude.{◌*◌, ◌≤◌, vec_len}
use Rattle.bitmap.specs.Parts.{IsSummary, numbers_in}
use Rattle.bitmap.specs.declared.bits.TheConstants.{SLOTS}
use Rattle.bitmap.specs.declared.levels.Levels.TheInside.{Inside}

-- what levels keep
pub record IsKept (s : Inside) : Type 0 where
  pub parts_known : IsSummary (numbers_in s.parts.items) (numbers_in s.filled.items)
  pub top_known : IsSummary (numbers_in s.filled.items) s.top
  -- the parts of each level have places on the next
  pub places : vec_len s.parts ≤ SLOTS * vec_len s.filled
  pub top_places : vec_len s.filled ≤ SLOTS
