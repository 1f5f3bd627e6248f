-- What contracts see of a set of numbers: its first part stands apart from the others. No public
-- clause cites this module.
use Rattle.std.specs.Prelude.{◌+◌, ◌*◌, ◌∷◌, length}
use Rattle.bitmap.specs.Numbers.{NumbersState}
use Rattle.bitmap.specs.Parts.{numbers_in}
use Rattle.bitmap.specs.declared.bits.TheConstants.{SLOTS}
use Rattle.bitmap.specs.declared.numbers.NumberSet.TheInside.{Inside}

-- the numbers of all parts, and the room for them
abbrev pub state_of : Inside → NumbersState
state_of s =
    record { numbers = numbers_in (s.low ∷ s.high); room = SLOTS + SLOTS * length s.high }
