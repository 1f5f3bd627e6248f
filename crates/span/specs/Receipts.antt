-- What a receipt says of its call, by what the call answered.
use Rattle.std.specs.Prelude.{Bool, true, false, Option, Some, None}
use Rattle.span.specs.Log.{Value}
use Rattle.span.specs.declared.receipt.Call.{Call}
use Rattle.span.specs.declared.receipt.Call.TheVariants.{Found, NotFound, Set, NotSet, Freed, NotFreed}

-- a look-up that found this value, if any
abbrev pub look_up : Option Value → Call
look_up (Some value) = Found value
look_up None = NotFound

-- a set of this value, and whether it was done
abbrev pub set : Value → Bool → Call
set value true = Set value
set value false = NotSet value

-- a free, and whether it was done
abbrev pub free : Bool → Call
free true = Freed
free false = NotFreed
