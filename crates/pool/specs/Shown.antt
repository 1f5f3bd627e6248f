-- The plain map that the pool shows.
use Rattle.std.specs.Prelude.{◌||◌, Option, None, Some}
use Rattle.span.specs.Log.{Value}
use Rattle.span.specs.PlainMap.{PlainMap}
use Rattle.groups.specs.Shown.{shown_by}
use Rattle.pool.specs.State.{PoolState}

-- the map of the keys of the pool's spans: what their logs leave live, each with the object on its
-- page
abbrev pub shown : PoolState → PlainMap
shown pool = shown_by pool.groups

-- the first value, if there is one, and else the second
abbrev pub first_of : Option Value → Option Value → Option Value
first_of None other = other
first_of (Some value) other = Some value

-- what two owners show together, where no key is with both
abbrev pub together : PlainMap → PlainMap → PlainMap
together a b = record {
  is_issued = λ key. a.is_issued key || b.is_issued key;
  value_of = λ key. first_of (a.value_of key) (b.value_of key);
  pending = a.pending;
}
