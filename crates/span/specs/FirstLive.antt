-- The live key that comes first in a range of spans.
use Rattle.std.specs.Prelude.{◌≡◌, ◌⊎◌, ℕ, ◌<◌, ◌≤◌, None, IsSome}
use Rattle.span.specs.declared.key.Key.{Key}
use Rattle.span.specs.Ids.{rank}
use Rattle.span.specs.Order.{IsAfter}
use Rattle.span.specs.PlainMap.{PlainMap}

-- of the spans of these ranks, from the low one on and below the high one, no key has a value
abbrev pub HasNoneBetween : PlainMap → ℕ → ℕ → Type 0
HasNoneBetween map low high = (key : Key) → low ≤ rank key.span → rank key.span < high
    → map.value_of key ≡ None

-- the key has a value and its span is of this rank or a later one, and each other such key comes
-- after it
pub record IsFirstLive (map : PlainMap) (low : ℕ) (key : Key) : Type 0 where
  pub live : IsSome (map.value_of key)
  pub not_below : low ≤ rank key.span
  pub first : (other : Key) → low ≤ rank other.span → IsSome (map.value_of other) → (other ≡ key)
      ⊎ IsAfter key other
