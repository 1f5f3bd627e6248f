-- The order of keys, by span and then by slot, and which live key comes next in it.
use Rattle.std.specs.Prelude.{◌≡◌, ◌⊎◌, ℕ, ◌<◌, ◌≤◌, List, None, Option, Some, IsSome, false, true}
use Rattle.std.specs.FinSet as set
use Rattle.bitmap.specs.Slots.{SlotSet}
use Rattle.span.specs.declared.change.Change.{Change}
use Rattle.span.specs.declared.id.SpanId.{SpanId}
use Rattle.span.specs.declared.key.Key.{Key}
use Rattle.span.specs.Ids.{rank}
use Rattle.span.specs.Log.{Holds}
use Rattle.span.specs.PlainMap.{PlainMap}

-- the key is of a later span than the other, or of a later slot of the same span
abbrev pub IsAfter : Key → Key → Type 0
IsAfter other key = (rank other.span < rank key.span)
    ⊎ ((key.span ≡ other.span) × (other.slot < key.slot))

-- the key comes after the one that is given; where none is, each key does
abbrev pub IsBeyond : Option Key → Key → Type 0
IsBeyond None key = Unit {0}
IsBeyond (Some other) key = IsAfter other key

-- no key beyond the one that is given has a value
abbrev pub HasNoneBeyond : PlainMap → Option Key → Type 0
HasNoneBeyond map after = (key : Key) → IsBeyond after key → map.value_of key ≡ None

-- the key has a value and is beyond the one that is given, and each other such key comes after it
pub record IsNextLive (map : PlainMap) (after : Option Key) (key : Key) : Type 0 where
  pub live : IsSome (map.value_of key)
  pub beyond : IsBeyond after key
  pub first : (other : Key) → IsBeyond after other → IsSome (map.value_of other) → (other ≡ key)
      ⊎ IsAfter key other

-- no key of the span at a slot from this one on has a value
abbrev pub HasNoneFrom : PlainMap → SpanId → ℕ → Type 0
HasNoneFrom map id from = (key : Key) → key.span ≡ id → from ≤ key.slot → map.value_of key ≡ None

-- the key is of the span and has a value, and each other such key at a slot from this one on has a
-- later slot
pub record IsFirstFrom (map : PlainMap) (id : SpanId) (from : ℕ) (key : Key) : Type 0 where
  pub live : IsSome (map.value_of key)
  pub span_is : key.span ≡ id
  pub not_below : from ≤ key.slot
  pub first : (other : Key) → other.span ≡ id → from ≤ other.slot → IsSome (map.value_of other)
      → (other ≡ key) ⊎ (key.slot < other.slot)

-- no slot from this one on is live
abbrev pub HoldsNoneFrom : List Change → ℕ → Type 0
HoldsNoneFrom log from = (slot generation : ℕ) → from ≤ slot → Holds log slot generation → ⊥

-- the key's slot is live at its generation, and each other slot from this one on that is live is
-- later
pub record IsFirstHeld (log : List Change) (from : ℕ) (key : Key) : Type 0 where
  pub holds : Holds log key.slot key.generation
  pub not_below : from ≤ key.slot
  pub first : (slot generation : ℕ) → from ≤ slot → Holds log slot generation
      → ((slot ≡ key.slot) × (generation ≡ key.generation)) ⊎ (key.slot < slot)

-- no member is as great as this slot
abbrev pub HasNoMemberFrom : SlotSet → ℕ → Type 0
HasNoMemberFrom slots from = (slot : ℕ) → from ≤ slot → set.contains slots slot ≡ false

-- the least member that is not below this slot
pub record IsLowestFrom (slots : SlotSet) (from slot : ℕ) : Type 0 where
  pub inside : set.contains slots slot ≡ true
  pub not_below : from ≤ slot
  pub lower : (other : ℕ) → from ≤ other → set.contains slots other ≡ true → slot ≤ other
