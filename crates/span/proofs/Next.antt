-- The live key that comes first in a span.
use Rattle.std.proofs.Common.{◌≡◌, ◌≤◌, ℕ, List, Option, Some, None, true, false, arith, ap, refl, sym, ◌∙◌, is_some, rules}
use Rattle.std.specs.Prelude.{IfSome, MatchOption}
use Rattle.std.specs.FinSet.{contains, len}
use Rattle.std.proofs.lemmas.Bool.{cases_eq, false_from_ne_true}
use mathlib.Core.HLevel.{is_prop→PathP}
use native.Mathlib.Bridge.{le_prop}
use Rattle.bitmap.specs.Slots.{SlotSet}
use Rattle.span.specs.Log.{Holds, IsLegal, Value, live_slots, value_in}
use Rattle.span.specs.Order.{HasNoMemberFrom, HasNoneFrom, HoldsNoneFrom, IsFirstFrom, IsFirstHeld, IsLowestFrom}
use Rattle.span.specs.PlainMap.{PlainMap}
use Rattle.span.specs.declared.change.Change.{Change}
use Rattle.span.specs.declared.id.SpanId.{SpanId}
use Rattle.span.specs.declared.key.Key.{Key}
use Rattle.span.proofs.Keeping.{live-if_held, some_member}
use Rattle.span.proofs.LegalLogs.{Holds-generation}
use Rattle.span.proofs.Values.{Holds-value_in, is_some-value_in}

-- an empty set has no member
pub no_member : (s : SlotSet) (slot : ℕ) → len s ≡ 0 → contains s slot ≡ false
no_member s slot none = false_from_ne_true (contains s slot) (λ inside. omega (arith, some_member s slot inside))

-- where no slot is live, none is at any generation
pub HoldsNoneFrom-members : (log : List Change) (from : ℕ) → HasNoMemberFrom (live_slots log) from → HoldsNoneFrom log from
HoldsNoneFrom-members log from none slot generation above holds = search (rules, live-if_held)

-- the lowest live slot is the first that is live at a generation, of which it has one
pub IsFirstHeld-lowest : (gens : ℕ) (log : List Change) (from : ℕ) (key : Key) → IsLegal gens log → IsLowestFrom (live_slots log) from key.slot
    → Holds log key.slot key.generation → IsFirstHeld log from key
IsFirstHeld-lowest gens log from key legal lowest holds = search (rules, cases_eq, Holds-generation, live-if_held)

-- a key is its parts
pub same_key-parts : (a b : Key) → a.span ≡ b.span → a.slot ≡ b.slot → a.generation ≡ b.generation → a ≡ b
same_key-parts a b spans slots generations i = record {
  span = spans i;
  slot = slots i;
  generation = generations i;
  generation_in_range = is_prop→PathP (λ i. 1 ≤ generations i) (λ i. le_prop) a.generation_in_range b.generation_in_range i;
}

-- a map that has a value for a key of the span just where the log holds its slot at its generation
module _ (map : PlainMap) (id : SpanId) (log : List Change) (from : ℕ) (shows : (key : Key) → key.span ≡ id → is_some (map.value_of key) ≡ is_some (value_in log key.slot key.generation)) where
  holds-shown : (key : Key) → key.span ≡ id → is_some (map.value_of key) ≡ true → Holds log key.slot key.generation
  holds-shown key same some = Holds-value_in log key.slot key.generation (sym (shows key same) ∙ some)

  HasNoneFrom-held : HoldsNoneFrom log from → HasNoneFrom map id from
  HasNoneFrom-held none key same above = by_value (map.value_of key) refl
    where
      by_value : (o : Option Value) → map.value_of key ≡ o → o ≡ None
      by_value None is = refl
      by_value (Some value) is = absurd (none key.slot key.generation above (holds-shown key same (ap is_some is)))

  IsFirstFrom-held : (key : Key) → key.span ≡ id → IsFirstHeld log from key → IsFirstFrom map id from key
  IsFirstFrom-held key same held = search (rules, is_some-value_in, holds-shown, same_key-parts)

  -- what the span answers is what the map has
  pub first-held : (o : Option Key) → MatchOption o (HoldsNoneFrom log from) (IsFirstHeld log from) → IfSome o (λ key. key.span ≡ id)
      → MatchOption o (HasNoneFrom map id from) (IsFirstFrom map id from)
  first-held None none same = HasNoneFrom-held none
  first-held (Some key) held same = IsFirstFrom-held key same held
