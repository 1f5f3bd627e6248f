-- Which keys a log leaves live, and what an empty log leaves.
use Rattle.std.proofs.Common.{◌≡◌, ◌∙◌, ℕ, ◌≤◌, false, List, [], Some, None, is_some, IsSomeAnd, ap, eq-eqb, rules}
use Rattle.std.specs.FinMap as map
use Rattle.std.specs.FinSet.{contains, contains-empty}
use Rattle.std.specs.Ordering.{nat_cmp}
use Rattle.std.proofs.lemmas.Bool.{cases_eq, false_from_ne_true, ne_eqb}
use Rattle.std.proofs.option.Match.{None-if_not_some}
use Rattle.std.proofs.lemmas.Option.{none-some}
use Rattle.span.proofs.Changes.{get-free}
use Rattle.span.proofs.Slots.{live_slots-empty, worn_slots-empty}
use Rattle.span.proofs.Values.{Holds-value_in}
use Rattle.span.specs.Log.{Held, Holds, Value, live_slots, replay, value_if, value_in, worn_slots}
use Rattle.span.specs.State.{SpanState}
use Rattle.span.specs.declared.change.Change.{Change}
use Rattle.span.specs.declared.key.Key.{Key}
use Rattle.groups.specs.Spans.{with_free}

-- a key that is not live finds no value
pub is_some-value_in-gone : (log : List Change) (slot generation : ℕ) → (Holds log slot generation → ⊥) → is_some (value_in log slot generation) ≡ false
is_some-value_in-gone log slot generation gone = false_from_ne_true (is_some (value_in log slot generation)) (λ found. gone (Holds-value_in log slot generation found))

pub value_in-gone : (log : List Change) (slot generation : ℕ) → (Holds log slot generation → ⊥) → value_in log slot generation ≡ None
value_in-gone log slot generation gone = None-if_not_some (value_in log slot generation) (is_some-value_in-gone log slot generation gone)

-- and one that is live finds the value of its slot
pub value_in-held : (log : List Change) (slot generation : ℕ) (value : Value) → Holds log slot generation
    → ((held : Held) → map.get (replay log) slot ≡ Some held → value ≡ held.value) → value_in log slot generation ≡ Some value
value_in-held log slot generation value holds same = search (rules, IsSomeAnd, eq-eqb)

-- a slot that is live after a free was live before
pub was_held : (span : SpanState) (key : Key) (q : ℕ) (held : Held) → map.get (replay (with_free span key).log) q ≡ Some held → map.get (replay span.log) q ≡ Some held
was_held span key q held is = search (rules, cases_eq, none-some, get-free, eq-eqb, ne_eqb)

pub contains-live_slots-empty : (slot : ℕ) → contains (live_slots []) slot ≡ false
contains-live_slots-empty slot = ap (λ s. contains s slot) live_slots-empty ∙ contains-empty nat_cmp slot

pub contains-worn_slots-empty : (gens slot : ℕ) → 1 ≤ gens → contains (worn_slots gens []) slot ≡ false
contains-worn_slots-empty gens slot some = ap (λ s. contains s slot) (worn_slots-empty gens some) ∙ contains-empty nat_cmp slot

pub value_in-empty : (slot generation : ℕ) → value_in [] slot generation ≡ None
unfolding replay
value_in-empty slot generation = ap (value_if generation) (map.get-empty nat_cmp slot)
