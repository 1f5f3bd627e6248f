-- What the plain map holds beside a span's changes, and what one more change does to both.
use Rattle.std.proofs.Common.{◌≡◌, ℕ, ◌+◌, ◌≤◌, Bool, true, false, cond, ◌&&◌, eqb, List, [], ◌∷◌, ◌++◌, length, Option, Some, None, IsSomeAnd, sym, refl, arith, ◌∙◌, eq-eqb, eqb-true, rules}
use Rattle.std.specs.FinMap as map
use Rattle.std.proofs.lemmas.Bool.{cases_eq, ne_eqb}
use Rattle.span.proofs.Ids.{test_from_same_id}
use Rattle.span.proofs.Changes.{get-put, get-set, get-free, puts_of-push}
use Rattle.span.specs.declared.id.SpanId.{SpanId}
use Rattle.span.specs.declared.key.Key.{Key}
use Rattle.span.specs.declared.change.Change.{Change}
use Rattle.span.specs.declared.receipt.Call.{Call}
use Rattle.span.specs.Log.{Held, Value, replay, puts_of, IsLegalAfter, value_if}
use Rattle.span.specs.PlainMap.{PlainMap, empty_map, with_put, with_value, without, same_key}
use Rattle.audit.specs.Receipts.{value_after, is_change}
use Rattle.audit.specs.Agreement.{CallMakes, IsAnswered}
use Rattle.audit.specs.History.{IsStep}

-- the map's values at the keys of the span are those of the changes, and an issued key has no later generation than the last put of its slot
pub record Shows (span : SpanId) (changes : List Change) (m : PlainMap) : Type 0 where
  pub values : (key : Key) → key.span ≡ span → m.value_of key ≡ value_after changes key
  pub issued : (key : Key) → key.span ≡ span → m.is_issued key ≡ true → key.generation ≤ puts_of key.slot changes

pub Shows-empty : (span : SpanId) → Shows span [] empty_map
unfolding replay
Shows-empty span = search (rules, map.get-empty)

-- the value of a key after a change at a slot
value_after_change : (before after : List Change) (slot : ℕ) (left : Option Held)
    → ((q : ℕ) → map.get (replay after) q ≡ cond (eqb q slot) left (map.get (replay before) q))
    → (key : Key) → value_after after key ≡ cond (eqb slot key.slot) (value_if key.generation left) (value_after before key)
value_after_change before after slot left at key = search (rules, cases_eq, eq-eqb, ne_eqb)

-- a key of another generation than the one that its slot holds has no value
no_value : (held : Option Held) (generation other : ℕ) → IsSomeAnd held (λ h. h.generation ≡ generation) → eqb generation other ≡ false
    → value_if other held ≡ None
no_value None generation other holds differ = absurd holds
no_value (Some h) generation other holds differ = rw (holds, differ) refl

pick : (b c : Bool) (here left before : Option Value) → (c ≡ true → left ≡ here) → (c ≡ false → left ≡ None) → (b ≡ true → c ≡ false → before ≡ None)
    → cond (b && c) here before ≡ cond b left before
pick true true here left before equal differ gone = sym (equal refl)
pick true false here left before equal differ gone = gone refl refl ∙ sym (differ refl)
pick false c here left before equal differ gone = refl

module _ (span : SpanId) (changes : List Change) (m : PlainMap) (shows : Shows span changes m) (key : Key) (same : key.span ≡ span) where
  -- the test of a key of the span for being this one
  same_key-is : (other : Key) → other.span ≡ span → same_key key other ≡ (eqb key.slot other.slot && eqb key.generation other.generation)
  same_key-is other same_too = rw (test_from_same_id key.span other.span (same ∙ sym same_too)) refl

  shown : (change : Change) (left : Option Held) (here : Option Value)
      → ((q : ℕ) → map.get (replay (changes ++ change ∷ [])) q ≡ cond (eqb q key.slot) left (map.get (replay changes) q))
      → ((other : ℕ) → eqb key.generation other ≡ true → value_if other left ≡ here)
      → ((other : ℕ) → eqb key.generation other ≡ false → value_if other left ≡ None)
      → ((other : Key) → other.slot ≡ key.slot → eqb key.generation other.generation ≡ false → value_after changes other ≡ None)
      → (other : Key) → other.span ≡ span → cond (same_key key other) here (m.value_of other) ≡ value_after (changes ++ change ∷ []) other
  shown change left here at equal differ gone other same_too = search (rules, same_key-is, pick, eqb-true, value_after_change)

  issued_before : (change : Change) (other : Key) → other.span ≡ span → m.is_issued other ≡ true → other.generation ≤ puts_of other.slot (changes ++ change ∷ [])
  issued_before change other same_too is = omega (arith, shows.issued other same_too is, puts_of-push other.slot changes change)

  Shows-put : (value : Value) → map.get (replay changes) key.slot ≡ None → key.generation ≡ puts_of key.slot changes + 1
      → Shows span (changes ++ Change.Put key.slot key.generation value ∷ []) (with_put m key value)
  Shows-put value free next = search (rules, shown, get-put, same_key-is, eqb-true, puts_of-push, eq-eqb, issued_before)

  Shows-set : (value : Value) → IsSomeAnd (map.get (replay changes) key.slot) (λ held. held.generation ≡ key.generation)
      → Shows span (changes ++ Change.Set key.slot key.generation value ∷ []) (with_value m key value)
  Shows-set value holds = search (rules, shown, get-set, no_value, issued_before)

  Shows-free : IsSomeAnd (map.get (replay changes) key.slot) (λ held. held.generation ≡ key.generation)
      → Shows span (changes ++ Change.Free key.slot key.generation ∷ []) (without m key)
  Shows-free holds = search (rules, shown, get-free, no_value, issued_before)

-- a slot that may be set holds something of the generation
held_at : (held : Option Held) (generation : ℕ) (value : Value) → IsSomeAnd held (λ h. (h.generation ≡ generation) × (length h.value ≡ length value))
    → IsSomeAnd held (λ h. h.generation ≡ generation)
held_at None generation value legal = absurd legal
held_at (Some h) generation value legal = legal.0

-- the map after a call that makes a change
abbrev pub after_call : Call → Key → PlainMap → PlainMap
after_call (Call.Put value) key m = with_put m key value
after_call (Call.Set value) key m = with_value m key value
after_call Call.Freed key m = without m key
after_call _ key m = m

pub Shows-change : (span : SpanId) (gens : ℕ) (changes : List Change) (m : PlainMap) (call : Call) (key : Key) (change : Change) → Shows span changes m → key.span ≡ span
    → IsLegalAfter gens changes change → CallMakes call key change → Shows span (changes ++ change ∷ []) (after_call call key m)
Shows-change span gens changes m call key change shows same legal makes = search (rules, Shows-put, held_at, Shows-set, Shows-free)

-- a call that makes no change is a step that leaves the map
pub IsStep-quiet : (m : PlainMap) (call : Call) (key : Key) → IsAnswered call (m.value_of key) → is_change call ≡ false → IsStep m call key m
IsStep-quiet m call key is quiet = search rules

-- a call that makes a legal change is a step to the map after it
pub IsStep-change : (span : SpanId) (gens : ℕ) (changes : List Change) (m : PlainMap) (call : Call) (key : Key) (change : Change) → Shows span changes m → key.span ≡ span
    → IsLegalAfter gens changes change → CallMakes call key change → IsAnswered call (m.value_of key) → is_change call ≡ true → IsStep m call key (after_call call key m)
IsStep-change span gens changes m call key change shows same legal makes is done = search rules
