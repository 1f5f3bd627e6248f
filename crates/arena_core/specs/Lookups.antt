-- What the parts of a call on a key answer. No public clause cites this module.
use Rattle.std.specs.Prelude.{◌≡◌, ◌∷◌, ℕ, List, [], IfSome, None, Option, Some}
use Rattle.span.specs.Classes.{IsObject}
use Rattle.span.specs.Log.{Value}
use Rattle.span.specs.declared.id.SpanId.{SpanId}
use Rattle.span.specs.declared.key.Key.{Key}
use Rattle.arena_core.specs.State.{CoreState, shown}

-- the value of these words; none, if there is no word
abbrev pub words_if : List ℕ → Option Value
words_if [] = None
words_if (word ∷ words) = Some (word ∷ words)

-- the key has these parts
abbrev pub HasParts : Key → SpanId → (slot generation : ℕ) → Type 0
HasParts key span slot generation = (key.span ≡ span) × (key.slot ≡ slot)
    × (key.generation ≡ generation)

-- these are the words of the object of the key with these parts; no word, if no such key is live
pub record FindsWords (core : CoreState) (span : SpanId) (slot generation : ℕ) (words : List ℕ) :
    Type 0 where
  pub value : (key : Key) → key.span ≡ span → key.slot ≡ slot → key.generation ≡ generation
      → words_if words ≡ (shown core).value_of key
  pub object : IfSome (words_if words) IsObject
