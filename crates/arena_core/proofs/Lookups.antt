-- What the parts of a call on a key answer.
use Rattle.std.proofs.Common.{◌≡◌, ◌≤◌, ◌∙◌, ℕ, List, Some, ap, slice_get, sym, IfSome}
use Rattle.span.proofs.Next.{same_key-parts}
use Rattle.span.specs.Classes.{IsObject}
use Rattle.span.specs.declared.id.SpanId.{SpanId}
use Rattle.span.specs.declared.key.Key.{Key}
use Rattle.shard.specs.Calls.{Gets, value_found}
use Rattle.shard.specs.Shown.{shown as shown_by}
use Rattle.shard.specs.State.{ShardState}
use Rattle.shard.specs.declared.shard.Found.{Found}
use Rattle.shard.specs.declared.shard.Found.TheVariants as found
use Rattle.arena_core.specs.Lookups.{FindsWords, HasParts, words_if}
use Rattle.arena_core.specs.Sound.{HasSoundGroups}
use Rattle.arena_core.specs.State.{CoreState, shown}
use Rattle.arena_core.proofs.Moved.{value-Gets}

-- the key of these parts
abbrev pub key_of : SpanId → (slot generation : ℕ) → 1 ≤ generation → Key
key_of span slot generation in_range = record { span = span; slot = slot; generation = generation; generation_in_range = in_range }

-- a key with these parts is the key of them
pub key_of-parts : (span : SpanId) (slot generation : ℕ) (in_range : 1 ≤ generation) (key : Key) → HasParts key span slot generation → key_of span slot generation in_range ≡ key
key_of-parts span slot generation in_range key parts = same_key-parts _ key (sym parts.0) (sym parts.1) (sym parts.2)

-- what was found of a key is found of its parts
pub FindsWords-key : (core : CoreState) (key : Key) (words : List ℕ) → words_if words ≡ (shown core).value_of key → IfSome (words_if words) IsObject
    → FindsWords core key.span key.slot key.generation words
FindsWords-key core key words value object = record {
  value = λ other span slot generation. value ∙ ap (λ (k : Key). (shown core).value_of k) (same_key-parts key other (sym span) (sym slot) (sym generation));
  object = object;
}

-- and in a shard that has its span
pub FindsWords-Gets : (core : CoreState) → HasSoundGroups core → (key : Key) (number : ℕ) (shard : ShardState) (answer : Found) → slice_get core.shards number ≡ Some shard
    → (answer ≡ found.NotHere → ⊥) → Gets shard key answer → value_found answer ≡ (shown_by shard).value_of key
    → (words : List ℕ) → words_if words ≡ value_found answer → IfSome (words_if words) IsObject → FindsWords core key.span key.slot key.generation words
FindsWords-Gets core sound key number shard answer here found_here gets plain words is object =
    FindsWords-key core key words (is ∙ value-Gets core key number shard answer sound here found_here gets plain) object
