-- Where a span may be, and the word that says so. No public clause cites this module.
use Rattle.std.specs.Prelude.{◌≡◌, ℕ, ◌*◌, ◌+◌, ◌<◌, ◌^◌}
use Rattle.arena.specs.declared.nowhere.Hinted.{Hinted}
use Rattle.arena.specs.declared.nowhere.Hinted.TheVariants as hinted
use Rattle.arena.specs.declared.hints.Hint.{Hint}
use Rattle.arena.specs.declared.hints.Place.{Place}
use Rattle.arena.specs.declared.hints.Place.TheVariants.{Nowhere, Pool, Shard}
use Rattle.span.specs.declared.id.SpanId.{SpanId}
use Rattle.span.specs.declared.limits.TheConstants.{MOST_SHARDS}

-- the place is one that a word can name: there are 64 shards at most
abbrev pub IsPlace : Place → Type 0
IsPlace Nowhere = Unit {0}
IsPlace Pool = Unit {0}
IsPlace (Shard number) = number < MOST_SHARDS

-- the place is one that a word can name, and not nowhere
abbrev pub IsSomewhere : Place → Type 0
IsSomewhere Nowhere = ⊥
IsSomewhere Pool = Unit {0}
IsSomewhere (Shard number) = number < MOST_SHARDS

-- what a hint says of the span: that it is nowhere, or a place that a word can name
abbrev pub HintsAt : SpanId → Hinted → Type 0
HintsAt id (hinted.Nowhere nowhere) = nowhere.id ≡ id
HintsAt id hinted.Pool = Unit {0}
HintsAt id (hinted.Shard number) = number < MOST_SHARDS

-- the code of a place; 0 is of none
abbrev pub place_code : Place → ℕ
place_code Nowhere = 1
place_code Pool = 2
place_code (Shard number) = 3 + number

-- the word that says where the span of the serial may be: the code in its upper half, the serial in
-- its lower
abbrev pub hint_word : Hint → ℕ
hint_word hint = place_code hint.place * 2 ^ 32 + hint.serial
