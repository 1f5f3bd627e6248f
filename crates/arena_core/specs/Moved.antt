-- Where spans stand that left the shard which opened them. No public clause cites this module.
use Rattle.std.specs.Prelude.{◌≡◌, ◌≢◌, ◌⊎◌, ◌↔◌, ◌≤◌, ◌+◌, ℕ, Bool, true, IsTrue, List, length, cond, Option, None, Some, slice_get, eqb, refl}
use Rattle.std.specs.Coded.{Coded, code_by, coded×, coded_ℕ}
use Rattle.std.specs.Ordering.{nat_cmp}
use Rattle.std.specs.FinMap as map
use Rattle.span.specs.declared.id.SpanId.{SpanId}
use Rattle.span.specs.Ids.{rank}
use Rattle.shard.specs.Group.{GroupState}
use Rattle.groups.specs.Group.{IsHeadOf, IsMemberAt, spans_of}
use Rattle.shard.specs.State.{ShardState}
use Rattle.arena_core.specs.State.{has_span}

-- the shard of this number has the span
abbrev pub StandsIn : List ShardState → SpanId → ℕ → Type 0
StandsIn shards id number = (shard : ShardState) × (slice_get shards number ≡ Some shard)
    × (has_span id shard ≡ true)

-- no shard has the span, but for the one that opened it
abbrev pub StandsInNoOther : List ShardState → SpanId → Type 0
StandsInNoOther shards id = (number : ℕ) → number ≢ id.shard → StandsIn shards id number → ⊥

-- for spans, by rank, the shard that took each in last
abbrev pub Entries : Type 0
Entries = map.FinMap nat_cmp ℕ

-- the entries, and how many more of them take no memory
pub record WhereaboutsState : Type 0 where
  pub entries : Entries
  pub room : ℕ

-- whereabouts are stored as the pair of their fields
abbrev pub whereabouts_code : Coded WhereaboutsState
whereabouts_code = code_by (Entries × ℕ) (coded× (map.code coded_ℕ coded_ℕ) coded_ℕ)
    (λ w. (w.entries, w.room)) (λ p. record { entries = p.0; room = p.1 }) (λ _. refl)

-- the shard that the entries name for the span
abbrev pub named : Entries → SpanId → Option ℕ
named entries id = map.get entries (rank id)

-- what is named for a span that the shard of this number has taken in: the shard, if it did not
-- open the span
abbrev pub taken_by : ℕ → SpanId → Option ℕ
taken_by number id = cond (eqb id.shard number) None (Some number)

-- the entries once the shard of this number has taken the span in: a span that is back at home
-- needs none
abbrev pub with_taken : Entries → SpanId → ℕ → Entries
with_taken entries id number = cond (eqb id.shard number) (map.remove entries (rank id))
    (map.insert entries (rank id) number)

-- a span that stands in a shard which did not open it stands in the one that the entries name
abbrev pub KnowsMoved : List ShardState → Entries → Type 0
KnowsMoved shards entries = (id : SpanId) (number : ℕ) → number ≢ id.shard
    → StandsIn shards id number → named entries id ≡ Some number

-- it is told whether the shard of this number has the span of this rank
pub record TellsStanding (shards : List ShardState) (place number : ℕ) (told : Bool) : Type 0 where
  pub stands : (id : SpanId) → rank id ≡ place → (IsTrue told ↔ StandsIn shards id number)

-- the entries of spans that stand in the shard that is named are left, and no others
pub record KeepsStanding (shards : List ShardState) (old new : Entries) : Type 0 where
  pub kept : (id : SpanId) (number : ℕ) → named old id ≡ Some number → StandsIn shards id number
      → named new id ≡ Some number
  pub stands : (id : SpanId) (number : ℕ) → named new id ≡ Some number → StandsIn shards id number

-- the spans of the head's group from the place on are that many at most
abbrev pub HasAtMost : List GroupState → SpanId → ℕ → ℕ → Type 0
HasAtMost groups head first most = (index : ℕ) (group : GroupState)
    → IsHeadOf groups head index group → length (spans_of group) ≤ most + first

-- the entries name what they are to name for each span of the head's group from the place on, and
-- else what they named before
pub record Notes (old new : Entries) (groups : List GroupState) (head : SpanId) (first number : ℕ) :
    Type 0 where
  pub noted : (place : ℕ) (id : SpanId) → first ≤ place → IsMemberAt groups head place id
      → named new id ≡ taken_by number id
  pub others : (id : SpanId) → (named new id ≡ named old id)
      ⊎ ((named new id ≡ taken_by number id) × (place : ℕ) × IsMemberAt groups head place id)
