-- The first live key among spans, from an id on.
use Rattle.std.specs.Prelude.{◌≡◌, ℕ, ◌<◌, ◌≤◌, List, None, Option, Some, IfSome}
use Rattle.std.specs.List.{All, Contains}
use Rattle.span.specs.declared.key.Key.{Key}
use Rattle.span.specs.declared.limits.TheConstants.{ALL_IDS}
use Rattle.span.specs.Ids.{rank}
use Rattle.span.specs.Order.{HoldsNoneFrom, IsFirstHeld}
use Rattle.span.specs.State.{SpanState}

-- the rank of the key's span, or the end of all ranks if there is no key
abbrev pub rank_or_end : Option Key → ℕ
rank_or_end None = ALL_IDS
rank_or_end (Some key) = rank key.span

-- if the span's rank is in this range, no slot of it is live
abbrev pub HasNoneIn : ℕ → ℕ → SpanState → Type 0
HasNoneIn low high span = low ≤ rank span.id → rank span.id < high → HoldsNoneFrom span.log 0

-- the span's rank is in this range, and the key is that of its lowest live slot
pub record IsSooner (low high : ℕ) (span : SpanState) (key : Key) : Type 0 where
  pub above : low ≤ rank span.id
  pub before : rank span.id < high
  pub lowest : IsFirstHeld span.log 0 key
  pub named : key.span ≡ span.id

-- the key is that of the lowest live slot of one of the spans
pub record IsLowestOfOne (spans : List SpanState) (key : Key) : Type 0 where
  pub span : SpanState
  pub inside : Contains spans span
  pub named : span.id ≡ key.span
  pub lowest : IsFirstHeld span.log 0 key

-- the first live key of the spans of this rank or a later one, or none if there is none
pub record IsFirstAmong (spans : List SpanState) (low : ℕ) (found : Option Key) : Type 0 where
  pub none_before : All (HasNoneIn low (rank_or_end found)) spans
  pub its : IfSome found (λ key. (low ≤ rank key.span) × IsLowestOfOne spans key)
