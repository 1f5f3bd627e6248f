-- Ranks of heads that may have a page. No public clause cites this module.
use Rattle.std.specs.Prelude.{◌≡◌, ℕ, ◌≤◌, List, Some, None, IsSome, slice_get}
use Rattle.std.specs.List.{All, Contains}
use Rattle.span.specs.declared.id.SpanId.{SpanId}
use Rattle.pool.specs.Calls.{IsFirstPaged}
use Rattle.pool.specs.Ranked.{HasRankAt, head_rank}
use Rattle.pool.specs.State.{PooledState}

-- ranks in no order, and for how many of them there is room
pub record RanksState : Type 0 where
  pub ranks : List ℕ
  pub capacity : ℕ

-- the number is one of these, and none is lower
abbrev pub IsLeastOf : List ℕ → ℕ → Type 0
IsLeastOf numbers number = Contains numbers number × All (λ other. number ≤ other) numbers

-- the ranks of the heads of all groups that have a page are among these
abbrev pub AreNoted : List PooledState → List ℕ → Type 0
AreNoted groups ranks = (index : ℕ) (group : PooledState) → slice_get groups index ≡ Some group
    → IsSome group.page → Contains ranks (head_rank group)

-- no group that has a page has a head of this rank
abbrev pub HasNoPageAt : List PooledState → ℕ → Type 0
HasNoPageAt groups number = (group : PooledState) → HasRankAt groups number group
    → group.page ≡ None

-- the head of the group of this rank, which has a page
abbrev pub IsPagedHead : List PooledState → ℕ → SpanId → Type 0
IsPagedHead groups number head = (group : PooledState) × HasRankAt groups number group
    × IsSome group.page × (group.head.id ≡ head)

-- the head of the first group that has a page
abbrev pub IsHeadOfFirstPaged : List PooledState → SpanId → Type 0
IsHeadOfFirstPaged groups head = (index : ℕ) × (group : PooledState)
    × IsFirstPaged groups index group × (group.head.id ≡ head)
