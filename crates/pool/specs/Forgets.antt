-- Groups and guests of the pool that can never be live again, which it forgets.
use Rattle.std.specs.Prelude.{◌≡◌, ◌++◌, ℕ, List, filter, is_some, length, map, not}
use Rattle.span.specs.State.{SpanState}
use Rattle.groups.specs.Dead.{dead_guests, without_dead}
use Rattle.groups.specs.Group.{paged_in, spans_in}
use Rattle.pool.specs.State.{PoolState, PooledState}

-- the groups that have no page, since none of their slots is live
abbrev pub unpaged_in : List PooledState → List PooledState
unpaged_in groups = filter (λ group. not (is_some group.page)) groups

-- what is left of the groups: those that have a page, each without its guests in which no slot is
-- live
abbrev pub left_in : List PooledState → List PooledState
left_in groups = map without_dead (paged_in groups)

-- the spans that go: the guests in which no slot is live of groups that have a page, and all spans
-- of the others
abbrev pub gone_from : List PooledState → List SpanState
gone_from groups = dead_guests (paged_in groups) ++ spans_in (unpaged_in groups)

-- groups that have no page are gone, the others have lost their guests in which no slot is live,
-- that many spans went, and all else stays
pub record Forgets (old : PoolState) (count : ℕ) (new : PoolState) : Type 0 where
  pub after : new ≡ record old { groups = left_in old.groups }
  pub count_is : count ≡ length (gone_from old.groups)
