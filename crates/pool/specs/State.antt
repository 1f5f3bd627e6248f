-- What contracts see of the pool.
use Rattle.std.specs.Prelude.{ℕ, Bool, false, List, [], Option}
use Rattle.page.specs.Words.{Words}
use Rattle.groups.specs.Group.{Group, paged_in}
use Rattle.groups.specs.Spans.{SpansState}

-- a group of the pool is never closed, so that nothing is kept of that
abbrev pub PooledState : Type 0
PooledState = Group (Unit {0})

-- the pool: its groups by ascending head, for how many more of them and of spans there is reserved
-- room, and whether a plan of folds is open
pub record PoolState : Type 0 where
  pub groups : List PooledState
  pub group_room : ℕ
  pub span_room : ℕ
  pub has_plan : Bool

-- a pool with no group, and with a plan or without
abbrev pub no_groups : Bool → PoolState
no_groups has_plan = record { groups = []; group_room = 0; span_room = 0; has_plan = has_plan }

-- a pool with no group and no plan
abbrev pub new_pool : PoolState
new_pool = no_groups false

-- the group of the spans, with the page, if there is one
abbrev pub group_of : SpansState → Option Words → PooledState
group_of spans page = record { head = spans.head; guests = spans.guests; page = page; closed = tt }

-- the groups that have a page
abbrev pub paged_groups : PoolState → List PooledState
paged_groups pool = paged_in pool.groups
