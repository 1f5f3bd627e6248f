-- Open plans of folds, and the groups that are closed while one is open.
use Rattle.std.specs.Prelude.{◌≡◌, ℕ, ◌+◌, Bool, true, false, List, Option, Some, None, slice_get}
use Rattle.std.specs.List.{list_any}
use Rattle.span.specs.declared.id.SpanId.{SpanId}
use Rattle.span.specs.Ids.{same_span}
use Rattle.shard.specs.Group.{GroupState}

-- an open plan of folds: its pairs, each an abandoned group and the owned group that it is to be
-- folded onto, by their heads, and how many of them, from the first on, are done with
pub record OpenPlan : Type 0 where
  pub pairs : List (SpanId × SpanId)
  pub done : ℕ

-- the plan of these pairs, or none where no plan is open
abbrev pub plan_where : Bool → List (SpanId × SpanId) → ℕ → Option OpenPlan
plan_where true pairs done = Some (record { pairs = pairs; done = done })
plan_where false pairs done = None

-- the pair that comes next: none where no plan is open, and none where all its pairs are done with
abbrev pub next_pair : Option OpenPlan → Option (SpanId × SpanId)
next_pair None = None
next_pair (Some plan) = slice_get plan.pairs plan.done

-- the plan with one more pair done with
abbrev pub with_next_done : OpenPlan → OpenPlan
with_next_done plan = record plan { done = plan.done + 1 }

-- some pair of the plan folds a group onto that of this head
abbrev pub plans_onto : List (SpanId × SpanId) → SpanId → Bool
plans_onto pairs head = list_any (λ pair. same_span pair.1 head) pairs

-- the plan folds a group onto that of this head, if there is a plan
abbrev pub is_planned : Option OpenPlan → SpanId → Bool
is_planned None head = false
is_planned (Some plan) head = plans_onto plan.pairs head

-- the closed groups are those onto which the plan folds
abbrev pub AreClosedAsPlanned : Option OpenPlan → List GroupState → Type 0
AreClosedAsPlanned plan groups = (index : ℕ) (group : GroupState)
    → slice_get groups index ≡ Some group → group.closed ≡ is_planned plan group.head.id
