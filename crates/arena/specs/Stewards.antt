-- What contracts see of a steward, and what a step does with its plan.
use Rattle.std.specs.Prelude.{◌≡◌, List, Option, None, Some, IsSome, MatchResult, Result, option_map}
use Rattle.span.specs.declared.id.SpanId.{SpanId}
use Rattle.certificate.specs.declared.certificate.Certificate.{Certificate}
use Rattle.marks.specs.declared.error.MarkError.{MarkError}
use Rattle.marks.specs.declared.error.MarkError.TheVariants.{PlanOpen}
use Rattle.marks.specs.Plans.{next_pair, with_next_done, OpenPlan}
use Rattle.marks.specs.Seen.{IsShown}
use Rattle.arena.specs.declared.arena.Stepped.{Stepped}
use Rattle.arena.specs.declared.arena.Stepped.TheVariants.{NoPairLeft, NoPlan, Taken}
use Rattle.marks.specs.Numbers.{Limits}

-- the numbers of its arena, and the open plan, if there is one
pub record StewardState : Type 0 where
  pub limits : Limits
  pub plan : Option OpenPlan

-- the steward of an arena of these numbers, with no plan
abbrev pub new_steward : Limits → StewardState
new_steward limits = record { limits = limits; plan = None }

-- the steward, done with one pair more
abbrev pub with_pair_done : StewardState → StewardState
with_pair_done steward = record steward { plan = option_map with_next_done steward.plan }

-- the steward with an open plan of these pairs, of which none is done with
abbrev pub begun : StewardState → List (SpanId × SpanId) → StewardState
begun steward pairs = record steward { plan = Some (record { pairs = pairs; done = 0 }) }

-- the steward had no plan and keeps that of the mark, which is shown to be a largest one; or the
-- mark is refused, the steward stays as it was, and if it has a plan, that is the cause
abbrev pub KeepsMark : StewardState → Result Certificate MarkError → StewardState → Type 0
KeepsMark old made new = MatchResult made
    (λ found. IsShown found × (old.plan ≡ None) × (new ≡ begun old found.plan))
    (λ error. (IsSome old.plan → error ≡ PlanOpen) × (new ≡ old))

-- a step takes the pair that is next, or says that none is left or that no plan is open
abbrev pub Steps : Option OpenPlan → Stepped → Option OpenPlan → Type 0
Steps old (Taken abandoned owned step) new = (next_pair old ≡ Some (abandoned, owned))
    × (new ≡ option_map with_next_done old)
Steps old NoPairLeft new = IsSome old × (next_pair old ≡ None) × (new ≡ old)
Steps old NoPlan new = (old ≡ None) × (new ≡ old)
