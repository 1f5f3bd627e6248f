use Rattle.std.proofs.Common.{arith, ◌≡◌, length, ◌∙◌, ap, sym}
use Rattle.std.proofs.lemmas.List.{length-map}
use Rattle.augment.specs.Walks.{pair_count}
use Rattle.mesh_graph.specs.Groups.{ids}
use Rattle.certificate.specs.Plans.{sides_of}
use Rattle.augment.proofs.Outcome.{IsOutcome, best_from_outcome, short_from_outcome, certificate_from_outcome}
use Rattle.augment.proofs.Lists.{length-pairs_of}
use Rattle.span.specs.Ids.{same_span}
use Rattle.certificate.proofs.Verdicts.{tells_span}
use Rattle.mesh_graph.proofs.Order.{is_late, late-from_ascending, ascending-from_late}
use Rattle.augment.specs.Listed.{pairs_of, short_of}
use Rattle.augment.proofs.Counting.{left_distinct, short_distinct}
use Rattle.augment.proofs.Found.{outcome}
use Rattle.augment.proofs.planning.plan_counted.Goals as goal

its_outcome : (c : goal.After-drop-mates-in-Some-2) → IsOutcome same_span (sides_of c.args.graph.now) c.turn_phase.new.mates.onto.items c.in-Some.reached.items
its_outcome c =
    let g = c.args.graph.now in
    outcome g c.turn_phase.new.mates.onto.items c.turn_phase.new.mates.planned.items c.in-Some.reached.items c.abandoned.ensures.ascending
    c.owned.ensures.ascending c.turn_phase.ensures.groups c.turn_phase.ensures.owned c.turn_phase.ensures.joins c.turn_phase.new.mates.paired
    (rw c.in-Some.is at c.in_ok-reached.ensures.searched)

-- the plan and the short set that are answered
planned : (c : goal.After-drop-mates-in-Some-2) → c.new-in-Some.result ≡ pairs_of (ids c.args.graph.now.owned) (ids c.args.graph.now.abandoned) c.turn_phase.new.mates.onto.items
planned c = c.new-in-Some.ensures ∙ c.in_ok-pairs.ensures

left : (c : goal.After-drop-mates-in-Some-2) → c.new-in-Some-2.result ≡ short_of c.in-Some.reached.items (ids c.args.graph.now.abandoned) c.turn_phase.new.mates.onto.items
left c = c.new-in-Some-2.ensures ∙ (rw c.deref.ensures.value at c.in_ok-short.ensures)

pub returns-in-Some-clause-best : goal.returns-in-Some-clause-best
unfolding sides_of
returns-in-Some-clause-best c = rw (planned c) (best_from_outcome same_span tells_span _ c.turn_phase.new.mates.onto.items c.in-Some.reached.items (its_outcome c))

pub returns-in-Some-clause-short : goal.returns-in-Some-clause-short
unfolding sides_of
returns-in-Some-clause-short c = rw (planned c, left c) (short_from_outcome same_span tells_span _ c.turn_phase.new.mates.onto.items c.in-Some.reached.items (its_outcome c))

pub returns-in-Some-clause-certificate : goal.returns-in-Some-clause-certificate
unfolding sides_of
returns-in-Some-clause-certificate c = rw (planned c, left c) (certificate_from_outcome same_span tells_span _ c.turn_phase.new.mates.onto.items c.in-Some.reached.items (its_outcome c))

pub returns-in-Some-clause-ascending : goal.returns-in-Some-clause-ascending
returns-in-Some-clause-ascending c =
    let g = c.args.graph.now in
    rw (planned c) (ascending-from_late _
    (left_distinct is_late (ids g.owned) (ids g.abandoned) c.turn_phase.new.mates.onto.items
    (late-from_ascending (ids g.abandoned) c.abandoned.ensures.ascending)))

pub returns-in-Some-clause-short_ascending : goal.returns-in-Some-clause-short_ascending
returns-in-Some-clause-short_ascending c =
    let g = c.args.graph.now in
    rw (left c) (ascending-from_late _
    (short_distinct is_late c.in-Some.reached.items (ids g.abandoned) c.turn_phase.new.mates.onto.items
    (late-from_ascending (ids g.abandoned) c.abandoned.ensures.ascending)))

pub returns-in-Some-clause-phases : goal.returns-in-Some-clause-phases
returns-in-Some-clause-phases c =
    let same : c.turn_phase.new.mates.onto.items ≡ c.phases.mates.onto.items = rw c.in-Some.is at c.in_ok-reached.ensures.unchanged in
    let count : length c.new-in-Some.result ≡ pair_count c.turn_phase.new.mates.onto.items = ap length (planned c)
    ∙ length-pairs_of (ids c.args.graph.now.owned) (ids c.args.graph.now.abandoned) c.turn_phase.new.mates.onto.items
    (c.turn_phase.ensures.groups ∙ sym (length-map c.args.graph.now.abandoned (λ x. x.id))) in
    let kept : pair_count c.turn_phase.new.mates.onto.items ≡ pair_count c.phases.mates.onto.items = ap pair_count same in
    omega arith
