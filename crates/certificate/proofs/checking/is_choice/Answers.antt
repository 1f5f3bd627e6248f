use Rattle.std.proofs.Common.{false, refl, sym, ◌∙◌}
use Rattle.std.proofs.lemmas.Bool.{both_ways}
use Rattle.std.proofs.lemmas.List.Sums.{AllPass-from_list_all}
use Rattle.mesh_graph.specs.Groups.{has_id}
use Rattle.certificate.proofs.Places.{IsDistinct-from_once, once-from_distinct}
use Rattle.certificate.proofs.Verdicts.{choice-from_tests, tests-from_choice}
use Rattle.certificate.proofs.checking.is_choice.Goals as goal

pub returns-then-not-are_abandoned : goal.returns-then-not-are_abandoned
returns-then-not-are_abandoned c = (
  λ none. absurd (both_ways false refl none),
  λ choice. absurd (both_ways c.are_abandoned.result c.if-not-are_abandoned.true (c.are_abandoned.ensures ∙ tests-from_choice c.args.snapshot.now.abandoned c.args.chosen.now choice)),
)

pub returns : goal.returns
returns c =
    let entries = c.args.snapshot.now.abandoned in
    let all = sym c.are_abandoned.ensures ∙ c.if-not-are_abandoned.false in (
      λ found. choice-from_tests entries c.args.chosen.now all
          (IsDistinct-from_once entries c.args.chosen.now (AllPass-from_list_all (has_id entries) c.args.chosen.now all)
          (rw c.abandoned.ensures.entries at (c.are_once.ensures.0 found))),
      λ choice. c.are_once.ensures.1 (once-from_distinct c.abandoned.result.now c.args.chosen.now choice.distinct),
    )
