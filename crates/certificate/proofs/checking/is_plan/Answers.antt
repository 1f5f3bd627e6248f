use Rattle.std.proofs.Common.{◌≡◌, false, map, refl, sym, true, ◌∙◌, rules}
use Rattle.std.specs.List.{IsDistinct, list_all}
use Rattle.std.proofs.lemmas.Bool.{both_ways}
use Rattle.std.proofs.lemmas.List.Sums.{AllPass-from_list_all}
use Rattle.span.specs.Ids.{same_span}
use Rattle.mesh_graph.specs.Groups.{any_compatible, has_id}
use Rattle.certificate.proofs.Places.{IsDistinct-from_once, once-from_distinct}
use Rattle.certificate.proofs.Verdicts.{left_have_ids, plan-from_tests, right_have_ids, tests-from_plan}
use Rattle.certificate.proofs.checking.is_plan.Goals as goal

pub returns-then-not-are_compatible : goal.returns-then-not-are_compatible
returns-then-not-are_compatible c = (
  λ none. absurd (both_ways false refl none),
  λ plan. absurd (both_ways c.are_compatible.result c.if-not-are_compatible.true (c.are_compatible.ensures ∙ tests-from_plan c.args.snapshot.now c.args.pairs.now plan)),
)

pub returns-then-not-are_once : goal.returns-then-not-are_once
returns-then-not-are_once c = search (rules, both_ways, once-from_distinct)

pub returns : goal.returns
returns c =
    let s = c.args.snapshot.now in
    let pairs = c.args.pairs.now in
    let all : list_all (λ p. any_compatible s p.0 p.1) pairs ≡ true = sym c.are_compatible.ensures ∙ c.if-not-are_compatible.false in
    let left : IsDistinct same_span (map (λ p. p.0) pairs) = IsDistinct-from_once s.abandoned (map (λ p. p.0) pairs)
    (AllPass-from_list_all (has_id s.abandoned) (map (λ p. p.0) pairs) (left_have_ids s pairs all))
    (rw c.abandoned.ensures.entries at (c.are_once.ensures.0 c.if-not-are_once.false)) in (
      λ found. plan-from_tests s pairs all left
          (IsDistinct-from_once s.owned (map (λ p. p.1) pairs) (AllPass-from_list_all (has_id s.owned) (map (λ p. p.1) pairs) (right_have_ids s pairs all))
          (rw c.owned.ensures.entries at (c.are_once-2.ensures.0 found))),
      λ plan. c.are_once-2.ensures.1 (once-from_distinct c.owned.result.now (map (λ p. p.1) pairs) plan.right.distinct),
    )
