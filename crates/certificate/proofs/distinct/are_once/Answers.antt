use Rattle.std.proofs.Common.{false, refl, sym, subst}
use Rattle.std.proofs.lemmas.Bool.{both_ways}
use Rattle.mesh_graph.specs.Groups.{IsAscending, ids}
use Rattle.certificate.specs.Chosen.{ids_in}
use Rattle.certificate.proofs.Places.{AreOnce-first, AreOnce-parts, AreOnce-rest, IsAscending-drop, IsAscending-take}
use Rattle.mesh_graph.specs.declared.build.TheConstants.{MOST_GROUPS}
use Rattle.certificate.proofs.distinct.are_once.Goals as goal

pub few_are_once-requires-clause-ascending : goal.few_are_once-requires-clause-ascending
few_are_once-requires-clause-ascending c = subst (λ xs. IsAscending (ids xs)) (sym c.split_at.ensures.front)
    (IsAscending-take MOST_GROUPS c.loop-rest.rest.now c.loop-rest.invariant.up)

pub returns-then-not-few_are_once : goal.returns-then-not-few_are_once
returns-then-not-few_are_once c = (
  λ none. absurd (both_ways false refl none),
  λ once. absurd (both_ways c.few_are_once.result c.if-not-few_are_once.true (c.few_are_once.ensures.1
      (AreOnce-first c.loop-rest.rest.now c.split_at.result.0.now c.split_at.result.1.now (ids_in c.args.list.now) c.split_at.ensures.by_index.0 (c.loop-rest.invariant.to once)))),
)

pub loop-rest-preserved : goal.loop-rest-preserved
loop-rest-preserved c =
    let rest = c.loop-rest.rest.now in
    let first = c.split_at.result.0.now in
    let others = c.split_at.result.1.now in
    let listed = ids_in c.args.list.now in
    record {
      up = subst (λ xs. IsAscending (ids xs)) (sym c.split_at.ensures.back) (IsAscending-drop MOST_GROUPS rest c.loop-rest.invariant.up);
      from = λ once. c.loop-rest.invariant.from (AreOnce-parts rest first others listed c.split_at.ensures.by_index.0 (c.few_are_once.ensures.0 c.if-not-few_are_once.false) once);
      to = λ once. AreOnce-rest rest first others listed c.split_at.ensures.by_index.0 (c.loop-rest.invariant.to once);
    }
