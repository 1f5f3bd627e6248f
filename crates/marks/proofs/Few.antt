-- A plan has no more pairs than there are groups.
use Rattle.std.proofs.Common.{◌≡◌, ◌≤◌, true, List, length, map, arith}
use Rattle.std.specs.List.{All}
use Rattle.std.proofs.lemmas.List.{length-map}
use Rattle.std.proofs.lemmas.List.Elements.{recursion_from_All}
use Rattle.span.specs.declared.id.SpanId.{SpanId}
use Rattle.span.specs.Ids.{same_span}
use Rattle.span.specs.declared.entry.Entry.{Entry}
use Rattle.mesh_graph.specs.Groups.{Groups, IsAscending, ids}
use Rattle.certificate.specs.declared.certificate.Certificate.{Certificate}
use Rattle.certificate.specs.Plans.{IsCertificateOf, IsPlanOf, sides_of}
use Rattle.certificate.specs.Sides.{IsChoice, among}
use Rattle.certificate.specs.Text.{FitsClass, IsWritable}
use Rattle.certificate.proofs.Members.{length-le_from_distinct}
use Rattle.certificate.proofs.Verdicts.{tells_span}
use Rattle.mesh_graph.specs.declared.build.TheConstants.{MOST_GROUPS}

-- no more can be chosen than there are abandoned groups
few_chosen : (groups : Groups) (chosen : List SpanId) → IsChoice same_span (ids groups.abandoned) chosen → length groups.abandoned ≤ MOST_GROUPS
    → length chosen ≤ MOST_GROUPS
few_chosen groups chosen choice few =
    omega (
      arith,
      length-map groups.abandoned (λ (entry : Entry). entry.id),
      length-le_from_distinct same_span tells_span chosen (ids groups.abandoned) choice.distinct (recursion_from_All (λ id. among same_span id (ids groups.abandoned) ≡ true) chosen choice.within),
    )

-- a plan has no more pairs than there are abandoned groups
few_pairs : (groups : Groups) (pairs : List (SpanId × SpanId)) → IsPlanOf groups pairs → length groups.abandoned ≤ MOST_GROUPS → length pairs ≤ MOST_GROUPS
unfolding sides_of
few_pairs groups pairs plan few =
    omega (arith, length-map pairs (λ (pair : SpanId × SpanId). pair.0), few_chosen groups (map (λ (pair : SpanId × SpanId). pair.0) pairs) plan.left few)

-- nor has a short set more members
few_short : (groups : Groups) (pairs : List (SpanId × SpanId)) (short : List SpanId) → IsCertificateOf groups pairs short
    → length groups.abandoned ≤ MOST_GROUPS → length short ≤ MOST_GROUPS
unfolding sides_of
few_short groups pairs short certificate few = few_chosen groups short certificate.chosen few

-- what shows a plan best can be written, where a side has few groups, each with slots of its class, and the ids ascend
pub IsWritable-few : (found : Certificate) → IsCertificateOf found.snapshot found.plan found.short
    → (length found.snapshot.abandoned ≤ MOST_GROUPS) × (length found.snapshot.owned ≤ MOST_GROUPS)
    → All FitsClass found.snapshot.abandoned × All FitsClass found.snapshot.owned → IsAscending (map (λ (pair : SpanId × SpanId). pair.0) found.plan) → IsAscending found.short → IsWritable found
IsWritable-few found certificate few fit folds_ascending short_ascending = record {
  abandoned = few.0;
  owned = few.1;
  folds = few_pairs found.snapshot found.plan certificate.plan few.0;
  short = few_short found.snapshot found.plan found.short certificate few.0;
  abandoned_fit = fit.0;
  owned_fit = fit.1;
  folds_ascending = folds_ascending;
  short_ascending = short_ascending;
}
