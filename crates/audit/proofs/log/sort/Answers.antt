use Rattle.std.proofs.Common.{rules}
use Rattle.std.proofs.lemmas.List.Sorted.{IsNonDecreasingBy-from_sort_by_key}
use Rattle.span.specs.Ids.{rank}
use Rattle.audit.specs.declared.log.LogPlace.{LogPlace}
use Rattle.audit.proofs.log.sort.Goals as goal

pub returns : goal.returns
returns c = record {
  permutation = c.sort_unstable_by_key.ensures.permutation;
  sorted = IsNonDecreasingBy-from_sort_by_key (λ (place : LogPlace). rank place.span) _ c.sort_unstable_by_key.ensures.sorted (λ a r q k. search rules);
}
