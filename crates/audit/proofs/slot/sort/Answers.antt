use Rattle.std.proofs.Common.{rules}
use Rattle.std.proofs.lemmas.List.Sorted.{IsNonDecreasingBy-from_sort_by_key}
use Rattle.audit.specs.Slots.{change_rank}
use Rattle.audit.proofs.slot.sort.Goals as goal

pub returns : goal.returns
returns c = record {
  permutation = c.sort_unstable_by_key.ensures.permutation;
  sorted = IsNonDecreasingBy-from_sort_by_key change_rank _ c.sort_unstable_by_key.ensures.sorted (λ a r q k. search rules);
}
