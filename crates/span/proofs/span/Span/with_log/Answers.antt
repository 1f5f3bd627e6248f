use Rattle.std.proofs.Common.{◌∙◌, ap, arith, length, List, sym, ℕ}
use Rattle.std.specs.FinSet as set
use Rattle.std.specs.Ordering.{nat_cmp}
use Rattle.span.proofs.Counting.{all_puts-empty}
use Rattle.span.proofs.Keeping.{Follows-empty}
use Rattle.span.proofs.Slots.{live_slots-empty, worn_slots-empty}
use Rattle.span.proofs.span.Span.with_log.Goals as goal

pub invariant_of-result : goal.invariant_of-result
invariant_of-result g c = record {
  some_generation = c.requires;
  follows = rw (c.new.ensures, c.new-2.ensures) (Follows-empty c.args.gens);
  none_worn = λ none. rw c.new-2.ensures (worn_slots-empty c.args.gens c.requires);
  count_is = rw c.new-2.ensures (sym (ap set.len live_slots-empty ∙ set.len-empty nat_cmp));
  fit = omega (arith, ap (λ (marks : List ℕ). length marks) c.new.ensures);
  gens_fit = c.ranges.gens.fits;
  of_class = rw c.new-2.ensures tt;
  few_sets = rw c.new-2.ensures (omega (arith, all_puts-empty));
  room_for_frees = omega arith;
}
