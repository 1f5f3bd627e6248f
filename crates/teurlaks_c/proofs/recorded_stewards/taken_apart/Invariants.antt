use Rattle.std.proofs.Common.{◌≡◌, ◌≤◌, ◌+◌, ◌++◌, length, map}
use Rattle.std.specs.Prelude.{vec_capacity, vec_len}
use Rattle.std.specs.Vec.Iter.{into_iter_items}
use Rattle.span.specs.ReceiptLists.{kept_receipts}
use Rattle.teurlaks_c.proofs.recorded_stewards.taken_apart.Given as goal

abbrev pub invariant-loop-kept : goal.invariant-loop-kept
invariant-loop-kept l = record {
  lists : map kept_receipts l.lists.items ++ map (λ kept. kept_receipts kept.receipts) (into_iter_items l.kept-iterator)
      ≡ map (λ kept. kept_receipts kept.receipts) l.fn.seats.items;
  room : vec_len l.lists + length (into_iter_items l.kept-iterator) ≤ vec_capacity l.lists;
}
