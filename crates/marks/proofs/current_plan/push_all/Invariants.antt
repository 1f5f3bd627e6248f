use Rattle.std.proofs.Common.{◌≡◌, ◌+◌, ◌++◌, take}
use Rattle.std.specs.Prelude.{vec_len, vec_capacity}
use Rattle.marks.proofs.current_plan.push_all.Given as goal

abbrev pub invariant-loop-pair : goal.invariant-loop-pair
invariant-loop-pair l = record {
  items : l.list.items ≡ l.initial.list.items ++ take l.pair-index l.pairs;
  len : vec_len l.list ≡ vec_len l.initial.list + l.pair-index;
  capacity : vec_capacity l.list ≡ vec_capacity l.initial.list;
}
