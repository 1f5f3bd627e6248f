use Rattle.std.proofs.Common.{◌≡◌}
use Rattle.std.specs.Prelude.{vec_len}
use Rattle.shard.specs.Least.{KnowsLeast}
use Rattle.shard.proofs.shard.retiring.first_of_groups.Given as goal

abbrev pub invariant-loop : goal.invariant-loop
invariant-loop g l = record {
  known : KnowsLeast l.groups.items l.least.items;
  len : vec_len l.least ≡ vec_len l.fn.least;
}
