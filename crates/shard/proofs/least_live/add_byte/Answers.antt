use Rattle.std.proofs.Common.{◌∙◌, ◌≤◌, ℕ, Option, Some, None, ap, arith, length, length-append, slice_get, sym}
use Rattle.std.specs.Prelude.{option_to_list}
use Rattle.groups.proofs.Lists.{get_left}
use Rattle.groups.proofs.KnownLeast.{KnowsLeast-front, KnowsLeast-insert}
use Rattle.shard.specs.Least.{IsLeast}
use Rattle.shard.proofs.LeastLive.{IsLeast-zero}
use Rattle.shard.proofs.least_live.add_byte.Goals as goal

at_most_one : (popped : Option ℕ) → length (option_to_list popped) ≤ 1
at_most_one None = omega arith
at_most_one (Some n) = omega arith

pub returns-clause-known : goal.returns-clause-known
returns-clause-known c groups group within known at least other byte there =
    let front = KnowsLeast-front IsLeast groups c.pop.new.self.items c.args.least.now.items
    (λ n found here. ap (λ bytes. slice_get bytes n) c.pop.ensures.items ∙ get_left c.pop.new.self.items (option_to_list c.pop.result) n found here) known in
    KnowsLeast-insert IsLeast groups c.pop.new.self.items front c.args.index 0 group (IsLeast-zero group) within
    (omega (arith, c.requires, ap length c.pop.ensures.items ∙ length-append c.pop.new.self.items (option_to_list c.pop.result), at_most_one c.pop.result, c.args.least.now.ok.0)) at least other
    (ap (λ bytes. slice_get bytes at) (sym c.insert_zero.ensures.items) ∙ byte) there
