use Rattle.std.proofs.Common.{◌≡◌, drop}
use Rattle.groups.specs.Directory.{Entries}
use Rattle.shard.specs.HeadWindow.{end_of}
use Rattle.shard.specs.Heads.{HasNoHeadsOf, KnowsNoHeads}
use Rattle.shard.proofs.head_indexes.HeadIndexes.strike_heads.Given as goal

abbrev pub invariant-loop-index : goal.invariant-loop-index
invariant-loop-index g l = record {
  base : l.self.base ≡ l.fn.self.base;
  end : end_of l.self ≡ end_of l.fn.self;
  known : (entries : Entries) → HasNoHeadsOf entries l.groups.items → KnowsNoHeads l.number l.groups.items entries l.fn.self
      → KnowsNoHeads l.number (drop l.index l.groups.items) entries l.self;
}
