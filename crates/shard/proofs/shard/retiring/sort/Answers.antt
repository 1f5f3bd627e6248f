use Rattle.std.proofs.Common.{◌≡◌, rules}
use Rattle.std.proofs.lemmas.Fn.{always_returns_same}
use Rattle.shard.proofs.Sparse.{AreInOrder-sorted, key_of}
use Rattle.shard.proofs.shard.retiring.sort.Goals as goal

pub returns-clause-order : goal.returns-clause-order
returns-clause-order c = AreInOrder-sorted c.sort_unstable_by_key.new.self.items
    (c.sort_unstable_by_key.ensures.sorted key_of (always_returns_same _ (λ a r. r ≡ key_of a.0.now) _ (λ a r q k. search rules)))
