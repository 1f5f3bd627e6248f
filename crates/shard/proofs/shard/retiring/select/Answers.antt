use Rattle.std.proofs.Common.{◌≡◌, rules}
use Rattle.std.proofs.lemmas.Fn.{always_returns_same}
use Rattle.shard.proofs.Sparse.{key_of}
use Rattle.shard.proofs.Selected.{AreSelected-split}
use Rattle.shard.proofs.shard.retiring.select.Goals as goal

pub returns : goal.returns
returns c =
    let made = c.select_nth_unstable_by_key-first in
    AreSelected-split c.args.told.now made.result.0.now made.result.1.now made.result.2.now c.in_ok-first.first.items c.args.most
    made.ensures.permutation made.ensures.front_len
    (made.ensures.partitioned key_of (always_returns_same _ (λ a r. r ≡ key_of a.0.now) _ (λ a r q k. search rules)))
    (c.in_ok-first.ensures.items_if_clones_equal (λ x y same. search rules))
