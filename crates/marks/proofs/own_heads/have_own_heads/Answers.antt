use Rattle.std.proofs.Common.{ℕ, List, map, subst}
use Rattle.std.specs.List.Sorted.{IsPermutation, IsStrictlyIncreasing}
use Rattle.marks.specs.Seen.{owned_entries}
use Rattle.marks.proofs.Ranks.{distinct-ranks}
use Rattle.marks.proofs.own_heads.have_own_heads.Goals as goal

pub returns : goal.returns
returns g c = λ own.
    let owned = owned_entries (map g.H.LendsShard.lent c.args.shards.now) in
    let sorted = c.sort_unstable.new.self.items in
    distinct-ranks owned sorted (subst (λ (ranks : List ℕ). IsPermutation ranks sorted) (c.in_ok-ranks.ensures {u = tt}) c.sort_unstable.ensures.permutation)
    (subst IsStrictlyIncreasing c.as_slice.ensures.value (c.rise.ensures own))
