use Rattle.std.proofs.Common.{◌<◌, ◌≤◌, arith, length, subst}
use Rattle.groups.specs.Group.{IsElsewhere}
use Rattle.shard.specs.Sound.{IsSound}
use Rattle.shard.specs.State.{ShardState}
use Rattle.shard.specs.declared.shard.Found.TheVariants.{NotHere}
use Rattle.shard.proofs.ShownLogs.{value_found-Gets}
use Rattle.shard.proofs.shard.Shard.get_searched.Goals as goal

-- the place is past all groups
elsewhere : (g : _) (c : goal.Then-index-len g) → IsElsewhere c.args.self.now.groups c.args.key.now.span
elsewhere g c =
    c.search-index.ensures.elsewhere
    (subst (λ (s : ShardState). length s.groups ≤ c.search-index.result.0) c.self.view_is (omega (arith, c.if-index-len.true, c.len.ensures)))

pub returns-then-index-len-clause-found : goal.returns-then-index-len-clause-found
returns-then-index-len-clause-found g c = elsewhere g c

pub returns-then-index-len-clause-plain : goal.returns-then-index-len-clause-plain
returns-then-index-len-clause-plain g c =
    value_found-Gets c.args.self.now (subst IsSound c.self.view_is c.self.invariant.sound) c.args.key.now NotHere (elsewhere g c)

pub get_at-requires : goal.get_at-requires
get_at-requires g c =
    c.search-index.ensures.here
    (subst (λ (s : ShardState). c.search-index.result.0 < length s.groups) c.self.view_is (omega (arith, c.if-index-len.false, c.len.ensures)))
