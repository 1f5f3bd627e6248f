use Rattle.std.proofs.Common.{◌≡◌, false, refl, rules}
use Rattle.arena.proofs.Elsewhere.{IsElsewhere-not_had}
use Rattle.arena.proofs.walk.FirstKeyCallU128.in_shard.Goals as goal

pub returns-then-not-has-clause-elsewhere : goal.returns-then-not-has-clause-elsewhere
returns-then-not-has-clause-elsewhere g c =
    let absent : c.has.result ≡ false = search (rules, c.if-not-has.true) in
    λ _. IsElsewhere-not_had c.args.shard.now.groups c.args.self.now.id c.has.result c.has.ensures absent

pub returns-then-not-has-clause-shard : goal.returns-then-not-has-clause-shard
returns-then-not-has-clause-shard g c =
    let absent : c.has.result ≡ false = search (rules, c.if-not-has.true) in
    ((IsElsewhere-not_had c.args.shard.now.groups c.args.self.now.id c.has.result c.has.ensures absent, refl), refl)
