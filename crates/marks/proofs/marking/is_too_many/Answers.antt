use Rattle.std.proofs.Common.{◌↔◌, false, map, subst, sym}
use Rattle.std.specs.Prelude.{IsTrue}
use Rattle.std.proofs.lemmas.Bool.{true≢false}
use Rattle.marks.specs.Seen.{IsTooMany}
use Rattle.marks.proofs.marking.is_too_many.Goals as goal

pub returns-in-All : goal.returns-in-All
returns-in-All g c =
    subst (λ sight. IsTrue c.has_too_many.result ↔ IsTooMany sight c.args.pool.now (map g.H.LendsShard.lent c.args.shards.now)) (sym c.in-All.is) c.has_too_many.ensures

pub returns-in-Sparsest : goal.returns-in-Sparsest
returns-in-Sparsest g c =
    subst (λ sight. IsTrue false ↔ IsTooMany sight c.args.pool.now (map g.H.LendsShard.lent c.args.shards.now)) (sym c.in-Sparsest.is)
    (λ told. true≢false (sym told), λ none. absurd none)
