use Rattle.std.proofs.Common.{All, ◌∙◌, arith, option_map, subst, sym, take}
use Rattle.std.proofs.lemmas.Bool.{false≢true}
use Rattle.std.proofs.lemmas.List.{take_all, take_more}
use Rattle.std.proofs.lemmas.List.Elements.{All-map, All-push}
use Rattle.arena.specs.Locked.{HasGroup}
use Rattle.arena.proofs.folding.number_with.Goals as goal

pub loop-number-preserved : goal.loop-number-preserved
loop-number-preserved g c =
    rw (take_more c.args.shards.now c.loop-number.number c.index-shards-number.result c.loop-number-test.true, ← c.index-shards-number.is)
    (All-push (λ shard. HasGroup c.args.owned (option_map (λ locked. locked.guard.value.value) shard) → ⊥) (take c.loop-number.number c.args.shards.now)
    c.index-shards-number.result c.loop-number.invariant (λ here. false≢true (sym c.if-has.false ∙ c.has.ensures.1 here)))

pub returns-clause-nowhere : goal.returns-clause-nowhere
returns-clause-nowhere g c = λ _. All-map (λ shard. HasGroup c.args.owned shard → ⊥) (option_map (λ locked. locked.guard.value.value)) c.args.shards.now
    (subst (All (λ shard. HasGroup c.args.owned (option_map (λ locked. locked.guard.value.value) shard) → ⊥))
    (take_all c.loop-number.number c.args.shards.now (omega (arith, c.loop-number-test.false))) c.loop-number.invariant)
