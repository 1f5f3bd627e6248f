use Rattle.std.proofs.Common.{◌∙◌, Some, ap, inr, option_map, refl, sym}
use Rattle.arena.proofs.LentFolds.{HasItAt-read, MayFoldLent-at, StepsLent-at, stays-at}
use Rattle.arena.proofs.arena.Arena.fold_lent.Goals as goal

pub returns-in-Some-shards-clause-steps : goal.returns-in-Some-shards-clause-steps
returns-in-Some-shards-clause-steps g c =
    let view = option_map (λ shard. shard.guard.value.value) in
    let here = c.in-Some.ensures.here in
    let has = HasItAt-read view c.args.shards.now c.in-Some.number c.index-shards-number.result c.deref_mut.result.now c.args.owned here.0 c.index-shards-number.is (ap view (c.index-shards-number.is ∙ c.in-Some-shards.is) ∙ ap Some (sym c.deref_mut.ensures.value)) here.1 in
    StepsLent-at view c.args.shards.now c.in-Some.number c.index-shards-number.result c.deref_mut.result.now c.args.owned c.args.pool.now c.fold_onto.new.pool _ c.fold_onto.new.shard c.args.abandoned c.fold_onto.result.step has refl c.fold_onto.ensures.steps

pub returns-in-Some-shards-clause-may : goal.returns-in-Some-shards-clause-may
returns-in-Some-shards-clause-may g c =
    let view = option_map (λ shard. shard.guard.value.value) in
    let here = c.in-Some.ensures.here in
    let has = HasItAt-read view c.args.shards.now c.in-Some.number c.index-shards-number.result c.deref_mut.result.now c.args.owned here.0 c.index-shards-number.is (ap view (c.index-shards-number.is ∙ c.in-Some-shards.is) ∙ ap Some (sym c.deref_mut.ensures.value)) here.1 in
    MayFoldLent-at view c.args.shards.now c.in-Some.number c.index-shards-number.result c.deref_mut.result.now c.args.owned c.args.pool.now c.args.abandoned c.fold_onto.result.step has c.fold_onto.ensures.may

pub returns-in-Some-shards-clause-err : goal.returns-in-Some-shards-clause-err
returns-in-Some-shards-clause-err g c =
    let view = option_map (λ shard. shard.guard.value.value) in
    stays-at view c.args.shards.now c.in-Some.number c.index-shards-number.result c.deref_mut.result.now c.args.owned c.args.pool.now c.fold_onto.new.pool _ c.fold_onto.new.shard c.fold_onto.result.step c.index-shards-number.is (ap view (c.index-shards-number.is ∙ c.in-Some-shards.is) ∙ ap Some (sym c.deref_mut.ensures.value)) refl c.fold_onto.ensures.err

pub returns-in_default-clause-steps : goal.returns-in_default-clause-steps
returns-in_default-clause-steps g c = inr (c.number_with.ensures.nowhere c.in_default.is, refl, refl, refl)
