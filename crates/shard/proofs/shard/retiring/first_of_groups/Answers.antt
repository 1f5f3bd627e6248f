use Rattle.std.proofs.Common.{Global, Vec, arith, map, refl}
use Rattle.std.proofs.lemmas.Result.{IfOk-weaker}
use Rattle.std.specs.List.{filter}
use Rattle.shard.specs.Sparse.{told_of}
use Rattle.shard.specs.Telling.{AreSelected, is_live}
use Rattle.shard.specs.declared.shard.retiring.LiveGroup.{LiveGroup}
use Rattle.shard.proofs.ToldBelow.{AreSelected-first}
use Rattle.shard.proofs.shard.retiring.first_of_groups.Goals as goal

pub loop-init : goal.loop-init
loop-init g c = record { known = c.requires.known; len = refl }

pub loop-preserved : goal.loop-preserved
loop-preserved g c = record {
  known = c.in_ok-told.ensures.known;
  len = omega (arith, c.in_ok-told.ensures.len, c.loop.invariant.len);
}

pub returns-in_default-clause-known : goal.returns-in_default-clause-known
returns-in_default-clause-known g c = c.loop.invariant.known

pub tell_below-requires-clause-known : goal.tell_below-requires-clause-known
tell_below-requires-clause-known g c = c.loop.invariant.known

pub returns-clause-known : goal.returns-clause-known
returns-clause-known g c = c.loop.invariant.known

pub returns-then-len-most-clause-first : goal.returns-then-len-most-clause-first
returns-then-len-most-clause-first g c =
    let live = filter is_live (map told_of c.args.groups.now.items) in
    let told = c.in_ok-told.told.items in
    IfOk-weaker c.first_of.result (λ (first : Vec LiveGroup Global). AreSelected c.args.most told first.items)
    (λ (first : Vec LiveGroup Global). AreSelected c.args.most live first.items)
    (λ first. AreSelected-first c.args.most live told first.items c.in_ok-told.ensures.told (omega (arith, c.if-len-most.true, c.len.ensures)))
    c.first_of.ensures
