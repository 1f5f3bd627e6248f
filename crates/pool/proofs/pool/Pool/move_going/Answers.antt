use Rattle.std.proofs.Common.{◌∙◌, ap, length, subst, sym}
use Rattle.shard.proofs.Left.{swept-open}
use Rattle.shard.specs.Leaving.{swept}
use Rattle.shard.specs.Shown.{shown as shown_by_shard}
use Rattle.shard.specs.Sparse.{AreSparsestFirst}
use Rattle.shard.specs.State.{ShardState}
use Rattle.pool.specs.Handover.{AreReady}
use Rattle.pool.specs.Retires.{HasRetired, MovesSparse}
use Rattle.pool.specs.Shown.{shown, together}
use Rattle.pool.proofs.pool.Pool.move_going.Goals as goal

pub take_going-requires : goal.take_going-requires
take_going-requires g c = record {
  ready = (
    c.requires.ready.0,
    subst (λ (s : ShardState). AreReady c.args.self.now s c.args.going.now c.requires.ready.0) (sym (swept-open c.args.shard.now c.requires.unclosed)) c.requires.ready.1,
  );
}

pub returns-clause-moved : goal.returns-clause-moved
returns-clause-moved g c =
    let count = length c.args.going.now in
    subst (λ (s : ShardState). MovesSparse count c.args.self.now s c.take_going.new.self c.sweep.new.self) (swept-open c.args.shard.now c.requires.unclosed)
    (subst (λ (s : ShardState). MovesSparse count c.args.self.now (swept c.args.shard.now) c.take_going.new.self s) (sym c.sweep.ensures.swept) c.take_going.ensures.moved)

pub returns-clause-whole : goal.returns-clause-whole
returns-clause-whole g c =
    let count = length c.args.going.now in
    subst (λ (s : ShardState). HasRetired c.args.self.now s count c.take_going.new.self c.sweep.new.self) (swept-open c.args.shard.now c.requires.unclosed)
    (subst (λ (s : ShardState). HasRetired c.args.self.now (swept c.args.shard.now) count c.take_going.new.self s) (sym c.sweep.ensures.swept) c.take_going.ensures.whole)

pub returns-clause-left : goal.returns-clause-left
returns-clause-left g c = λ rest ready.
    subst (λ (s : ShardState). AreSparsestFirst s.groups rest) (sym c.sweep.ensures.swept)
    (c.take_going.ensures.left rest (subst (λ (s : ShardState). AreReady c.args.self.now s c.args.going.now rest) (sym (swept-open c.args.shard.now c.requires.unclosed)) ready))

pub returns-clause-kept : goal.returns-clause-kept
returns-clause-kept g c =
    ap (λ (s : ShardState). together (shown c.take_going.new.self) (shown_by_shard s)) c.sweep.ensures.swept
    ∙ c.take_going.ensures.kept
    ∙ ap (λ (s : ShardState). together (shown c.args.self.now) (shown_by_shard s)) (swept-open c.args.shard.now c.requires.unclosed)
