use Rattle.std.proofs.Common.{◌∙◌, arith, map}
use Rattle.std.proofs.lemmas.List.{length-map}
use Rattle.std.proofs.lemmas.Option.{slice_get_within}
use Rattle.marks.proofs.OneShard.{closing-found, closing-nowhere}
use Rattle.marks.proofs.closing.close_one.Goals as goal

pub returns-then-close_at : goal.returns-then-close_at
returns-then-close_at g c first done once old_is =
    let lent = g.H.LendsShard.lent in
    closing-found first done c.args.pair (map lent c.args.shards.now) (map lent c.close_at.new.shards) c.args.pair.1.shard once old_is (c.if-close_at.ensures {u = tt})

pub returns-then-close_at-2 : goal.returns-then-close_at-2
returns-then-close_at-2 g c first done once old_is =
    let lent = g.H.LendsShard.lent in
    closing-found first done c.args.pair (map lent c.loop-place.shards) (map lent c.close_at-in-loop-place.new.shards) c.loop-place.place once
    (c.loop-place.invariant.same ∙ old_is) (c.if-close_at-2.ensures {u = tt})

pub returns : goal.returns
returns g c first done once old_is =
    let lent = g.H.LendsShard.lent in
    closing-nowhere first done c.args.pair (map lent c.args.shards.now) (map lent c.loop-place.shards) old_is c.loop-place.invariant.same
    (λ place shard there. c.loop-place.invariant.none place shard
    (omega (
      arith,
      slice_get_within (map lent c.args.shards.now) place shard there,
      length-map c.args.shards.now lent,
      c.loop-place-test.false,
      c.close_at.auto.shards,
    )) there)
