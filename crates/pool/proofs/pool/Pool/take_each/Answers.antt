use Rattle.std.proofs.Common.{◌+◌, ◌≡◌, Some, drop, length, refl, slice_get}
use Rattle.std.proofs.lemmas.Option.{slice_get_read}
use Rattle.pool.proofs.Retiring.{AreReady-at, IsRetiring-first, IsRetiring-next}
use Rattle.pool.proofs.pool.Pool.take_each.Goals as goal

pub loop-one-init : goal.loop-one-init
loop-one-init g c = IsRetiring-first c.args.self.now c.args.shard.now c.args.going.now c.requires.ready.0 c.requires.ready.1

pub take_alone-requires : goal.take_alone-requires
take_alone-requires g c =
    let going = c.args.going.now in
    let here : slice_get going c.loop-one.one-index ≡ Some c.one-item.result = slice_get_read going (length going) c.loop-one.one-index c.one-item.result refl c.loop-one-test.true c.one-item.is in (
      drop (c.loop-one.one-index + 1) going,
      c.requires.ready.0,
      AreReady-at c.loop-one.self c.loop-one.shard going c.requires.ready.0 c.loop-one.one-index c.one-item.result here (c.loop-one.invariant.ready c.requires.ready.0 c.requires.ready.1),
    )

pub loop-one-preserved : goal.loop-one-preserved
loop-one-preserved g c =
    let going = c.args.going.now in
    let here : slice_get going c.loop-one.one-index ≡ Some c.one-item.result = slice_get_read going (length going) c.loop-one.one-index c.one-item.result refl c.loop-one-test.true c.one-item.is in
    IsRetiring-next c.args.self.now c.args.shard.now going c.requires.ready.0 c.loop-one.one-index c.loop-one.self
    c.loop-one.shard c.take_alone.new.self c.take_alone.new.shard c.one-item.result here c.requires.ready.1 c.loop-one.invariant
    c.take_alone.ensures.moves c.take_alone.ensures.ready c.take_alone.ensures.kept
