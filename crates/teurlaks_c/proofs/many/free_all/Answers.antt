use Rattle.std.proofs.Common.{◌+◌, get_or, subst, sym}
use Rattle.std.proofs.lemmas.Option.{slice_get-get_or}
use Rattle.teurlaks_c.specs.declared.replies.RawKey.{RawKey}
use Rattle.teurlaks_c.specs.Many.{FreesRaw}
use Rattle.teurlaks_c.proofs.ManyCalls.{FreesAll-all, HasFreed, HasFreed-gone, HasFreed-live}
use Rattle.teurlaks_c.proofs.many.free_all.Goals as goal
use Rattle.teurlaks_c.proofs.many.free_all.Goals.{then-free_raw, else-free_raw}

pub loop-raw-preserved : goal.loop-raw-preserved
loop-raw-preserved c =
    let raw : RawKey = get_or c.args.keys.now c.loop-raw.raw-index (record { serial = 0; generation = 0; shard = 0; slot = 0; reserved = 0 }) in
    elim c.if-free_raw.branch [
      | then-free_raw w ↦
          subst (λ n. HasFreed c.args.core.now c.args.keys.now (c.loop-raw.raw-index + 1) n c.free_raw.new.core) (sym w.count-is)
          (HasFreed-live c.args.core.now c.args.keys.now c.loop-raw.raw-index c.loop-raw.count c.loop-raw.core c.loop-raw.invariant raw c.free_raw.new.core
          (slice_get-get_or c.args.keys.now c.loop-raw.raw-index _ c.loop-raw-test.true)
          (subst (λ freed. FreesRaw c.loop-raw.core raw freed c.free_raw.new.core) w.if-free_raw.true c.free_raw.ensures))
      | else-free_raw w ↦
          subst (λ n. HasFreed c.args.core.now c.args.keys.now (c.loop-raw.raw-index + 1) n c.free_raw.new.core) (sym w.count-is)
          (HasFreed-gone c.args.core.now c.args.keys.now c.loop-raw.raw-index c.loop-raw.count c.loop-raw.core c.loop-raw.invariant raw c.free_raw.new.core
          (slice_get-get_or c.args.keys.now c.loop-raw.raw-index _ c.loop-raw-test.true)
          (subst (λ freed. FreesRaw c.loop-raw.core raw freed c.free_raw.new.core) w.if-free_raw.false c.free_raw.ensures))
    ]

pub returns : goal.returns
returns c = FreesAll-all c.args.core.now c.args.keys.now c.loop-raw.raw-index c.loop-raw.count c.loop-raw.core c.loop-raw.invariant c.loop-raw-test.false
