use Rattle.std.proofs.Common.{◌≡◌, arith, get_or, length, subst, sym}
use Rattle.std.proofs.lemmas.Option.{slice_get-get_or}
use Rattle.teurlaks_c.specs.declared.replies.RawKey.{RawKey}
use Rattle.teurlaks_c.proofs.ManyCalls.{GetsAll-all, HasGot-next, IsAtEnd, IsAtEnd-min, below_both}
use Rattle.teurlaks_c.proofs.many.get_all.Goals as goal

pub loop-place-preserved : goal.loop-place-preserved
loop-place-preserved c =
    let raw : RawKey = get_or c.args.keys.now c.loop-place.place (record { serial = 0; generation = 0; shard = 0; slot = 0; reserved = 0 }) in
    let below = below_both c.loop-place.place c.min-count.result (length c.args.keys.now) (length c.args.replies.now) c.min-count.ensures c.loop-place-test.true in
    HasGot-next c.args.core.now c.args.keys.now c.args.replies.now c.loop-place.place c.loop-place.replies c.loop-place.invariant raw c.get_raw.result
    (slice_get-get_or c.args.keys.now c.loop-place.place _ below.0) (omega (arith, below.1, c.loop-place.invariant.long)) c.get_raw.ensures

pub returns : goal.returns
returns c =
    let same : c.loop-place.place ≡ c.min-count.result = omega (arith, c.loop-place-test.false, c.loop-place.auto.place-end) in
    let end : IsAtEnd c.loop-place.place (length c.args.keys.now) (length c.args.replies.now) =
    subst (λ n. IsAtEnd n (length c.args.keys.now) (length c.args.replies.now)) (sym same)
    (IsAtEnd-min c.min-count.result (length c.args.keys.now) (length c.args.replies.now) c.min-count.ensures) in
    GetsAll-all c.args.core.now c.args.keys.now c.args.replies.now c.loop-place.place c.loop-place.replies c.loop-place.invariant end.in_first end.last
