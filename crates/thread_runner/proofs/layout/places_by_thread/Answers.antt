use Rattle.thread_runner.proofs.Names.{rules, ◌≡◌, ◌++◌, arith, drop, length, map, take, vec_items, length-take-le, take_more, AreLaid}
use Rattle.std.proofs.Math.Seq.{take-append_seam}
use Rattle.thread_runner.proofs.layout.places_by_thread.Goals as goal

pub loop-place-preserved : goal.loop-place-preserved
loop-place-preserved c =
    let lines = c.args.lines.now.items in
    let above = take c.loop-place.place lines in
    let new = c.enter_place.new.places in
    let long : length above ≡ c.loop-place.place = length-take-le c.loop-place.place lines (omega (arith, c.loop-place-test.true, c.len-place-end.ensures.len)) in
    let before : AreLaid above (map vec_items c.as_mut_slice.result.now) = rw (c.as_mut_slice.ensures.value) c.loop-place.invariant in
    let same : c.loop-place.places.len ≡ length new = search rules in
    let seam : take c.loop-place.places.len (new ++ drop (length new) c.loop-place.places.items) ≡ new = rw (same) (take-append_seam new (drop (length new) c.loop-place.places.items)) in
    rw (take_more lines c.loop-place.place c.line_at.result.now c.line_at.ensures, seam) (c.in_ok-enter_place.ensures above long before)
