use Rattle.std.proofs.Common.{◌+◌, arith, length, refl}
use Rattle.std.proofs.lemmas.Option.{slice_get_read}
use Rattle.groups.proofs.SpanCounts.{length-take_spans}
use Rattle.groups.specs.Group.{spans_of}
use Rattle.pool.proofs.Walked.{spans-more}
use Rattle.pool.proofs.walks.span_count.Goals as goal

pub loop-group-preserved : goal.loop-group-preserved
loop-group-preserved g c =
    let here = slice_get_read c.args.groups.now (length c.args.groups.now) c.loop-group.group-index c.group-item.result refl c.loop-group-test.true c.group-item.is in
    let before = c.loop-group.invariant in
    omega (arith, before, spans-more c.args.groups.now c.loop-group.group-index c.group-item.result here, c.len-count.ensures)

pub overflow_add-count : goal.overflow_add-count
overflow_add-count g c =
    let here = slice_get_read c.args.groups.now (length c.args.groups.now) c.loop-group.group-index c.group-item.result refl c.loop-group-test.true c.group-item.is in
    omega (
      arith,
      c.loop-group.invariant,
      spans-more c.args.groups.now c.loop-group.group-index c.group-item.result here,
      length-take_spans spans_of c.args.groups.now (c.loop-group.group-index + 1),
      c.len-count.ensures,
      c.requires,
    )
