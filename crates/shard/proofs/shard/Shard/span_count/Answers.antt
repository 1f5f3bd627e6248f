use Rattle.std.proofs.Common.{◌+◌, arith, refl}
use Rattle.groups.specs.Group.{spans_in, spans_of}
use Rattle.groups.proofs.SpanCounts.{at_most_ids, length-spans_more, length-take_spans}
use Rattle.shard.proofs.shard.Shard.span_count.Goals as goal

pub loop-index-init : goal.loop-index-init
loop-index-init g c = (
  refl,
  at_most_ids (spans_in c.self.inside.groups.items) c.self.invariant.sound.once,
)

pub overflow_add-count : goal.overflow_add-count
overflow_add-count g c =
    let groups = c.self.inside.groups.items in
    let before = c.loop-index.invariant in
    let more = length-spans_more spans_of groups c.loop-index.index c.index.result.now (omega (arith, c.loop-index-test.true, c.len-index-end.ensures)) c.index.ensures in
    let fewer = length-take_spans spans_of groups (c.loop-index.index + 1) in
    omega (arith, c.len-count.ensures)
