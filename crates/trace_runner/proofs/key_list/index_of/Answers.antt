use Rattle.trace_runner.proofs.Names.{◌∙◌, ◌+◌, ap, arith, slice_get}
use Rattle.trace_runner.proofs.Giving.{get_or-all_closed, get_or-all_last, get_or-beyond, row_apart}
use Rattle.trace_runner.proofs.key_list.index_of.Goals as goal

pub returns-in_default : goal.returns-in_default
returns-in_default c keys refused counted = get_or-beyond keys c.args.closed.now c.args.last c.args.above refused
    (c.args.first + c.args.below) c.requires counted.0 counted.1 counted.2 c.in_default.ensures.none

pub returns-then-place-last : goal.returns-then-place-last
returns-then-place-last c keys refused counted = rw (← c.in-Some.ensures.some)
    (get_or-all_closed keys c.args.closed.now c.args.last c.args.above refused c.in-Some.place c.requires counted.0 c.if-place-last.true
    ∙ c.index_above.ensures keys c.args.last c.args.above c.requires c.if-place-last.true counted.0)

pub returns : goal.returns
returns c keys refused counted =
    let apart = row_apart c.args.closed.now 0 0 c.args.last c.args.above c.requires in
    rw (← c.in-Some.ensures.some)
    (get_or-all_last keys c.args.closed.now c.args.last c.args.above refused c.in-Some.place c.requires counted.0 c.if-place-last.false
    ∙ ap (slice_get keys) (omega (arith, apart, c.if-place-last.false)))

pub overflow_sub-result : goal.overflow_sub-result
overflow_sub-result c = omega (arith, row_apart c.args.closed.now 0 0 c.args.last c.args.above c.requires)
