use Rattle.thread_runner.proofs.Names.{◌∙◌, sym}
use Rattle.thread_runner.proofs.Noting.{barrier_from-here, barrier_from-other}
use Rattle.thread_runner.proofs.run.barrier_of.Goals as goal

pub returns-then-is_barrier-clause-barrier : goal.returns-then-is_barrier-clause-barrier
returns-then-is_barrier-clause-barrier c =
    sym (c.loop-place.invariant ∙ barrier_from-here c.args.lines.now.items c.loop-place.place c.line_at.result.now c.line_at.ensures (sym c.is_barrier.ensures ∙ c.if-is_barrier.true))

pub loop-place-preserved : goal.loop-place-preserved
loop-place-preserved c =
    c.loop-place.invariant ∙ barrier_from-other c.args.lines.now.items c.loop-place.place c.line_at.result.now c.line_at.ensures (sym c.is_barrier.ensures ∙ c.if-is_barrier.false)
