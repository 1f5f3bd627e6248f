use Rattle.trace_runner.proofs.Names.{arith, ◌∙◌, length-drop, common_steps}
use Rattle.trace_runner.proofs.Taken.{Appends-take}
use Rattle.trace_runner.proofs.sink.give.Goals as goal

pub loop-given-preserved : goal.loop-given-preserved
loop-given-preserved g c = record {
  within = let count = c.in_ok-given.ensures.count in omega (arith, count.1, length-drop c.loop-given.given c.args.bytes.now);
  so_far = Appends-take _ _ _ c.loop-given.given c.in_ok-given.field-0 c.args.bytes.now _ (grind (arith, common_steps)) c.loop-given.invariant.so_far c.in_ok-given.ensures.taken;
  fine = c.in_ok-given.ensures.succeeded ∙ c.loop-given.invariant.fine;
}
