use Rattle.trace_runner.proofs.Names.{Ok, Keeps-refl, Keeps-trans}
use Rattle.std.specs.declared.io.Error.{Error}
use Rattle.trace_runner.proofs.Taken.{Keeps-write, WriteAppends-err}
use Rattle.trace_runner.proofs.sink.interrupted.write_once.Goals as goal

pub loop-init : goal.loop-init
loop-init g c = Keeps-refl (g.W.Write.contents c.args.writer.now)

pub returns-in-Ok-clause-written : goal.returns-in-Ok-clause-written
returns-in-Ok-clause-written g c = Keeps-write {E = Error} _ (g.W.Write.contents c.loop.writer) _ (Ok c.in-Ok.count) c.args.bytes.now c.loop.invariant (rw (c.in-Ok.is) at c.write.ensures.bytes)

pub loop-preserved : goal.loop-preserved
loop-preserved g c = Keeps-trans _ (g.W.Write.contents c.loop.writer) _ c.loop.invariant (WriteAppends-err _ _ c.write.result c.in-Err.error c.args.bytes.now c.in-Err.is c.write.ensures.bytes)

pub returns-clause-written : goal.returns-clause-written
returns-clause-written g c = c.loop.invariant
