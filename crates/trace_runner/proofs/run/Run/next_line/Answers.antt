use Rattle.trace_runner.proofs.Names.{kept_in}
use Rattle.trace_runner.proofs.Progress.{HasCome-IsReady, HasCome-finds, HasCome-more}
use Rattle.trace_runner.proofs.run.Run.next_line.Goals as goal

pub line-requires-clause-ready : goal.line-requires-clause-ready
line-requires-clause-ready g c = HasCome-IsReady c.args.self.now.trace.now.header _ _ _ _ _ _ _ _ c.requires.come.2 c.args.line.now c.requires.fine

pub line-requires-clause-knows : goal.line-requires-clause-knows
line-requires-clause-knows g c = c.requires.come.2.knows

pub line-requires-clause-few : goal.line-requires-clause-few
line-requires-clause-few g c = c.requires.come.2.marks

pub returns-clause-more : goal.returns-clause-more
returns-clause-more g c replies start come =
    rw c.line.ensures.trace
    (HasCome-more c.args.self.now.trace.now.header _ _ _ _ _ _ _ _ come c.args.line.now c.line.new.self.core (kept_in c.line.new.self.replies) _ _ c.requires.here c.requires.fine
    (c.in_ok-line.ensures.made come.done (HasCome-finds c.args.self.now.trace.now.header _ _ _ _ _ _ _ _ come c.args.line.now c.requires.fine))
    c.in_ok-line.ensures.shards c.in_ok-line.ensures.leaving c.in_ok-line.ensures.knows c.in_ok-line.ensures.marks)
