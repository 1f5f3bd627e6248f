use Rattle.trace_runner.proofs.Names.{rules}
use Rattle.trace_runner.proofs.Progress.{HasCome-start}
use Rattle.trace_runner.proofs.run.Run.new.Goals as goal

pub returns-clause-come : goal.returns-clause-come
returns-clause-come c = rw c.new.ensures
    (HasCome-start c.args.trace.now.header c.args.replies c.args.trace.now.lines.items c.args.core _ _ c.requires (λ t. search rules)
    (c.new-3.ensures.news c.args.replies) c.new-3.ensures.left)
