use Rattle.trace_runner.proofs.Names.{None, ◌+◌, ◌∙◌, get_or_from_slice_get}
use Rattle.trace_runner.proofs.replies.Replies.key.Goals as goal

pub returns-clause-found : goal.returns-clause-found
returns-clause-found c found here = c.key.ensures ∙ get_or_from_slice_get c.args.self.now.keys.items (c.args.first + c.args.place) found None here
