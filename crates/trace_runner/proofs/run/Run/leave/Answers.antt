use Rattle.trace_runner.proofs.Names.{ap, refl, kept_in, Leaves, no_call}
use Rattle.trace_runner.proofs.Making.{Makes-no_call}
use Rattle.trace_runner.proofs.Recalling.{keeping-other}
use Rattle.trace_runner.proofs.run.Run.leave.Goals as goal

pub returns-clause-made : goal.returns-clause-made
returns-clause-made c = Makes-no_call c.args.number Leaves c.args.self.now.core (kept_in c.args.self.now.replies) (kept_in c.tell.new.self) tt
    (keeping-other c.args.number (kept_in c.args.self.now.replies) (kept_in c.tell.new.self)
    (no_call Leaves) c.in_ok-tell.ensures.count c.tell.ensures.asked c.in_ok-tell.ensures.text refl (ap (λ v. v.items) c.tell.ensures.keys))
