use Rattle.thread_runner.proofs.Names.{subst, sym, AreFresh}
use Rattle.thread_runner.proofs.caller.Caller.key_at.Goals as goal

pub returns-in-Some : goal.returns-in-Some
returns-in-Some g c given known = c.in-Some.ensures given known.0

pub returns-in-Some-find : goal.returns-in-Some-find
returns-in-Some-find g c given known = c.in-Some-find.ensures given (subst (λ f. AreFresh f given) (sym c.as_slice.ensures.value) known.1)
