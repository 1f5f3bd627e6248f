use Rattle.thread_runner.proofs.Names.{◌∙◌, ◌++◌, ap, subst, AreFresh, IsGiven, each-parts}
use Rattle.thread_runner.proofs.caller.Caller.go_on.Goals as goal

pub returns-clause-before : goal.returns-clause-before
returns-clause-before g c given are =
    (each-parts (IsGiven given) c.args.latest.now.items c.args.self.now.fresh.items
    (subst (λ f. AreFresh f given) (c.in_ok-extend_from_slice.ensures.items ∙ ap (λ l. c.args.latest.now.items ++ l) c.as_slice.ensures.value) are)).0

pub returns-clause-kept : goal.returns-clause-kept
returns-clause-kept g c given are =
    (each-parts (IsGiven given) c.args.latest.now.items c.args.self.now.fresh.items
    (subst (λ f. AreFresh f given) (c.in_ok-extend_from_slice.ensures.items ∙ ap (λ l. c.args.latest.now.items ++ l) c.as_slice.ensures.value) are)).1
