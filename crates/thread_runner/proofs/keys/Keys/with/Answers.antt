use Rattle.thread_runner.proofs.Names.{subst, IfOk-weaker, AreFresh, IsGiven}
use Rattle.thread_runner.proofs.Keeping.{each-sorted}
use Rattle.thread_runner.proofs.keys.Keys.with.Goals as goal

pub returns-clause-kept : goal.returns-clause-kept
returns-clause-kept c given =
    IfOk-weaker c.with_all.result _ _
    (λ keys kept are. each-sorted (IsGiven given) c.args.latest.items c.sort_by_key.new.self.items c.sort_by_key.ensures.permutation
    (subst (λ f. AreFresh f given) c.as_slice.ensures.value (kept are)))
    (c.with_all.ensures.kept given)
