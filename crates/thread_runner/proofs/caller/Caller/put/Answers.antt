use Rattle.thread_runner.proofs.Names.{◌≡◌, ◌∙◌, ap, None, Some, refl, subst, on_ok_weaker, put_receipt, counted_from, Called, Said, AreFresh, carried_by}
use Rattle.trace_runner.specs.declared.report.Other.TheVariants as other
use Rattle.thread_runner.proofs.Carrying.{Carries-none, carried-kept}
use Rattle.thread_runner.proofs.Knowing.{Answers-put, TellsFrom-put}
use Rattle.thread_runner.proofs.caller.Caller.put.Goals as goal

pub returns-in_ok-enter-in-Ok-clause-told : goal.returns-in_ok-enter-in-Ok-clause-told
returns-in_ok-enter-in-Ok-clause-told g c kept =
    let self = c.args.self.now in
    on_ok_weaker c.keep.result
    (TellsFrom-put c.args.number c.args.place (counted_from c.args.class c.args.base) (Called c.in-Ok.receipt) (Some c.in-Ok.key) kept self c.keep.new.self
    (λ given are. c.in_ok-enter-in-Ok.ensures given (subst (λ f. AreFresh f.items given) c.keep.ensures.fresh are))
    (λ given known. Answers-put given self.seat.section self.seat.worker c.args.place (counted_from c.args.class c.args.base) c.in-Ok.key c.in-Ok.receipt
    (subst (λ v. c.in-Ok.receipt ≡ put_receipt self.seat.worker self.seat.section v c.in-Ok.key c.in-Ok.receipt.at) c.counting_from.ensures c.in-Ok.ensures.receipt) known)
    (Carries-none _ _ (ap carried_by c.keep.ensures.seat ∙ carried-kept self.seat c.put.new.self c.put.ensures.seat.kept)))
    c.keep.ensures.told

pub returns-in_ok-enter-in-Err-PagesSpent-clause-told : goal.returns-in_ok-enter-in-Err-PagesSpent-clause-told
returns-in_ok-enter-in-Err-PagesSpent-clause-told g c kept = on_ok_weaker c.other.result
    (TellsFrom-put c.args.number c.args.place (counted_from c.args.class c.args.base) (Said other.PagesSpent) None kept c.args.self.now c.other.new.self
    (λ given are. c.in_ok-enter-in-Err-PagesSpent.ensures given (subst (λ f. AreFresh f.items given) c.other.ensures.fresh are))
    (λ given known. (known, refl))
    (Carries-none _ _ (ap carried_by c.other.ensures.seat ∙ carried-kept c.args.self.now.seat c.put.new.self c.put.ensures.seat.kept)))
    c.other.ensures.told
