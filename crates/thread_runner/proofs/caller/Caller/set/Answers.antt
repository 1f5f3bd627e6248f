use Rattle.thread_runner.proofs.Names.{◌∙◌, ap, refl, on_ok_weaker, Called, Said, Sets, carried_by}
use Rattle.trace_runner.specs.declared.report.Other.TheVariants as other
use Rattle.thread_runner.proofs.Carrying.{Carries-none, carried-kept}
use Rattle.thread_runner.proofs.Knowing.{Answers-set, None-not_some, TellsFrom-still}
use Rattle.thread_runner.proofs.caller.Caller.set.Goals as goal

pub returns-in_default-clause-told : goal.returns-in_default-clause-told
returns-in_default-clause-told g c = on_ok_weaker c.other.result
    (TellsFrom-still c.args.number (Sets c.args.place c.args.value) (Said other.Unbound) c.args.keys.now.kept.items c.args.self.now c.other.new.self c.other.ensures.fresh
    (λ given known. (c.in_ok-key.ensures given known ∙ None-not_some c.in_ok-key.field-0 c.in_default.not-Some, refl)) (Carries-none _ _ (ap carried_by c.other.ensures.seat)))
    c.other.ensures.told

pub returns-clause-told : goal.returns-clause-told
returns-clause-told g c =
    let self = c.args.self.now in
    on_ok_weaker c.keep.result
    (TellsFrom-still c.args.number (Sets c.args.place c.args.value) (Called c.in_ok-receipt.receipt) c.args.keys.now.kept.items self c.keep.new.self c.keep.ensures.fresh
    (λ given known. Answers-set given self.seat.section self.seat.worker c.args.place c.args.value c.in_ok-receipt.field-0-0 c.in-Some.key c.in_ok-receipt.receipt
    c.in_ok-receipt.ensures.receipt (c.in_ok-key.ensures given known ∙ c.in-Some.is))
    (Carries-none _ _ (ap carried_by c.keep.ensures.seat ∙ carried-kept self.seat c.set.new.self c.set.ensures.seat.kept)))
    c.keep.ensures.told
