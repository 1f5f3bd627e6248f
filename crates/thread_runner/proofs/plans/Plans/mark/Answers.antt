use Rattle.thread_runner.proofs.Names.{◌∙◌, ◌+◌, ap, subst, sym, HaveCome, plan_pairs}
use Rattle.thread_runner.proofs.Noting.{HaveCome-planned, HaveCome-refused}
use Rattle.thread_runner.proofs.plans.Plans.mark.Goals as goal

pub returns-in_ok-planned-in-Ok : goal.returns-in_ok-planned-in-Ok
returns-in_ok-planned-in-Ok g c lines come is =
    let found = c.in-Ok.certificate in
    subst (λ p. HaveCome lines (c.args.place + 1) p c.planned.new.self) (sym (ap (λ s. plan_pairs s.plan) c.in-Ok.ensures.keeps.2))
    (HaveCome-planned lines c.args.place c.totals-pages.result.pages found c.args.self.now.minutes c.planned.new.self come is
    c.in-Ok.ensures.keeps.0
    c.in_ok-planned-in-Ok.ensures.marks c.in_ok-planned-in-Ok.ensures.notes c.in_ok-planned-in-Ok.ensures.certificate)

pub returns-in_ok-refused-in-Err-TooMany : goal.returns-in_ok-refused-in-Err-TooMany
returns-in_ok-refused-in-Err-TooMany g c lines come is =
    subst (λ p. HaveCome lines (c.args.place + 1) p c.refused.new.self) (sym (ap (λ s. plan_pairs s.plan) c.in-Err-TooMany.ensures.keeps.1 ∙ ap plan_pairs c.requires.unplanned))
    (HaveCome-refused lines c.args.place c.args.self.now.minutes c.refused.new.self come is
    c.in_ok-refused-in-Err-TooMany.ensures.marks c.in_ok-refused-in-Err-TooMany.ensures.notes c.in_ok-refused-in-Err-TooMany.ensures.certificate)
