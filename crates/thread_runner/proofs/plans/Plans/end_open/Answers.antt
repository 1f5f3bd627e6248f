use Rattle.thread_runner.proofs.Names.{◌∙◌, None, subst, sym, HaveCome}
use Rattle.thread_runner.proofs.Noting.{HaveCome-closed_before, HaveCome-ended}
use Rattle.thread_runner.proofs.plans.Plans.end_open.Goals as goal
use Rattle.thread_runner.proofs.plans.Plans.end_open.Goals.{then-close+in_ok-closed, else-close}

pub returns-clause-minutes : goal.returns-clause-minutes
returns-clause-minutes g c lines above come begins =
    let steps = c.in_ok-take_steps.ensures in
    elim c.if-close.branch [
      | then-close+in_ok-closed w ↦
          subst (HaveCome lines above None) (sym w.minutes-is)
          (HaveCome-ended lines above c.args.barrier w.totals.result.pages c.args.self.steward.plan c.take_steps.new.steward.plan c.take_steps.new.taken c.args.self.minutes w.closed.new.self come
          steps.pairs (sym c.close.ensures.closed ∙ w.if-close.true) steps.underway steps.none begins w.in_ok-closed.ensures.marks w.in_ok-closed.ensures.notes w.in_ok-closed.ensures.certificate)
      | else-close w ↦
          subst (HaveCome lines above None) (sym w.minutes-is)
          (HaveCome-closed_before lines above c.args.self.steward.plan c.take_steps.new.steward.plan c.args.self.minutes come steps.pairs (sym c.close.ensures.closed ∙ w.if-close.false))
    ]
