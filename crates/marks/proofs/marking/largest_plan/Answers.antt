use Rattle.marks.proofs.Few.{IsWritable-few}
use Rattle.marks.proofs.marking.largest_plan.Goals as goal

pub returns-clause-shown : goal.returns-clause-shown
returns-clause-shown g c = record {
  best = c.in_ok-plan.ensures.best;
  short = c.in_ok-plan.ensures.short;
  certificate = c.in_ok-plan.ensures.certificate;
  writable = IsWritable-few (record { snapshot = c.args.snapshot; plan = c.in_ok-plan.plan; short = c.in_ok-plan.short }) c.in_ok-plan.ensures.certificate
      (c.requires.abandoned, c.requires.owned) (c.requires.abandoned_fit, c.requires.owned_fit) c.in_ok-plan.ensures.ascending c.in_ok-plan.ensures.short_ascending;
}
