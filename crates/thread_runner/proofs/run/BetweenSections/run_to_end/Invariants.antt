use Rattle.thread_runner.proofs.Names.{◌≡◌, ◌≤◌, marks_above, HaveCome, plan_pairs}
use Rattle.thread_runner.proofs.Numbering.{IsOneSection}
use Rattle.thread_runner.proofs.run.BetweenSections.run_to_end.Given as goal

-- all marks so far are noted, and below the last there is no other
abbrev pub invariant-loop-place : goal.invariant-loop-place
invariant-loop-place g l = record {
  within : l.from ≤ l.place;
  come : HaveCome l.lines.items l.from (plan_pairs l.plans.steward.plan) l.plans.minutes;
  same : marks_above l.lines.items l.place ≡ marks_above l.lines.items l.from;
  one : IsOneSection l.lines.items l.from l.place l.between.sections_run;
}

-- the section at hand
abbrev pub ghosts-run_section : goal.ghosts-run_section
ghosts-run_section g a = record { kept = a.self.keys.kept.items; section = a.self.sections_run }

abbrev pub ghosts-run_last_section : goal.ghosts-run_last_section
ghosts-run_last_section g a = record { kept = a.self.keys.kept.items; section = a.self.sections_run }
