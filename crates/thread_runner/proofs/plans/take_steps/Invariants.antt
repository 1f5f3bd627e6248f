use Rattle.thread_runner.proofs.Names.{◌≡◌, map, taken_pair, pairs_done, pairs_left, plan_pairs}
use Rattle.thread_runner.proofs.plans.take_steps.Given as goal

-- the steps so far are those of the same plan
abbrev pub invariant-loop : goal.invariant-loop
invariant-loop g l = record {
  limits : l.steward.limits ≡ l.initial.steward.limits;
  pairs : plan_pairs l.steward.plan ≡ plan_pairs l.initial.steward.plan;
  underway : map taken_pair l.taken ≡ pairs_done l.steward.plan;
}

-- the pairs that are left
abbrev pub decreases-loop : goal.decreases-loop
decreases-loop g l = pairs_left l.steward.plan
