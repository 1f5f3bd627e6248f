use Rattle.std.proofs.Common.{◌∙◌, ap, arith, length, length-set, sym, true}
use Rattle.augment.proofs.Turning.{turning_more}
use Rattle.augment.proofs.walks.turn_round.Goals as goal

pub pass-requires : goal.pass-requires
pass-requires c = omega (arith, c.walk.invariant.0.free_in, c.walk.invariant.0.planned_length, c.walk.invariant.1, c.requires.used)

pub pass-requires-2 : goal.pass-requires-2
pass-requires-2 c = omega (arith, c.walk.invariant.0.free_in, c.walk.invariant.0.planned_length, c.walk.invariant.1, c.requires.used)

pub walk-preserved : goal.walk-preserved
walk-preserved c = (
  rw c.pair_up.ensures.onto
      (turning_more c.args.graph.now c.args.entries.now c.args.mates.now.onto.items c.args.mates.now.planned.items c.walk.mates.onto.items
      c.walk.mates.planned.items c.pair_up.new.self.planned.items c.walk.last c.walk.free c.in-Some.left
      c.requires.linked c.walk.mates.paired c.walk.invariant.0 (sym c.in-Some.ensures.left) c.pair_up.ensures.owned c.in-Some.ensures.freed),
  ap length c.pass.ensures ∙ length-set c.walk.used.passed.items c.walk.free true ∙ c.walk.invariant.1,
)

pub returns-clause-used : goal.returns-clause-used
returns-clause-used c = ap length c.pass-2.ensures ∙ length-set c.walk.used.passed.items c.walk.free true ∙ c.walk.invariant.1
