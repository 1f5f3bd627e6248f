use Rattle.std.proofs.Common.{◌+◌, ◌∙◌, arith, refl, suc}
use Rattle.compaction.specs.Compacts.{going}
use Rattle.compaction.proofs.Steps.{TakesAll-next}
use Rattle.compaction.proofs.compaction.Compaction.take_steps.Goals as goal

pub loop-left-init : goal.loop-left-init
loop-left-init c = record { takes = (0, 0, (refl, refl), omega arith); same = refl; sound = λ less. absurd (omega (arith, less)) }

pub loop-left-preserved : goal.loop-left-preserved
loop-left-preserved c =
    let (steps, taken, takes, is) = c.loop-left.invariant.takes in
    record {
      takes = (
        suc steps,
        taken + c.advance-taken.result.cost,
        TakesAll-next steps taken c.advance-taken.result.cost c.advance-taken.result.advanced (going c.args.self.now c.args.core.now) (going c.loop-left.self c.loop-left.core)
            (going c.advance-taken.new.self c.advance-taken.new.core) takes c.advance-taken.ensures.takes c.in-None.ensures,
        omega (arith, is, c.advance-taken.ensures.at_most),
      );
      same = c.advance-taken.ensures.same ∙ c.loop-left.invariant.same;
      sound = λ less. c.advance-taken.ensures.sound;
    }
