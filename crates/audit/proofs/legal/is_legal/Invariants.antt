use Rattle.std.proofs.Common.{take}
use Rattle.span.specs.KeptLogs.{kept_changes}
use Rattle.span.specs.Log.{IsLegal, IsOfClass}
use Rattle.audit.specs.Changes.{AreAfter, AreIssued}
use Rattle.audit.proofs.legal.is_legal.Given as goal

abbrev pub invariant-loop-i : goal.invariant-loop-i
invariant-loop-i l = record {
  legal : IsLegal l.gens (take l.i (kept_changes l.log));
  of_class : IsOfClass l.class (take l.i (kept_changes l.log));
  held : AreAfter (take l.i (kept_changes l.log)) l.held;
  issued : AreIssued (take l.i (kept_changes l.log)) l.issued;
}
