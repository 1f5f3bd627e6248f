use Rattle.std.proofs.Common.{◌≡◌, vec_capacity}
use Rattle.span.specs.KeptLogs.{kept_changes}
use Rattle.audit.proofs.BySlot.{AreFirst}
use Rattle.audit.proofs.slot.slot_changes.Given as goal

abbrev pub invariant-loop-place : goal.invariant-loop-place
invariant-loop-place l = record { first : AreFirst (kept_changes l.log) l.place l.found.items; room : vec_capacity l.found ≡ vec_capacity l.initial.found }
