use Rattle.std.proofs.Common.{◌≡◌, map, vec_items, vec_len}
use Rattle.audit.specs.Slots.{HaveChanges}
use Rattle.audit.proofs.slot.all_slot_changes.Given as goal

abbrev pub invariant-loop-log : goal.invariant-loop-log
invariant-loop-log l = record { len : vec_len l.found ≡ l.log-index; each : HaveChanges l.logs (map vec_items l.found.items) }
