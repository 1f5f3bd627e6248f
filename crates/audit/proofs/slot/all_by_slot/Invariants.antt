use Rattle.std.proofs.Common.{◌≡◌, map, vec_items, vec_len}
use Rattle.audit.specs.Slots.{AreBySlot}
use Rattle.audit.proofs.slot.all_by_slot.Given as goal

abbrev pub invariant-loop-log : goal.invariant-loop-log
invariant-loop-log l = record { len : vec_len l.orders ≡ l.log-index; each : AreBySlot l.logs (map vec_items l.orders.items) }
