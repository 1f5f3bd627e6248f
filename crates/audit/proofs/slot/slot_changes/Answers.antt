use Rattle.std.proofs.Common.{rules}
use Rattle.audit.proofs.BySlot.{HasChanges-all}
use Rattle.audit.proofs.slot.slot_changes.Goals as goal

pub returns : goal.returns
returns c = search (rules, HasChanges-all)
