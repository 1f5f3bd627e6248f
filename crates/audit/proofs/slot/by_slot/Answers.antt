use Rattle.span.specs.KeptLogs.{kept_changes}
use Rattle.audit.proofs.BySlot.{HasChanges-moved}
use Rattle.audit.proofs.slot.by_slot.Goals as goal

pub returns : goal.returns
returns c = record {
  has = HasChanges-moved (kept_changes c.args.log.now) c.in_ok-found.found.items c.sort.new.found.items c.sort.ensures.permutation (c.in_ok-found.ensures {u = tt});
  sorted = c.sort.ensures.sorted;
}
