use Rattle.bitmap.specs.Slots.{ascending}
use Rattle.page.proofs.Copied.{IsPageCopying}
use Rattle.page.proofs.page.Page.copy_from.Given as goal

abbrev pub invariant-loop-slot : goal.invariant-loop-slot
invariant-loop-slot l = IsPageCopying l.fn.self l.self l.class l.fn.other l.slot-iterator (ascending l.slots)
