use Rattle.audit.proofs.BySlot.{IsSplitAt-between}
use Rattle.audit.proofs.slot.is_split_at.Goals as goal

pub returns : goal.returns
returns c so = IsSplitAt-between c.args.found.now c.args.rank c.args.n c.requires c.if-found-n.false (c.ends_before.ensures c.if-not-ends_before.false)
    (c.goes_on_from.ensures c.if-not-goes_on_from.false)
