use Rattle.std.proofs.Common.{◌+◌, ◌/◌, ◌∙◌, sym, arith}
use Rattle.bitmap.proofs.InParts.{contains-past}
use Rattle.bitmap.proofs.MovedParts.{all_gathered-above, all_gathered-below, none-set}
use Rattle.bitmap.specs.declared.bits.TheConstants.{SLOTS}
use Rattle.bitmap.proofs.parts.gather_all.Goals as goal

pub returns-then-from-len-clause-above : goal.returns-then-from-len-clause-above
returns-then-from-len-clause-above c q large =
    contains-past c.args.parts.now.items q (omega (arith, c.if-from-len.true, c.len.ensures, c.args.parts.now.ok.0, large))
    ∙ sym (contains-past c.args.parts.now.items (q + 4) (omega (arith, c.if-from-len.true, c.len.ensures, c.args.parts.now.ok.0, large)))

pub returns-then-from-len-clause-before : goal.returns-then-from-len-clause-before
returns-then-from-len-clause-before c n large = contains-past c.args.parts.now.items n (omega (arith, large, c.len-then-from-len.ensures, c.args.parts.now.ok.0))

pub returns-then-from-len-clause-after : goal.returns-then-from-len-clause-after
returns-then-from-len-clause-after c n large = contains-past c.args.parts.now.items n (omega (arith, large, c.len-then-from-len.ensures, c.args.parts.now.ok.0))

pub lower_from-requires-clause-none : goal.lower_from-requires-clause-none
lower_from-requires-clause-none c = none-set c.args.parts.now.items (c.args.limit / SLOTS) c.end_of-end.result (omega (arith, c.if-from-len.false, c.len.ensures, c.args.parts.now.ok.0))
    c.gather.result (omega (arith, c.end_of-end.ensures.order)) c.end_of-end.ensures.none

pub returns-clause-after : goal.returns-clause-after
returns-clause-after c n large = c.lower_from.ensures.rest n large ∙ none-set c.args.parts.now.items (c.args.limit / SLOTS) c.end_of-end.result
    (omega (arith, c.if-from-len.false, c.len.ensures, c.args.parts.now.ok.0)) c.gather.result (omega (arith, c.end_of-end.ensures.order)) c.end_of-end.ensures.none n large

pub returns-clause-below : goal.returns-clause-below
returns-clause-below c =
    all_gathered-below c.args.parts.now.items c.args.limit (omega (arith, c.if-from-len.false, c.len.ensures, c.args.parts.now.ok.0)) c.part_at-after.result c.index.result.now c.gather.result c.lower_from.new.parts.items
    c.index.ensures c.part_at-after.ensures c.gather.ensures.below c.gather.ensures.above c.gather.ensures.last c.lower_from.ensures.below c.lower_from.ensures.above

pub returns-clause-above : goal.returns-clause-above
returns-clause-above c =
    all_gathered-above c.args.parts.now.items c.args.limit (omega (arith, c.if-from-len.false, c.len.ensures, c.args.parts.now.ok.0)) c.part_at-after.result c.index.result.now c.gather.result c.lower_from.new.parts.items
    c.index.ensures c.part_at-after.ensures c.gather.ensures.below c.gather.ensures.above c.gather.ensures.last c.lower_from.ensures.below c.lower_from.ensures.above
