use Rattle.bitmap.proofs.Shifts.{slots-below}
use Rattle.bitmap.proofs.bits.Bits256.below.Goals as goal

pub returns : goal.returns
returns c =
    slots-below c.args.limit c.bits_below.result c.bits_below-2.result c.bits_below-3.result c.bits_below-4.result
    (record { inside = c.bits_below.ensures.inside; outside = c.bits_below.ensures.outside })
    (rw (← c.saturating_sub.ensures) (record { inside = c.bits_below-2.ensures.inside; outside = c.bits_below-2.ensures.outside }))
    (rw (← c.saturating_sub-2.ensures) (record { inside = c.bits_below-3.ensures.inside; outside = c.bits_below-3.ensures.outside }))
    (rw (← c.saturating_sub-3.ensures) (record { inside = c.bits_below-4.ensures.inside; outside = c.bits_below-4.ensures.outside }))
    c.requires
