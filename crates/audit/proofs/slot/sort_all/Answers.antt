use Rattle.audit.proofs.slot.sort_all.Goals as goal

pub returns : goal.returns
returns g c j d less = let there = (c.for_each_mut.ensures j d less).1 in rw (there.argument_is, there.left) at there.call
