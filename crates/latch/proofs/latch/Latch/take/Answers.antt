use Rattle.std.proofs.Common.{rules, []}
use Rattle.latch.proofs.Steps.{HasSlot-some, takes_it}
use Rattle.latch.proofs.latch.Latch.take.Goals as goal

pub swap_new_seat-found-requires : goal.swap_new_seat-found-requires
swap_new_seat-found-requires g c = (search rules, takes_it _ (tt, []))

pub returns : goal.returns
returns g c = let there = c.swap_new_seat-found.ensures.1 c.if-found-ne0.false in (search rules, HasSlot-some _ there.0 there.1)
