use Rattle.std.proofs.Common.{rules}
use Rattle.latch.proofs.Steps.{gives_it, slot_value}
use Rattle.latch.proofs.latch.Latch.leave.Goals as goal

pub store-requires : goal.store-requires
store-requires g c = let there = slot_value c.args.seat.me.1 c.requires.1 in (
  search rules,
  search rules,
  gives_it _ _ _ there.0 there.1,
)
