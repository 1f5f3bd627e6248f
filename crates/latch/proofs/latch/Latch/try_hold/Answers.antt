use Rattle.std.proofs.Common.{rules, ◌∷◌, sym, ap, ◌∙◌}
use Rattle.atomic_table.specs.Table.{rest}
use Rattle.std.specs.Prelude.{None, Some}
use Rattle.latch.proofs.Steps.{slot_value}
use Rattle.latch.proofs.latch.Latch.try_hold.Goals as goal

pub exchange-requires : goal.exchange-requires
exchange-requires g c = let there = slot_value c.in_ok-seat.seat.me.1 (c.in_ok-seat.ensures {u = tt}).1 in (
  search rules,
  (Some there.0, there.1 ∙ ap (λ held. (4, Some there.0) ∷ rest held) (sym there.1)),
)

pub invariant_of-turn-inside : goal.invariant_of-turn-inside
invariant_of-turn-inside g c = let there = slot_value c.in_ok-seat.seat.me.1 (c.in_ok-seat.ensures {u = tt}).1 in (
  ap (λ me. me.1) (c.in-Some.ensures {u = tt}).3 ∙ ap (λ held. (4, None) ∷ rest held) there.1,
  tt,
)
