use Rattle.std.proofs.Common.{rules, ◌∷◌, sym, ap, ◌∙◌}
use Rattle.std.specs.Prelude.{Some}
use Rattle.atomic_table.specs.Table.{rest}
use Rattle.latch.proofs.Steps.{slot_value}
use Rattle.latch.proofs.latch.Latch.ask.Goals as goal

pub slot_mut-requires : goal.slot_mut-requires
slot_mut-requires g c = let there = slot_value c.args.seat.now.me.1 c.requires.1 in (
  search rules,
  (Some there.0, there.1 ∙ ap (λ held. (4, Some there.0) ∷ rest held) (sym there.1)),
)
