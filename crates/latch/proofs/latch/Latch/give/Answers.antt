use Rattle.std.proofs.Common.{rules, ◌∷◌, ap, ◌∙◌}
use Rattle.atomic_table.specs.Table.{rest}
use Rattle.std.specs.Prelude.{Some}
use Rattle.latch.proofs.Steps.{HasSlot-some}
use Rattle.latch.proofs.latch.Latch.give.Goals as goal

pub leave-requires : goal.leave-requires
leave-requires g c = (
  search rules,
  HasSlot-some _ c.args.value (ap (λ me. me.1) c.exchange.ensures.3 ∙ ap (λ held. (4, Some c.args.value) ∷ rest held) c.turn.inside.empty),
)
