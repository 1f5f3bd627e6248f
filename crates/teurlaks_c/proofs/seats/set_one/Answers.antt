use Rattle.std.proofs.Common.{◌∷◌, [], subst}
use Rattle.teurlaks_c.specs.SeatCalls.{SetsBy}
use Rattle.teurlaks_c.proofs.seats.set_one.Goals as goal

pub returns : goal.returns
returns c =
    subst (λ word. SetsBy c.args.handle.now.share c.args.key (word ∷ []) c.set_values.result c.set_values.new.handle.share) c.value_of.ensures
    c.set_values.ensures
