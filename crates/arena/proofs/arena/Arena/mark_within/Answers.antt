use Rattle.marks.proofs.InPart.{too_many-sparsest}
use Rattle.arena.proofs.arena.Arena.mark_within.Goals as goal

pub returns-clause-too_many : goal.returns-clause-too_many
returns-clause-too_many g c = λ sparsest.
    too_many-sparsest c.args.sight _ _ _ _ c.mark.result.made sparsest c.mark.ensures.exact
