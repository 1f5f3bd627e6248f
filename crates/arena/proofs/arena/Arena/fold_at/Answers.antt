use Rattle.std.proofs.lemmas.Result.{on_err_weaker}
use Rattle.arena.proofs.arena.Arena.fold_at.Goals as goal

pub returns-clause-may : goal.returns-clause-may
returns-clause-may g c = on_err_weaker c.fold_onto.result.step (λ may. (c.deref_mut.result.now, may)) c.fold_onto.ensures.may
