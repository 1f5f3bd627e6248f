use Rattle.std.proofs.Common.{ap, subst, sym, ◌∙◌}
use Rattle.std.specs.Prelude.{Some}
use Rattle.teurlaks_c.specs.StewardCalls.{HasNewArena}
use Rattle.teurlaks_c.proofs.stewards.leave_steward.Goals as goal

pub returns-in-Ok-new-clause-ok : goal.returns-in-Ok-new-clause-ok
returns-in-Ok-new-clause-ok c done =
    subst (HasNewArena c.args.limits) (sym (c.of.ensures ∙ ap Some c.in-Ok-new.ensures.ok)) c.in-Ok.ensures
