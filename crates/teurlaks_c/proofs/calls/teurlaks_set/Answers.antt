use Rattle.std.proofs.Common.{subst}
use Rattle.std.specs.Prelude.{◌∷◌, []}
use mathlib.Core.Logic.{inr}
use Rattle.teurlaks_c.specs.Calls.{SetsKey}
use Rattle.teurlaks_c.proofs.calls.teurlaks_set.Goals as goal

pub returns-clause-live : goal.returns-clause-live
returns-clause-live c live = inr (
  c.in-Some.key,
  c.in-Some.ensures,
  subst (λ word. SetsKey c.args.handle.now.held c.in-Some.key (word ∷ []) c.set.result c.set.new.handle.held) c.value_of.ensures (c.set.ensures.live live),
)
