use Rattle.std.proofs.Common.{subst}
use mathlib.Core.Logic.{inl, inr}
use Rattle.teurlaks_c.specs.Calls.{SetsKey}
use Rattle.teurlaks_c.proofs.calls.teurlaks_set_words.Goals as goal

pub returns-clause-live : goal.returns-clause-live
returns-clause-live c live = inl (
  c.in-Some.ensures.class.0,
  inr (
    c.in-Some-key_of.key,
    c.in-Some-key_of.ensures,
    subst (λ words. SetsKey c.args.handle.now.held c.in-Some-key_of.key words c.set.result c.set.new.handle.held) c.join_all.ensures
        (c.set.ensures.live live),
  ),
)
