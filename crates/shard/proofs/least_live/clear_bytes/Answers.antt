use Rattle.std.proofs.Common.{arith, inl, inr, refl, subst, sym}
use Rattle.std.proofs.lemmas.Option.{slice_get_within}
use Rattle.groups.proofs.Lists.{cases-set}
use Rattle.shard.specs.Least.{IsLeast}
use Rattle.shard.proofs.LeastLive.{IsLeast-zero}
use Rattle.shard.proofs.least_live.clear_bytes.Goals as goal

pub loop-index-init : goal.loop-index-init
loop-index-init c = (refl, λ at byte low there. absurd (omega (arith, low)))

pub loop-index-preserved : goal.loop-index-preserved
loop-index-preserved c = (
  c.loop-index.invariant.0,
  λ at byte low there. elim (cases-set c.loop-index.least.items c.loop-index.index 0 at byte there) [
    | inl this ↦ sym this.1
    | inr that ↦ c.loop-index.invariant.1 at byte (omega (arith, low, that.0)) that.1
  ],
)

pub returns-clause-known : goal.returns-clause-known
returns-clause-known c groups at least group byte there =
    let low = slice_get_within c.loop-index.least.items at least byte in
    let none = c.loop-index.invariant.1 at least (omega (arith, low, c.loop-index-test.false, c.len-index-end.ensures, c.loop-index.invariant.0, c.loop-index.least.ok.0)) byte in
    subst (λ n. IsLeast n group) (sym none) (IsLeast-zero group)
