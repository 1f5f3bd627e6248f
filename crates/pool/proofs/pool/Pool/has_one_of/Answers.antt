use Rattle.std.proofs.Common.{◌↔◌, ◌∙◌, IsTrue, subst, sym}
use Rattle.pool.specs.Calls.{IsInPool}
use Rattle.pool.specs.State.{PoolState, no_groups}
use Rattle.pool.proofs.Started.{shown_in_box}
use Rattle.pool.proofs.pool.Pool.has_one_of.Goals as goal

pub returns-then-len-clause-has : goal.returns-then-len-clause-has
returns-then-len-clause-has g c =
    subst (λ (p : PoolState). IsTrue c.has_one_in.result ↔ IsInPool p c.args.shard.now)
    (c.deref-then-len.ensures ∙ sym (shown_in_box (λ box. box.value) c.self.inside.stock (no_groups c.self.inside.has_plan) c.in-Some.stock c.in-Some.is) ∙ c.self.view_is) c.has_one_in.ensures.has
