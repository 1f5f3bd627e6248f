use Rattle.std.proofs.Common.{◌≡◌, ◌<◌, Some, length, subst, sym, slice_get, true, false, ◌↔◌, IsTrue}
use Rattle.span.specs.Log.{Holds}
use Rattle.span.specs.State.{SpanState}
use Rattle.pool.specs.State.{PooledState}
use Rattle.groups.specs.Group.{spans_of}
use Rattle.shard.proofs.ZeroPages.{IsPageOf-freed}
use Rattle.pool.proofs.pooled.Pooled.free.Goals as goal

pub returns-clause-found : goal.returns-clause-found
returns-clause-found g c =
    subst
    (λ (g : PooledState). (span : SpanState) → slice_get (spans_of g) c.args.place ≡ Some span → (IsTrue true ↔ Holds span.log c.args.slot c.args.generation))
    c.self.view_is (c.if-not-free.ensures {u = tt}).found

-- what the group keeps of its page stays, whether the slot was freed or not
pub invariant_of-self : goal.invariant_of-self
invariant_of-self g c =
    let free = c.if-not-free.ensures {u = tt} in
    IsPageOf-freed c.self.inside.spans c.free.new.self c.self.inside.is_paged c.self.inside.words c.args.place c.args.slot c.args.generation
    (subst (λ (g : PooledState). c.args.place < length (spans_of g)) (sym c.self.view_is) c.requires) c.self.invariant false free.freed free.unknown

pub invariant_of-self-2 : goal.invariant_of-self-2
invariant_of-self-2 g c =
    let free = c.if-not-free.ensures {u = tt} in
    IsPageOf-freed c.self.inside.spans c.free.new.self c.self.inside.is_paged c.self.inside.words c.args.place c.args.slot c.args.generation
    (subst (λ (g : PooledState). c.args.place < length (spans_of g)) (sym c.self.view_is) c.requires) c.self.invariant true free.freed free.unknown
