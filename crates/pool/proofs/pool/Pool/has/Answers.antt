use Rattle.std.proofs.Common.{◌≡◌, ℕ, Bool, Bor, true, false, Option, Some, None, MatchOption, is_some, ◌∙◌, List, sym, ◌↔◌, IsTrue}
use Rattle.span.specs.State.{SpanState}
use Rattle.span.specs.declared.id.SpanId.{SpanId}
use Rattle.pool.specs.State.{PooledState}
use Rattle.groups.specs.Group.{IsElsewhere, IsHere}
use Rattle.pool.proofs.pool.Pool.has.Goals as goal

has_span : (groups : List PooledState) (id : SpanId) (o : Option (Bor PooledState × ℕ))
    → MatchOption o (IsElsewhere groups id) (λ at. (index : ℕ) × (span : SpanState) × IsHere groups id index at.1 at.0.now span)
    → (b : Bool) → b ≡ is_some o → IsTrue b ↔ (IsElsewhere groups id → ⊥)
has_span groups id None elsewhere b is = ((λ t. let e : false ≡ true = sym is ∙ t in cc), (λ here. absurd (here elsewhere)))
has_span groups id (Some at) found b is = ((λ t elsewhere. elsewhere found.0 at.0.now found.2.group_is at.1 (found.1, found.2.span_is, found.2.id_is)), (λ here. is))

pub returns : goal.returns
returns g c = has_span c.args.self.now.groups c.args.id c.find.result c.find.ensures.place c.is_some.result c.is_some.ensures
