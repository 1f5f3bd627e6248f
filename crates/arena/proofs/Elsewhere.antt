-- A shard or pool that answers that the key's span is not there does not have it.
use Rattle.std.proofs.Common.{◌≡◌, ◌↔◌, ℕ, Bool, false, IsTrue, List, Option, None, sym, ◌∙◌}
use Rattle.std.proofs.lemmas.Bool.{false≢true}
use Rattle.std.proofs.lemmas.Option.{none-some}
use Rattle.groups.specs.Group.{Group, IsElsewhere}
use Rattle.span.specs.declared.id.SpanId.{SpanId}
use Rattle.span.specs.declared.key.Key.{Key}
use Rattle.shard.specs.declared.shard.Found.{Found}
use Rattle.shard.specs.declared.shard.Found.TheVariants as found
use Rattle.shard.specs.declared.shard.Freed.{Freed}
use Rattle.shard.specs.declared.shard.Freed.TheVariants as freed
use Rattle.arena.specs.KeyAnswers.{changes_at, free_answer}

-- after a look-up of the key
pub Gets-elsewhere : (Elsewhere : Type 0) (gets : Found → Type 0) (at : Option ℕ) → (gets found.NotHere → Elsewhere) → ((what : Found) × gets what × (at ≡ changes_at what)) → at ≡ None → Elsewhere
Gets-elsewhere Elsewhere gets at not_here got none = of got.0 got.1 got.2
  where
    of : (what : Found) → gets what → at ≡ changes_at what → Elsewhere
    of (found.Value value n) had is = absurd (none-some n (sym none ∙ is))
    of (found.Gone n) had is = absurd (none-some n (sym none ∙ is))
    of found.NotHere had is = not_here had

-- after a free of the key
pub Frees-elsewhere : (Elsewhere : Type 0) (key : Key) (frees : Freed → Type 0) (answer : Option (Key × Bool × ℕ)) → (frees freed.NotHere → Elsewhere)
    → ((what : Freed) × frees what × (answer ≡ free_answer key what)) → answer ≡ None → Elsewhere
Frees-elsewhere Elsewhere key frees answer not_here told none = of told.0 told.1 told.2
  where
    of : (what : Freed) → frees what → answer ≡ free_answer key what → Elsewhere
    of freed.NotHere did is = not_here did
    of what did is = absurd (none-some _ (sym none ∙ is))

-- where the span is not had, no group has it
pub IsElsewhere-not_had : {Closed : Type 0} (groups : List (Group Closed)) (id : SpanId) (has : Bool) → IsTrue has ↔ (IsElsewhere groups id → ⊥) → has ≡ false → IsElsewhere groups id
IsElsewhere-not_had groups id has is none = λ index group here place at. false≢true (sym none ∙ is.1 (λ elsewhere. elsewhere index group here place at))
