-- Groups by their heads.
use Rattle.std.proofs.Common.{suc, ◌≡◌, ℕ, ◌⊎◌, Bool, true, false, List, [], ◌∷◌, refl, inl, inr, rules}
use Rattle.span.proofs.Ids.{same_id_from_test, test_from_same_id}
use Rattle.span.specs.Ids.{same_span}
use Rattle.span.specs.declared.id.SpanId.{SpanId}
use Rattle.shard.specs.Group.{GroupState}
use Rattle.groups.specs.Group.{HasNoHead, IsHeadOf}
use Rattle.groups.proofs.Lists.{same_some}

-- no group has the head, or one does
pub none_or_head : (groups : List GroupState) (head : SpanId) → HasNoHead groups head ⊎ ((index : ℕ) × (group : GroupState) × IsHeadOf groups head index group)
none_or_head [] head = inl (λ index group here. absurd (let e = here.here in cc))
none_or_head (first ∷ groups) head = by_test (same_span first.head.id head) refl (none_or_head groups head)
  where
    by_test : (b : Bool) → same_span first.head.id head ≡ b → HasNoHead groups head ⊎ ((index : ℕ) × (group : GroupState) × IsHeadOf groups head index group)
        → HasNoHead (first ∷ groups) head ⊎ ((index : ℕ) × (group : GroupState) × IsHeadOf (first ∷ groups) head index group)
    by_test true passes rest = inr (0, first, record { here = refl; head_is = same_id_from_test first.head.id head passes })
    by_test false fails (inr (index, group, here)) = inr (suc index, group, record { here = here.here; head_is = here.head_is })
    by_test false fails (inl none) = inl none_here
      where
        none_here : HasNoHead (first ∷ groups) head
        none_here n group here = search (rules, test_from_same_id, same_some)
