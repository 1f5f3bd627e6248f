-- The group that is read at the place where it was found by its head, and another in its place.
use Rattle.std.proofs.Common.{◌≡◌, ◌∙◌, ℕ, List, Option, Some, ap, get_or, refl, set, slice_get, subst, sym}
use Rattle.std.proofs.lemmas.Option.{slice_get_read}
use Rattle.span.specs.Ids.{rank}
use Rattle.span.specs.declared.id.SpanId.{SpanId}
use Rattle.groups.specs.Group.{IsHeadOf}
use Rattle.groups.proofs.Lists.{same_some}
use Rattle.pool.specs.Groups.{GroupsState}
use Rattle.pool.specs.Ranked.{AreFound, in_order}
use Rattle.pool.specs.State.{PooledState}
use Rattle.pool.proofs.RankedGroups.{found_within, in_order-set, there-IsHeadOf}

-- the group that was read stands at the place, and is that of the head; with another of the same head there, that one has changed
pub record IsRead (groups : List PooledState) (head : SpanId) (at : ℕ) (read : PooledState) (room : ℕ) (old : GroupsState) : Type 0 where
  pub there : slice_get groups at ≡ Some read
  pub one : (index : ℕ) (group : PooledState) → IsHeadOf old.groups head index group → group ≡ read
  pub changed : (index : ℕ) (group now : PooledState) → IsHeadOf old.groups head index group → now.head.id ≡ read.head.id
      → record { groups = in_order (set groups at now); room = room } ≡ record old { groups = set old.groups index now }

pub IsRead-found : (groups : List PooledState) (place_of : ℕ → Option ℕ) → AreFound groups place_of → (head : SpanId) (at : ℕ) → place_of (rank head) ≡ Some at
    → (read : PooledState) → read ≡ get_or groups at read → (room : ℕ) (old : GroupsState) → record { groups = in_order groups; room = room } ≡ old → IsRead groups head at read room old
IsRead-found groups place_of found head at at_is read read_is room old view_is = record {
  there = here;
  one = one_group;
  changed = λ index group now is same.
      ap (λ gs. record { groups = gs; room = room })
      (in_order-set groups place_of found at read now here same head index (subst (IsHeadOf (in_order groups) head index) (one_group index group is) (inside index group is)))
      ∙ ap (λ (s : GroupsState). record { groups = set s.groups index now; room = s.room }) view_is;
}
  where
    inside : (index : ℕ) (group : PooledState) → IsHeadOf old.groups head index group → IsHeadOf (in_order groups) head index group
    inside index group is = subst (λ (s : GroupsState). IsHeadOf s.groups head index group) (sym view_is) is

    here : slice_get groups at ≡ Some read
    here = slice_get_read groups _ at read refl (found_within groups place_of found (rank head) at at_is) read_is

    one_group : (index : ℕ) (group : PooledState) → IsHeadOf old.groups head index group → group ≡ read
    one_group index group is = same_some (sym (there-IsHeadOf groups place_of found head index group (inside index group is) at at_is) ∙ here)
