-- A pool stays sound at a free.
use Rattle.std.proofs.Common.{◌≡◌, ℕ, Some, set, slice_get, ◌∙◌, ap, subst, sym, refl}
use Rattle.span.specs.Log.{Holds}
use Rattle.span.specs.State.{SpanState}
use Rattle.span.specs.declared.key.Key.{Key}
use Rattle.groups.specs.Group.{spans_of, with_span}
use Rattle.groups.specs.Spans.{with_free}
use Rattle.groups.proofs.FreedGroups.{IsSoundGroup-free}
use Rattle.groups.proofs.Standing.{spans_of-with_span}
use Rattle.shard.specs.declared.shard.Freed.{Freed}
use Rattle.shard.specs.declared.shard.Freed.TheVariants as freed
use Rattle.pool.specs.Calls.{Frees, Leaves}
use Rattle.pool.specs.Groups.{FreesIn, GroupsState}
use Rattle.pool.specs.Sound.{IsSound}
use Rattle.pool.specs.State.{PoolState, PooledState}
use Rattle.pool.proofs.Released.{AreAlike-GivesUp, IsSoundGroup-GivesUp, in_use-GivesUp, spans-GivesUp}
use Rattle.pool.proofs.ReplacedGroup.{IsSound-replaced}

-- what a free among the groups does to the pool
pub Leaves-FreesIn : (old new : GroupsState) (index place : ℕ) (group : PooledState) (span : SpanState) → FreesIn old index group place span new
    → (pool : PoolState) → old.groups ≡ pool.groups → Leaves pool index (with_span group place span) (record pool { groups = new.groups })
Leaves-FreesIn old new index place group span (now, gives, is) pool same = record {
  now = now;
  gives_up = gives;
  after = ap (λ (s : GroupsState). record pool { groups = s.groups }) is ∙ ap (λ groups. record pool { groups = set groups index now }) same;
}

-- the spans of the groups after a free, whether the group has kept its page or not
pub groups-Leaves : (old new : PoolState) (index place : ℕ) (group : PooledState) (changed : SpanState) → Leaves old index (with_span group place changed) new
    → (after : PooledState) × (new.groups ≡ set old.groups index after) × (spans_of after ≡ set (spans_of group) place changed)
groups-Leaves old new index place group changed leaves = (
  leaves.now,
  ap (λ (p : PoolState). p.groups) leaves.after,
  spans-GivesUp (with_span group place changed) leaves.now leaves.gives_up ∙ spans_of-with_span group place changed,
)

module _ (old : PoolState) (sound : IsSound old) (index place : ℕ) (group : PooledState) (span : SpanState) (key : Key)
    (here : slice_get old.groups index ≡ Some group) (there : slice_get (spans_of group) place ≡ Some span) (holds : Holds span.log key.slot key.generation) where
  pub IsSound-Leaves : (new : PoolState) → Leaves old index (with_span group place (with_free span key)) new → IsSound new
  IsSound-Leaves new leaves =
      let after = with_span group place (with_free span key) in
      subst IsSound (sym leaves.after)
      (IsSound-replaced old sound index group here leaves.now
      (AreAlike-GivesUp group leaves.now place span (with_free span key) there refl leaves.gives_up)
      (IsSoundGroup-GivesUp after leaves.now leaves.gives_up (IsSoundGroup-free group (sound.groups index group here) place span key there holds))
      (in_use-GivesUp after leaves.now leaves.gives_up))

pub IsSound-Frees : (old new : PoolState) (key : Key) (answer : Freed) → IsSound old → Frees old key answer new → IsSound new
IsSound-Frees old new key (freed.Yes at) sound (index, place, group, span, here, holds, at_is, leaves) = IsSound-Leaves old sound index place group span key here.group_is here.span_is holds new leaves
IsSound-Frees old new key (freed.No at) sound (index, place, group, span, here, gone, at_is, new_is) = subst IsSound (sym new_is) sound
IsSound-Frees old new key freed.NotHere sound (elsewhere, new_is) = subst IsSound (sym new_is) sound
