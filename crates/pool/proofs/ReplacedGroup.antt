-- A pool stays sound where one of its groups is replaced by a sound group of the same ids: so it is at a set.
use Rattle.std.proofs.Common.{◌≡◌, ℕ, Some, set, slice_get, ◌∙◌, ap, subst, sym, refl, inl, inr, ◌≢◌, IsSome}
use Rattle.std.specs.FinSet.{empty}
use Rattle.span.specs.Log.{Value}
use Rattle.span.specs.State.{IsSettable, SpanState}
use Rattle.groups.specs.Group.{spans_of}
use Rattle.groups.specs.Pages.{set_group}
use Rattle.groups.specs.Sound.{IsSoundGroup}
use Rattle.groups.specs.Spans.{union_of, with_set_at}
use Rattle.groups.proofs.Lists.{cases-set}
use Rattle.groups.proofs.ReplacedGroups.{AreAlike, AreAlike-with_span, AreSoundGroups-replaced, Ascend-replaced, times-replaced}
use Rattle.groups.proofs.SetGroups.{IsSoundGroup-set, spans_of-set_group}
use Rattle.groups.proofs.StoredObjects.{paged_if_held}
use Rattle.groups.proofs.Unions.{keep_held}
use Rattle.pool.specs.Sound.{IsSound}
use Rattle.pool.specs.State.{PoolState, PooledState}

module _ (old : PoolState) (sound : IsSound old) (index : ℕ) (group : PooledState) (here : slice_get old.groups index ≡ Some group) where
  pub IsSound-replaced : (after : PooledState) → AreAlike group after → IsSoundGroup after → (IsSome after.page → union_of (spans_of after) ≢ empty)
      → IsSound (record old { groups = set old.groups index after })
  IsSound-replaced after ids after_sound after_in_use = record {
    ascending = Ascend-replaced old.groups index group after here ids sound.ascending;
    groups = AreSoundGroups-replaced old.groups index after sound.groups after_sound;
    in_use = λ other g there. elim (cases-set old.groups index after other g there) [
      | inl this ↦ subst (λ (g : PooledState). IsSome g.page → union_of (spans_of g) ≢ empty) this.1 after_in_use
      | inr that ↦ sound.in_use other g that.1
    ];
    once = λ id. rw (times-replaced old.groups index group after here ids id) (sound.once id);
  }

  -- a set in the group
  module _ (place : ℕ) (span : SpanState) (there : slice_get (spans_of group) place ≡ Some span) (slot generation : ℕ) (value : Value) (settable : IsSettable span slot generation value) where
    its : IsSoundGroup group
    its = sound.groups index group here

    pub IsSound-set : IsSound (record old { groups = set old.groups index (set_group group place span slot generation value) })
    IsSound-set = IsSound-replaced (set_group group place span slot generation value)
        (AreAlike-with_span group place span (with_set_at span slot generation value) there refl)
        (IsSoundGroup-set group its place span there slot generation value settable)
        (λ paged none. sound.in_use index group here (paged_if_held group its place span slot generation there settable.0)
        (sym (ap union_of (spans_of-set_group group its place span there slot generation value settable)
        ∙ (keep_held (spans_of group) place span slot generation value there settable.0 its.apart).0) ∙ none))
