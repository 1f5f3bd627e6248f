-- A shard stays sound where one of its groups is replaced by a sound group of the same ids: so it is at a free, a set and a put.
use Rattle.std.proofs.Common.{◌≡◌, ℕ, length-set, length, Some, set, slice_get, ◌∙◌, ap, sym, refl, arith}
use Rattle.std.proofs.lemmas.Option.{none-some}
use Rattle.span.specs.Classes.{width_of}
use Rattle.span.specs.Log.{Holds, Value}
use Rattle.span.specs.State.{IsSettable, SpanState}
use Rattle.span.specs.declared.class.Class.{Class}
use Rattle.span.specs.declared.id.SpanId.{SpanId}
use Rattle.span.specs.declared.key.Key.{Key}
use Rattle.groups.specs.Group.{spans_of, with_span}
use Rattle.groups.specs.Pages.{put_group, set_group}
use Rattle.groups.specs.Sound.{IsSoundGroup}
use Rattle.groups.specs.Spans.{with_free, with_put, with_set_at}
use Rattle.groups.proofs.FreedGroups.{IsSoundGroup-free}
use Rattle.groups.proofs.GuestDirectory.{HaveSameIds-set}
use Rattle.groups.proofs.PutGroups.{IsSoundGroup-put}
use Rattle.groups.proofs.ReplacedGroups.{AreAlike, AreAlike-with_span, AreSoundGroups-replaced, Ascend-replaced, times-replaced, was_alike}
use Rattle.groups.proofs.SetGroups.{IsSoundGroup-set}
use Rattle.groups.proofs.Unions.{outside_left, outside_right}
use Rattle.shard.specs.Calls.{IsLowestRoom}
use Rattle.shard.specs.Group.{GroupState}
use Rattle.shard.specs.Sound.{IsSound}
use Rattle.shard.specs.State.{ShardState}

module _ (old : ShardState) (sound : IsSound old) (index : ℕ) (group : GroupState) (here : slice_get old.groups index ≡ Some group) where
  module _ (after : GroupState) (ids : AreAlike group after) where
    pub IsSound-replaced : IsSoundGroup after → IsSound (record old { groups = set old.groups index after })
    IsSound-replaced after_sound = record {
      ascending = Ascend-replaced old.groups index group after here ids sound.ascending;
      groups = AreSoundGroups-replaced old.groups index after sound.groups after_sound;
      once = λ id. rw (times-replaced old.groups index group after here ids id) (sound.once id);
      limit = rw (length-set old.groups index after) sound.limit;
      serials = λ at_group at g s there own.
          let was = was_alike old.groups index group after here ids at_group g there.0 in
          let span = was.2.back at s there.1 in
          let less = sound.serials at_group at was.0 span.0 (was.1, span.1) (ap (λ (i : SpanId). i.shard) span.2 ∙ own) in
          rw (← span.2) less;
      opened = sound.opened;
      span_limit = sound.span_limit;
      gens = sound.gens;
      none_left = λ ended. absurd (none-some group (ap (λ gs. slice_get gs index) (sym (sound.none_left ended)) ∙ here));
    }

  -- a put into the group
  module _ (class : Class) (slot : ℕ) (value : Value) (width : length value ≡ width_of class) {slot_limit : ℕ} (room : IsLowestRoom slot_limit class old.groups index group slot) where
    pub IsSound-put : IsSound (record old { groups = set old.groups index (put_group group class slot value) })
    IsSound-put = IsSound-replaced (put_group group class slot value) (HaveSameIds-set (spans_of group) 0 group.head (with_put group.head slot value) refl refl)
        (IsSoundGroup-put group (sound.groups index group here) class room.slot_is.class_is slot (omega (arith, room.slot_is.on_page)) value width
        (outside_left _ _ slot room.slot_is.lowest.outside) (outside_right _ _ slot room.slot_is.lowest.outside))

  module _ (place : ℕ) (span : SpanState) (there : slice_get (spans_of group) place ≡ Some span) where
    -- a free in the group
    pub IsSound-free : (key : Key) → Holds span.log key.slot key.generation → IsSound (record old { groups = set old.groups index (with_span group place (with_free span key)) })
    IsSound-free key holds = IsSound-replaced (with_span group place (with_free span key)) (AreAlike-with_span group place span (with_free span key) there refl)
        (IsSoundGroup-free group (sound.groups index group here) place span key there holds)

    -- a set in the group
    pub IsSound-set : (slot generation : ℕ) (value : Value) → IsSettable span slot generation value
        → IsSound (record old { groups = set old.groups index (set_group group place span slot generation value) })
    IsSound-set slot generation value settable = IsSound-replaced (set_group group place span slot generation value)
        (AreAlike-with_span group place span (with_set_at span slot generation value) there refl)
        (IsSoundGroup-set group (sound.groups index group here) place span there slot generation value settable)
