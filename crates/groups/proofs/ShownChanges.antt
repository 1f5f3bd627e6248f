-- What sound groups show where one of their spans takes a put, a free or a set.
use Rattle.std.proofs.Common.{◌≡◌, ◌≤◌, ◌+◌, ℕ, true, false, List, ◌∷◌, ◌++◌, set, ◌∙◌, ap, sym, subst, arith, refl}
use Rattle.std.specs.FinSet.{contains}
use Rattle.span.specs.Log.{Holds, IsOfClass, Value, live_slots, puts_of, value_in}
use Rattle.span.specs.PlainMap.{PlainMap, has_as_many, may_set, with_put, with_value, without}
use Rattle.span.specs.State.{IsSettable, SpanState}
use Rattle.span.specs.declared.id.SpanId.{SpanId}
use Rattle.span.specs.declared.key.Key.{Key}
use Rattle.groups.specs.Group.{Group, IsHere, spans_in, spans_of}
use Rattle.groups.specs.Shown.{shown_by}
use Rattle.groups.specs.Sound.{AreSoundGroups, IsSoundGroup}
use Rattle.groups.specs.Spans.{with_free, with_put as with_put_at, with_set}
use Rattle.groups.proofs.GroupSpans.{IsRound, spans_round, times}
use Rattle.groups.proofs.GuestDirectory.{HaveSameIds, HaveSameIds-set}
use Rattle.groups.proofs.Logged.{HasNone, is_issued-next, logged, logged-free, logged-put, logged-set, nothing_pending, others}
use Rattle.groups.proofs.ReplacedGroups.{AreSoundGroups-replaced, times-replaced}
use Rattle.groups.proofs.SetGroups.{has_as_many-not, has_as_many-settable}
use Rattle.groups.proofs.ShownGroups.{shown_by-logged, value_of-here}

module _ {Closed : Type 0} (groups : List (Group Closed)) (sound : AreSoundGroups groups) (once : (id : SpanId) → times id (spans_in groups) ≤ 1)
    (key : Key) (index place : ℕ) (group : Group Closed) (span : SpanState) (here : IsHere groups key.span index place group span) where
  round : IsRound spans_of groups index place group span
  round = spans_round spans_of groups index place group span (here.group_is, here.span_is)

  none : HasNone span.id (round.left ++ round.right)
  none = others round.left round.right span (omega (arith, once span.id, ap (times span.id) round.whole))

  shown_around : shown_by groups ≡ logged (round.left ++ span ∷ round.right) nothing_pending
  shown_around = shown_by-logged groups sound once ∙ ap (λ spans. logged spans nothing_pending) round.whole

  -- with another span of its id in its place
  shown_after : (changed : SpanState) → changed.id ≡ span.id → (now : Group Closed) → IsSoundGroup now → spans_of now ≡ set (spans_of group) place changed
      → shown_by (set groups index now) ≡ logged (round.left ++ changed ∷ round.right) nothing_pending
  shown_after changed same now now_sound spans =
      let ids = subst (HaveSameIds (spans_of group)) (sym spans) (HaveSameIds-set (spans_of group) place span changed here.span_is same) in
      shown_by-logged (set groups index now) (AreSoundGroups-replaced groups index now sound now_sound) (λ id. rw (times-replaced groups index group now here.group_is ids id) (once id))
      ∙ ap (λ spans. logged spans nothing_pending) (round.after now changed spans)

  module _ (now : Group Closed) (now_sound : IsSoundGroup now) where
    pub shown_by-free : spans_of now ≡ set (spans_of group) place (with_free span key) → Holds span.log key.slot key.generation → shown_by (set groups index now) ≡ without (shown_by groups) key
    shown_by-free spans holds =
        shown_after (with_free span key) refl now now_sound spans
        ∙ logged-free round.left round.right span nothing_pending key none (sym here.id_is) holds
        ∙ ap (λ m. without m key) (sym shown_around)

    pub shown_by-set : (value : Value) → spans_of now ≡ set (spans_of group) place (with_set span key value) → Holds span.log key.slot key.generation
        → shown_by (set groups index now) ≡ with_value (shown_by groups) key value
    shown_by-set value spans holds =
        shown_after (with_set span key value) refl now now_sound spans
        ∙ logged-set round.left round.right span nothing_pending key none (sym here.id_is) value holds
        ∙ ap (λ m. with_value m key value) (sym shown_around)

    pub shown_by-put : (value : Value) → spans_of now ≡ set (spans_of group) place (with_put_at span key.slot value)
        → key.generation ≡ puts_of key.slot span.log + 1 → contains (live_slots span.log) key.slot ≡ false
        → shown_by (set groups index now) ≡ with_put (shown_by groups) key value
    shown_by-put value spans next unused =
        shown_after (with_put_at span key.slot value) refl now now_sound spans
        ∙ logged-put round.left round.right span nothing_pending key none (sym here.id_is) value next unused
        ∙ ap (λ m. with_put m key value) (sym shown_around)

  -- the next key of a slot was never given out
  pub is_issued-here : key.generation ≡ puts_of key.slot span.log + 1 → (shown_by groups).is_issued key ≡ false
  is_issued-here next =
      ap (λ (m : PlainMap). m.is_issued key) shown_around
      ∙ is_issued-next round.left round.right span nothing_pending key none (sym here.id_is) next span.gens ((sound index group here.group_is).legal place span here.span_is)

  -- whether the plain map may be set is whether the key's span may
  module _ (value : Value) where
    may_set-here : may_set (shown_by groups) key value ≡ has_as_many value (value_in span.log key.slot key.generation)
    may_set-here = ap (has_as_many value) (value_of-here groups sound once key index place group span here)

    of_class : IsOfClass span.class span.log
    of_class = let its = (sound index group here.group_is).classes place span here.span_is in subst (λ c. IsOfClass c span.log) (sym its.class_is) its.of_class

    pub may_set-settable : IsSettable span key.slot key.generation value → may_set (shown_by groups) key value ≡ true
    may_set-settable settable = may_set-here ∙ has_as_many-settable span key.slot key.generation value of_class settable

    pub may_set-not : (IsSettable span key.slot key.generation value → ⊥) → may_set (shown_by groups) key value ≡ false
    may_set-not not = may_set-here ∙ has_as_many-not span key.slot key.generation value of_class not
