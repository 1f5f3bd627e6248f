-- The values that logs leave, where spans go in which no slot is live.
use Rattle.std.proofs.Common.{◌≡◌, ℕ, ◌≤◌, Bool, true, false, cond, List, [], ◌∷◌, ◌++◌, Option, None, Some, map, refl, sym, ap, ◌∙◌, arith, rules}
use Rattle.std.specs.FinSet.{contains, contains-empty, empty}
use Rattle.std.specs.FinMap as fin
use Rattle.std.specs.Ordering.{nat_cmp}
use Rattle.std.specs.Prelude.{is_some}
use Rattle.span.proofs.Slots.{contains-live_slots}
use Rattle.span.specs.Ids.{same_span}
use Rattle.span.specs.Log.{Held, Value, live_slots, replay, value_if, value_in}
use Rattle.span.specs.State.{SpanState}
use Rattle.span.specs.declared.key.Key.{Key}
use Rattle.groups.specs.Dead.{is_live, live_among, without_dead}
use Rattle.groups.specs.Group.{Group, spans_in}
use Rattle.groups.specs.Shown.{shown_by, span_named}
use Rattle.groups.specs.Sound.{AreSoundGroups}
use Rattle.groups.proofs.DeadGuests.{live_slots-dead}
use Rattle.groups.proofs.GroupSpans.{times}
use Rattle.groups.proofs.Lists.{count-append, count-cons, find-none, one_where}
use Rattle.groups.proofs.Logged.{logged_by}
use Rattle.groups.proofs.ShownGroups.{value-logged}

-- a span with no live slot leaves no value
pub value_in-none_live : (span : SpanState) (slot generation : ℕ) → live_slots span.log ≡ empty → value_in span.log slot generation ≡ None
value_in-none_live span slot generation dead = by_held (fin.get (replay span.log) slot) none
  where
    none : is_some (fin.get (replay span.log) slot) ≡ false
    none = sym (contains-live_slots span.log slot) ∙ ap (λ slots. contains slots slot) dead ∙ contains-empty nat_cmp slot

    by_held : (held : Option Held) → is_some held ≡ false → value_if generation held ≡ None
    by_held held e = search rules

pub value_in-dead : (span : SpanState) (slot generation : ℕ) → is_live span ≡ false → value_in span.log slot generation ≡ None
value_in-dead span slot generation dead = value_in-none_live span slot generation (live_slots-dead span dead)

module _ (key : Key) where
  -- the value that the logs of the spans leave under the key
  abbrev left_by : List SpanState → Option Value
  left_by spans = logged_by key (span_named spans key.span)

  abbrev p : SpanState → Bool
  p span = same_span span.id key.span

  -- the fewer spans leave the same value, and the key's span stands no more often among them
  pub record AreThinned (many few : List SpanState) : Type 0 where
    pub value : left_by few ≡ left_by many
    pub times_in : times key.span few ≤ times key.span many

  -- a span that is not live may go
  pub AreThinned-dead : (span : SpanState) (many few : List SpanState) → is_live span ≡ false → times key.span (span ∷ many) ≤ 1 → AreThinned many few → AreThinned (span ∷ many) few
  AreThinned-dead span many few dead once thin = record {
    value = by_test (p span) refl;
    times_in = omega (arith, thin.times_in, count-cons p span many);
  }
    where
      by_test : (b : Bool) → p span ≡ b → left_by few ≡ logged_by key (cond b (Some span) (span_named many key.span))
      by_test true named =
          ap (logged_by key) (find-none p few (omega (arith, thin.times_in, once, count-cons p span many, one_where (p span) named)))
          ∙ sym (value_in-dead span key.slot key.generation dead)
      by_test false other = thin.value

  -- and others stay
  pub AreThinned-stays : (span : SpanState) (many few : List SpanState) → AreThinned many few → AreThinned (span ∷ many) (span ∷ few)
  AreThinned-stays span many few thin = record {
    value = by_test (p span);
    times_in = omega (arith, thin.times_in, count-cons p span many, count-cons p span few);
  }
    where
      by_test : (b : Bool) → logged_by key (cond b (Some span) (span_named few key.span)) ≡ logged_by key (cond b (Some span) (span_named many key.span))
      by_test b = search rules

  pub AreThinned-live : (spans many few : List SpanState) → times key.span (spans ++ many) ≤ 1 → AreThinned many few → AreThinned (spans ++ many) (live_among spans ++ few)
  AreThinned-live [] many few once thin = thin
  AreThinned-live (span ∷ rest) many few once thin = by_test (is_live span) refl (AreThinned-live rest many few (omega (arith, once, count-cons p span (rest ++ many))) thin)
    where
      by_test : (b : Bool) → is_live span ≡ b → AreThinned (rest ++ many) (live_among rest ++ few) → AreThinned (span ∷ (rest ++ many)) (cond b (span ∷ live_among rest) (live_among rest) ++ few)
      by_test true live later = AreThinned-stays span (rest ++ many) (live_among rest ++ few) later
      by_test false dead later = AreThinned-dead span (rest ++ many) (live_among rest ++ few) dead once later

  module _ {Closed : Type 0} where
    thinned : (groups : List (Group Closed)) → times key.span (spans_in groups) ≤ 1 → AreThinned (spans_in groups) (spans_in (map without_dead groups))
    thinned [] once = record { value = refl; times_in = omega arith }
    thinned (group ∷ groups) once =
        let later = thinned groups (omega (arith, once, count-cons p group.head (group.guests ++ spans_in groups), count-append p group.guests (spans_in groups))) in
        AreThinned-stays group.head (group.guests ++ spans_in groups) (live_among group.guests ++ spans_in (map without_dead groups))
        (AreThinned-live group.guests (spans_in groups) (spans_in (map without_dead groups)) (omega (arith, once, count-cons p group.head (group.guests ++ spans_in groups))) later)

module _ {Closed : Type 0} (groups : List (Group Closed)) where
  -- what groups show stays where they lose the guests in which no slot is live
  pub value_of-without_dead : (key : Key) → AreSoundGroups groups → AreSoundGroups (map without_dead groups)
      → ((id : _) → times id (spans_in groups) ≤ 1) → ((id : _) → times id (spans_in (map without_dead groups)) ≤ 1)
      → (shown_by (map without_dead groups)).value_of key ≡ (shown_by groups).value_of key
  value_of-without_dead key sound sound_new once once_new =
      value-logged (map without_dead groups) sound_new once_new key ∙ (thinned key groups (once key.span)).value ∙ sym (value-logged groups sound once key)
