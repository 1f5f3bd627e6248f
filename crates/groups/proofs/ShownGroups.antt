-- Sound groups show the map that their logs leave.
use Rattle.std.proofs.Common.{zero, suc, ◌≡◌, ℕ, ◌≤◌, Bool, true, false, cond, List, [], ◌∷◌, Option, None, Some, is_some, slice_get, ◌∙◌, ap, sym, refl, inl, inr, arith, eqb, rules}
use Rattle.std.specs.Prelude.{find, option_map}
use Rattle.std.specs.FinMap as map
use Rattle.std.proofs.lemmas.Bool.{false≢true}
use Rattle.std.proofs.lemmas.Option.{none-some}
use Rattle.span.specs.Ids.{same_span}
use Rattle.span.specs.Log.{Held, Value, replay, value_if, value_in}
use Rattle.span.specs.PlainMap.{PlainMap}
use Rattle.span.specs.State.{SpanState}
use Rattle.span.specs.declared.id.SpanId.{SpanId}
use Rattle.span.specs.declared.key.Key.{Key}
use Rattle.page.specs.Words.{object_in}
use Rattle.groups.specs.Group.{Group, IsElsewhere, IsHere, spans_in, spans_of}
use Rattle.groups.specs.Pages.{object_at}
use Rattle.groups.specs.Shown.{has_span, page_in, page_of, shown_by, span_named, value_by}
use Rattle.groups.specs.Sound.{AreSoundGroups}
use Rattle.groups.proofs.GroupSpans.{count-stands, named_stands, span_named-none, span_named-stands, times}
use Rattle.groups.proofs.Lists.{count-append, count-some, find-none, same_some}
use Rattle.groups.proofs.Logged.{logged, logged_by, nothing_pending, same_plain_map}
use Rattle.groups.proofs.Removed.{none_or_some}
use Rattle.groups.proofs.StoredObjects.{stored_on}

-- a span that stands among the spans is found there
find-is_some : {X : Type 0} (p : X → Bool) (xs : List X) (at : ℕ) (x : X) → slice_get xs at ≡ Some x → p x ≡ true → is_some (find p xs) ≡ true
find-is_some p [] at x here passes = absurd (none-some x here)
find-is_some p (y ∷ ys) zero x here passes = rw (ap p (same_some here) ∙ passes) refl
find-is_some p (y ∷ ys) (suc at) x here passes = search (rules, (find-is_some p ys at x here passes))

-- the value that a log leaves is the object where the object is that of each live slot
object_or_none : (o : Option Held) (generation : ℕ) (object : Option Value) → ((held : Held) → o ≡ Some held → object ≡ Some held.value)
    → cond (is_some (value_if generation o)) object None ≡ value_if generation o
object_or_none o generation object same = search (rules, eqb)

module _ {Closed : Type 0} where
  -- the page of a span is that of the group where it stands
  pub page_of-stands : (groups : List (Group Closed)) → ((id : SpanId) → times id (spans_in groups) ≤ 1) → (index place : ℕ) (group : Group Closed) (span : SpanState)
      → slice_get groups index ≡ Some group → slice_get (spans_of group) place ≡ Some span → (id : SpanId) → same_span span.id id ≡ true → page_of groups id ≡ group.page
  page_of-stands [] once index place group span at_group at_span id same = absurd (none-some group at_group)
  page_of-stands (first ∷ groups) once zero place group span at_group at_span id same = search (rules, find-is_some, same_some)
  page_of-stands (first ∷ groups) once (suc index) place group span at_group at_span id same =
      by_test (has_span id first) refl
      (page_of-stands groups (λ other. omega (arith, once other, count-append (λ (s : SpanState). same_span s.id other) (spans_of first) (spans_in groups)))
      index place group span at_group at_span id same)
    where
      by_test : (b : Bool) → has_span id first ≡ b → page_of groups id ≡ group.page → page_in (cond b (Some first) (find (has_span id) groups)) ≡ group.page
      by_test true has rest = elim (none_or_some (λ (s : SpanState). same_span s.id id) (spans_of first)) [
        | inl none ↦ absurd (false≢true (sym (ap is_some (find-none (λ (s : SpanState). same_span s.id id) (spans_of first) none)) ∙ has))
        | inr (at, other, there, passes) ↦
            let here = count-some (λ (s : SpanState). same_span s.id id) (spans_of first) at other there passes in
            let later = count-stands spans_of (λ (s : SpanState). same_span s.id id) groups index place group span (at_group, at_span) same in
            absurd (omega (arith, once id, count-append (λ (s : SpanState). same_span s.id id) (spans_of first) (spans_in groups), here, later))
      ]
      by_test false has rest = rest

  module _ (groups : List (Group Closed)) (sound : AreSoundGroups groups) (once : (id : SpanId) → times id (spans_in groups) ≤ 1) where
    -- the object of a live key of a span that stands in a group is its log's value
    stored_at : (index place : ℕ) (group : Group Closed) (span : SpanState) → slice_get groups index ≡ Some group → slice_get (spans_of group) place ≡ Some span
        → (slot : ℕ) (held : Held) → map.get (replay span.log) slot ≡ Some held → option_map (λ words. object_in words span.class slot) group.page ≡ Some held.value
    stored_at index place group span at_group at_span slot held is =
        let on = stored_on group (sound index group at_group) place span at_span slot held is in
        ap (option_map (λ words. object_in words span.class slot)) on.1 ∙ ap Some (sym (ap (λ page. object_at page span.class slot) on.1) ∙ on.2)

    value_by-logged : (key : Key) (o : Option SpanState) → span_named (spans_in groups) key.span ≡ o → value_by groups key o ≡ logged_by key o
    value_by-logged key None e = refl
    value_by-logged key (Some span) e =
        let ((index, place, group, (at_group, at_span)), same) = named_stands spans_of groups key.span span e in
        let page = page_of-stands groups once index place group span at_group at_span key.span same in
        ap (λ page. cond (is_some (value_in span.log key.slot key.generation)) (option_map (λ words. object_in words span.class key.slot) page) None) page
        ∙ object_or_none (map.get (replay span.log) key.slot) key.generation (option_map (λ words. object_in words span.class key.slot) group.page)
        (λ held is. stored_at index place group span at_group at_span key.slot held is)

    -- the objects on the pages are what the logs say
    pub shown_by-logged : shown_by groups ≡ logged (spans_in groups) nothing_pending
    shown_by-logged = same_plain_map _ _ (λ key. refl) (λ key. value_by-logged key _ refl) (λ worker owner. refl)

    -- a span that stands in a group is found by its id
    pub span_named-here : (id : SpanId) (index place : ℕ) (group : Group Closed) (span : SpanState) → IsHere groups id index place group span → span_named (spans_in groups) id ≡ Some span
    span_named-here id index place group span here = span_named-stands spans_of groups once index place group span (here.group_is, here.span_is) id here.id_is

    pub span_named-elsewhere : (id : SpanId) → IsElsewhere groups id → span_named (spans_in groups) id ≡ None
    span_named-elsewhere id elsewhere = span_named-none spans_of groups id elsewhere

    pub value-logged : (key : Key) → (shown_by groups).value_of key ≡ logged_by key (span_named (spans_in groups) key.span)
    value-logged key = ap (λ (m : PlainMap). m.value_of key) shown_by-logged

    -- the value of a key is that of its span's log
    pub value_of-here : (key : Key) (index place : ℕ) (group : Group Closed) (span : SpanState) → IsHere groups key.span index place group span
        → (shown_by groups).value_of key ≡ value_in span.log key.slot key.generation
    value_of-here key index place group span here = value-logged key ∙ ap (logged_by key) (span_named-here key.span index place group span here)

    pub value_of-elsewhere : (key : Key) → IsElsewhere groups key.span → (shown_by groups).value_of key ≡ None
    value_of-elsewhere key elsewhere = value-logged key ∙ ap (logged_by key) (span_named-elsewhere key.span elsewhere)
