-- The spans of groups, and where each stands, whatever else a group has.
use Rattle.std.proofs.Common.{zero, suc, ◌≡◌, ℕ, ◌+◌, ◌≤◌, Bool, true, false, List, [], ◌∷◌, ◌++◌, append_assoc, None, Some, set, slice_get, ◌∙◌, ap, subst, refl, inl, inr, arith, rules}
use Rattle.std.specs.Prelude.{count_by, find, insert, remove}
use Rattle.std.specs.List.{flat_map}
use Rattle.std.proofs.lemmas.Bool.{false_from_ne_true}
use Rattle.std.proofs.lemmas.Grind.{flat_map-append}
use Rattle.std.proofs.lemmas.Option.{none-some}
use Rattle.span.specs.Ids.{same_span}
use Rattle.span.specs.State.{SpanState}
use Rattle.span.specs.declared.id.SpanId.{SpanId}
use Rattle.span.proofs.Ids.{same_id_from_test, test_from_same_id}
use Rattle.groups.specs.Spans.{HasNoSpan}
use Rattle.groups.specs.Shown.{span_named}
use Rattle.groups.proofs.Lists.{count-append, count-none, count-some, find-none, found_at, in_either, part_at, same_some, split_at}
use Rattle.groups.proofs.Logged.{named-here, others}
use Rattle.groups.proofs.Removed.{none_or_some}

-- how often the id stands among the spans
abbrev pub times : SpanId → List SpanState → ℕ
times id spans = count_by (λ (s : SpanState). same_span s.id id) spans

-- `spans_of` gives the spans of a group
module _ {G : Type 0} (spans_of : G → List SpanState) where
  abbrev pub all_in : List G → List SpanState
  all_in groups = flat_map spans_of groups

  abbrev pub StandsAt : List G → ℕ → ℕ → G → SpanState → Type 0
  StandsAt groups index place group span = (slice_get groups index ≡ Some group) × (slice_get (spans_of group) place ≡ Some span)

  abbrev pub StandsSomewhere : List G → SpanState → Type 0
  StandsSomewhere groups span = (index place : ℕ) × (group : G) × StandsAt groups index place group span

  abbrev pub IsInNone : List G → SpanId → Type 0
  IsInNone groups id = (index : ℕ) (group : G) → slice_get groups index ≡ Some group → HasNoSpan (spans_of group) id

  -- a span of the list stands in a group
  pub stands_in : (groups : List G) (at : ℕ) (span : SpanState) → slice_get (all_in groups) at ≡ Some span → StandsSomewhere groups span
  stands_in [] at span there = absurd cc
  stands_in (group ∷ groups) at span there = elim (in_either (spans_of group) (all_in groups) at span there) [
    | inl here ↦ (0, at, group, (refl, here))
    | inr later ↦ let rest = stands_in groups later.0 span later.1 in (suc rest.0, rest.1, rest.2, (rest.3.0, rest.3.1))
  ]

  -- a span that is found by its id stands in a group
  pub named_stands : (groups : List G) (id : SpanId) (span : SpanState) → find (λ (s : SpanState). same_span s.id id) (all_in groups) ≡ Some span
      → StandsSomewhere groups span × (same_span span.id id ≡ true)
  named_stands groups id span found = search (rules, found_at, stands_in)

  -- the spans before and after those of a group that came
  pub record IsPutIn (groups : List G) (index : ℕ) (group : G) : Type 0 where
    pub left : List SpanState
    pub right : List SpanState
    pub whole : all_in groups ≡ left ++ right
    pub after : all_in (insert groups index group) ≡ left ++ (spans_of group ++ right)

  pub put_in : (groups : List G) (index : ℕ) (group : G) → IsPutIn groups index group
  put_in groups index group =
      let part = part_at groups index in
      record {
        left = all_in part.left;
        right = all_in part.right;
        whole = ap all_in part.whole ∙ flat_map-append spans_of part.left part.right;
        after = ap all_in (part.after_insert group) ∙ flat_map-append spans_of part.left (group ∷ part.right);
      }

  -- the spans before and after those of a group that went
  pub record IsTakenOut (groups : List G) (index : ℕ) (group : G) : Type 0 where
    pub left : List SpanState
    pub right : List SpanState
    pub whole : all_in groups ≡ left ++ (spans_of group ++ right)
    pub after : all_in (remove groups index) ≡ left ++ right

  pub taken_out : (groups : List G) (index : ℕ) (group : G) → slice_get groups index ≡ Some group → IsTakenOut groups index group
  taken_out groups index group here =
      let outer = split_at groups index group here in
      record {
        left = all_in outer.left;
        right = all_in outer.right;
        whole = ap all_in outer.whole ∙ flat_map-append spans_of outer.left (group ∷ outer.right);
        after = ap all_in outer.after_remove ∙ flat_map-append spans_of outer.left outer.right;
      }

  -- the spans before and after one, whatever stands in its place
  pub record IsRound (groups : List G) (index place : ℕ) (group : G) (span : SpanState) : Type 0 where
    pub left : List SpanState
    pub right : List SpanState
    pub whole : all_in groups ≡ left ++ span ∷ right
    pub after : (now : G) (changed : SpanState) → spans_of now ≡ set (spans_of group) place changed → all_in (set groups index now) ≡ left ++ changed ∷ right

  pub spans_round : (groups : List G) (index place : ℕ) (group : G) (span : SpanState) → StandsAt groups index place group span → IsRound groups index place group span
  spans_round groups index place group span stands =
      let outer = split_at groups index group stands.0 in
      let inner = split_at (spans_of group) place span stands.1 in
      record {
        left = all_in outer.left ++ inner.left;
        right = inner.right ++ all_in outer.right;
        whole = ap all_in outer.whole ∙ flat_map-append spans_of outer.left (group ∷ outer.right)
            ∙ ap (λ spans. all_in outer.left ++ (spans ++ all_in outer.right)) inner.whole
            ∙ regroup (all_in outer.left) inner.left span inner.right (all_in outer.right);
        after = λ now changed is.
            ap all_in (outer.after_set now) ∙ flat_map-append spans_of outer.left (now ∷ outer.right)
            ∙ ap (λ spans. all_in outer.left ++ (spans ++ all_in outer.right)) (is ∙ inner.after_set changed)
            ∙ regroup (all_in outer.left) inner.left changed inner.right (all_in outer.right);
      }
    where
      regroup : (a b : List SpanState) (x : SpanState) (c d : List SpanState) → a ++ ((b ++ x ∷ c) ++ d) ≡ (a ++ b) ++ x ∷ (c ++ d)
      regroup a b x c d = simp append_assoc refl

  -- how many spans pass a test

  module _ (p : SpanState → Bool) where
    -- where no span passes that stands in a group, none does among the spans
    pub count-spans_in : (groups : List G) → ((index place : ℕ) (group : G) (span : SpanState) → StandsAt groups index place group span → p span ≡ false) → count_by p (all_in groups) ≡ 0
    count-spans_in [] none = refl
    count-spans_in (group ∷ groups) none =
        omega (
          arith,
          count-append p (spans_of group) (all_in groups),
          count-none p (spans_of group) (λ place span here. none 0 place group span (refl, here)),
          count-spans_in groups (λ index place other span stands. none (suc index) place other span stands),
        )

    -- and where one that stands in a group passes, one does
    pub count-stands : (groups : List G) (index place : ℕ) (group : G) (span : SpanState) → StandsAt groups index place group span → p span ≡ true → 1 ≤ count_by p (all_in groups)
    count-stands [] index place group span stands passes = absurd (none-some group stands.0)
    count-stands (first ∷ groups) zero place group span stands passes = search (rules, same_some, count-append, count-some)
    count-stands (first ∷ groups) (suc index) place group span stands passes =
        omega (arith, count-append p (spans_of first) (all_in groups), count-stands groups index place group span (stands.0, stands.1) passes)

    pub count-spans_remove : (groups : List G) (index : ℕ) (group : G) → slice_get groups index ≡ Some group
        → count_by p (all_in groups) ≡ count_by p (spans_of group) + count_by p (all_in (remove groups index))
    count-spans_remove groups index group here =
        let out = taken_out groups index group here in
        omega (arith, count-append, ap (count_by p) out.whole, ap (count_by p) out.after)

    pub count-spans_insert : (groups : List G) (index : ℕ) (group : G) → count_by p (all_in (insert groups index group)) ≡ count_by p (spans_of group) + count_by p (all_in groups)
    count-spans_insert groups index group =
        let round = put_in groups index group in
        omega (arith, count-append, ap (count_by p) round.whole, ap (count_by p) round.after)

  -- how often an id stands

  pub times-elsewhere : (groups : List G) (id : SpanId) → IsInNone groups id → times id (all_in groups) ≡ 0
  times-elsewhere groups id elsewhere = count-spans_in (λ (s : SpanState). same_span s.id id) groups
      (λ index place group span stands. false_from_ne_true (same_span span.id id) (λ same. elsewhere index group stands.0 place (span, stands.1, same_id_from_test span.id id same)))

  pub elsewhere-times : (groups : List G) (id : SpanId) → times id (all_in groups) ≡ 0 → IsInNone groups id
  elsewhere-times groups id none index group here place found = search (rules, count-stands, test_from_same_id)

  -- spans that stand at most once, and elsewhere, stand at most once together
  pub times-together : (groups : List G) (spans : List SpanState)
      → ((id : SpanId) → times id (all_in groups) ≤ 1) → ((id : SpanId) → times id spans ≤ 1)
      → ((place : ℕ) (span : SpanState) → slice_get spans place ≡ Some span → IsInNone groups span.id)
      → (id : SpanId) → times id spans + times id (all_in groups) ≤ 1
  times-together groups spans once once_here elsewhere id = elim (none_or_some (λ (s : SpanState). same_span s.id id) spans) [
    | inl none ↦ let most = once id in omega arith
    | inr (at, span, here, same) ↦
        let most = once_here id in
        let none = times-elsewhere groups id (subst (IsInNone groups) (same_id_from_test span.id id same) (elsewhere at span here)) in
        omega arith
  ]

  -- a span that stands in a group is found by its id
  pub span_named-stands : (groups : List G) → ((id : SpanId) → times id (all_in groups) ≤ 1) → (index place : ℕ) (group : G) (span : SpanState) → StandsAt groups index place group span
      → (id : SpanId) → span.id ≡ id → span_named (all_in groups) id ≡ Some span
  span_named-stands groups once index place group span stands id same =
      let round = spans_round groups index place group span stands in
      ap (λ spans. span_named spans id) round.whole
      ∙ named-here round.left round.right span.id
      (others round.left round.right span (let most = once span.id in let whole = ap (times span.id) round.whole in omega arith))
      span refl id (test_from_same_id span.id id same)

  pub span_named-none : (groups : List G) (id : SpanId) → IsInNone groups id → span_named (all_in groups) id ≡ None
  span_named-none groups id elsewhere = find-none (λ (s : SpanState). same_span s.id id) (all_in groups) (times-elsewhere groups id elsewhere)
