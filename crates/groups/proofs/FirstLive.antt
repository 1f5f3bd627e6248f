-- The first live key among spans, and of the map that groups show.
use Rattle.std.proofs.Common.{suc, ◌≡◌, ◌⊎◌, ℕ, ◌<◌, ◌≤◌, ◌+◌, Bool, true, false, List, [], ◌∷◌, ◌++◌, Option, None, Some, take, is_some, slice_get, ◌∙◌, ap, sym, subst, refl, inl, inr, arith, rules}
use Rattle.std.specs.Prelude.{IfSome, MatchOption}
use Rattle.std.specs.List.{All, flat_map}
use Rattle.std.specs.List.Sorted.{IsPermutation}
use Rattle.std.proofs.lemmas.Bool.{cases_eq, cases_lt}
use Rattle.std.proofs.lemmas.Grind.{flat_map-append}
use Rattle.std.proofs.lemmas.List.{append-nil, take_more}
use Rattle.std.proofs.lemmas.List.Elements.{All-append, All-contains, All-nil, All-push, All-weaker, Contains-append_left, Contains-append_right, Contains-push}
use Rattle.std.proofs.lemmas.List.Sorted.{All-permutation, Contains-permutation}
use Rattle.std.proofs.lemmas.Option.{get_or_from_slice_get, slice_get-get_or, slice_get_within}
use Rattle.span.specs.declared.id.SpanId.{SpanId}
use Rattle.span.specs.declared.key.Key.{Key}
use Rattle.span.specs.declared.limits.TheConstants.{ALL_IDS}
use Rattle.span.specs.FirstLive.{HasNoneBetween, IsFirstLive}
use Rattle.span.specs.Ids.{rank, same_span}
use Rattle.span.specs.Log.{value_in}
use Rattle.span.specs.Order.{HasNoneFrom, IsAfter, IsFirstFrom}
use Rattle.span.specs.PlainMap.{PlainMap}
use Rattle.span.specs.State.{SpanState}
use Rattle.span.proofs.Ids.{same_id_from_test}
use Rattle.span.proofs.Next.{first-held}
use Rattle.groups.specs.FirstLive.{HasNoneIn, IsFirstAmong, IsLowestOfOne, IsSooner, rank_or_end}
use Rattle.groups.specs.Group.{Group, IsHere, spans_in}
use Rattle.groups.specs.Shown.{shown_by, span_named, value_by}
use Rattle.groups.proofs.GroupSpans.{stands_in}
use Rattle.groups.proofs.Lists.{found_at}
use Rattle.groups.proofs.Ranks.{id_from_rank}

abbrev has_value : PlainMap → Key → Bool
has_value map key = is_some (map.value_of key)

-- a value that is there is not missing
pub has-none : (map : PlainMap) (key : Key) → has_value map key ≡ true → map.value_of key ≡ None → ⊥
has-none map key some none = let e : true ≡ false = sym some ∙ ap is_some none in cc

-- ranges of a map

module _ (map : PlainMap) where
  pub HasNoneBetween-span : (low : ℕ) (id : SpanId) → HasNoneBetween map low (rank id) → HasNoneFrom map id 0 → HasNoneBetween map low (rank id + 1)
  HasNoneBetween-span low id before none key above below = search (rules, cases_lt, id_from_rank)

  pub IsFirstLive-more : (low mid : ℕ) (key : Key) → low ≤ mid → HasNoneBetween map low mid → IsFirstLive map mid key → IsFirstLive map low key
  IsFirstLive-more low mid key less none first = search (rules, cases_lt, has-none)

  pub IsFirstLive-span : (low : ℕ) (id : SpanId) (key : Key) → low ≤ rank id → HasNoneBetween map low (rank id) → IsFirstFrom map id 0 key → IsFirstLive map low key
  IsFirstLive-span low id key less none its = IsFirstLive-more low (rank id) key less none (record {
    live = its.live;
    not_below = omega (arith, ap rank its.span_is);
    first = λ other above some. elim (cases_eq (rank other.span) (rank id)) [
      | inl same ↦ of_span other (id_from_rank other.span id same) some
      | inr differ ↦ inr (inl (omega (arith, differ, above, ap rank its.span_is)))
    ];
  })
    where
      of_span : (other : Key) → other.span ≡ id → has_value map other ≡ true → (other ≡ key) ⊎ IsAfter key other
      of_span other same some = search rules

-- a list of spans that grows

abbrev fewer : (low high less : ℕ) → less ≤ high → (spans : List SpanState) → All (HasNoneIn low high) spans → All (HasNoneIn low less) spans
fewer low high less most spans none = All-weaker (HasNoneIn low high) (HasNoneIn low less) (λ span here above below. here above (omega (arith, below, most))) spans none

pub IsFirstAmong-nil : (low : ℕ) → IsFirstAmong [] low None
IsFirstAmong-nil low = record { none_before = All-nil (HasNoneIn low ALL_IDS); its = tt }

IsLowestOfOne-left : (xs ys : List SpanState) (key : Key) → IsLowestOfOne xs key → IsLowestOfOne (xs ++ ys) key
IsLowestOfOne-left xs ys key one = record { span = one.span; inside = Contains-append_left xs ys one.span one.inside; named = one.named; lowest = one.lowest }

IsLowestOfOne-right : (xs ys : List SpanState) (key : Key) → IsLowestOfOne ys key → IsLowestOfOne (xs ++ ys) key
IsLowestOfOne-right xs ys key one = record { span = one.span; inside = Contains-append_right xs ys one.span one.inside; named = one.named; lowest = one.lowest }

its-left : (xs ys : List SpanState) (low : ℕ) (o : Option Key) → IfSome o (λ key. (low ≤ rank key.span) × IsLowestOfOne xs key) → IfSome o (λ key. (low ≤ rank key.span) × IsLowestOfOne (xs ++ ys) key)
its-left xs ys low o its = search (rules, IsLowestOfOne-left)

its-right : (xs ys : List SpanState) (low : ℕ) (o : Option Key) → IfSome o (λ key. (low ≤ rank key.span) × IsLowestOfOne ys key) → IfSome o (λ key. (low ≤ rank key.span) × IsLowestOfOne (xs ++ ys) key)
its-right xs ys low o its = search (rules, IsLowestOfOne-right)

-- the first of two lists is the earlier one of both firsts
pub IsFirstAmong-append : (xs ys : List SpanState) (low : ℕ) (a b o : Option Key) → IsFirstAmong xs low a → IsFirstAmong ys low b
    → ((o ≡ a) × (rank_or_end a ≤ rank_or_end b)) ⊎ ((o ≡ b) × (rank_or_end b < rank_or_end a)) → IsFirstAmong (xs ++ ys) low o
IsFirstAmong-append xs ys low a b o first second (inl (is, most)) = subst (IsFirstAmong (xs ++ ys) low) (sym is) (record {
  none_before = All-append (HasNoneIn low (rank_or_end a)) xs ys first.none_before (fewer low (rank_or_end b) (rank_or_end a) most ys second.none_before);
  its = its-left xs ys low a first.its;
})
IsFirstAmong-append xs ys low a b o first second (inr (is, less)) = subst (IsFirstAmong (xs ++ ys) low) (sym is) (record {
  none_before = All-append (HasNoneIn low (rank_or_end b)) xs ys (fewer low (rank_or_end a) (rank_or_end b) (omega (arith, less)) xs first.none_before) second.none_before;
  its = its-right xs ys low b second.its;
})

module _ (spans : List SpanState) (low : ℕ) (o : Option Key) (span : SpanState) (first : IsFirstAmong spans low o) where
  -- one more span of another rank, or with no live slot
  pub IsFirstAmong-passed : HasNoneIn low (rank_or_end o) span → IsFirstAmong (spans ++ span ∷ []) low o
  IsFirstAmong-passed none = record {
    none_before = All-push (HasNoneIn low (rank_or_end o)) spans span first.none_before none;
    its = its-left spans (span ∷ []) low o first.its;
  }

  -- one more span, which comes before
  pub IsFirstAmong-found : (key : Key) → IsSooner low (rank_or_end o) span key → IsFirstAmong (spans ++ span ∷ []) low (Some key)
  IsFirstAmong-found key its =
      let same : rank key.span ≡ rank span.id = ap rank its.named in
      record {
        none_before = All-push (HasNoneIn low (rank key.span)) spans span
            (fewer low (rank_or_end o) (rank key.span) (omega (arith, its.before, same)) spans first.none_before)
            (λ here below. absurd (omega (arith, below, same)));
        its = (omega (arith, its.above, same), record { span = span; inside = Contains-push spans span; named = sym its.named; lowest = its.lowest });
      }

-- the order of the spans does not matter
pub IsFirstAmong-permutation : (xs ys : List SpanState) (low : ℕ) (o : Option Key) → IsPermutation xs ys → IsFirstAmong xs low o → IsFirstAmong ys low o
IsFirstAmong-permutation xs ys low o moved first = record {
  none_before = All-permutation (HasNoneIn low (rank_or_end o)) xs ys moved first.none_before;
  its = by_option o first.its;
}
  where
    by_option : (o : Option Key) → IfSome o (λ key. (low ≤ rank key.span) × IsLowestOfOne xs key) → IfSome o (λ key. (low ≤ rank key.span) × IsLowestOfOne ys key)
    by_option None its = tt
    by_option (Some key) (above, one) = (above, record { span = one.span; inside = Contains-permutation xs ys one.span moved one.inside; named = one.named; lowest = one.lowest })

-- the first of the spans of groups is the first of what they show

module _ {Closed : Type 0} where
  module _ (groups : List (Group Closed))
      (here : (key : Key) (index place : ℕ) (group : Group Closed) (span : SpanState) → IsHere groups key.span index place group span
      → (shown_by groups).value_of key ≡ value_in span.log key.slot key.generation) where
    -- what a span of these answers is what the map has
    of_span : (id : SpanId) (at : ℕ) (span : SpanState) → slice_get (spans_in groups) at ≡ Some span → span.id ≡ id → (key : Key) → key.span ≡ id
        → is_some ((shown_by groups).value_of key) ≡ is_some (value_in span.log key.slot key.generation)
    of_span id at span there named key same = search (rules, stands_in)

    none-shown : (low high : ℕ) → All (HasNoneIn low high) (spans_in groups) → HasNoneBetween (shown_by groups) low high
    none-shown low high none key above below = by_span (span_named (spans_in groups) key.span) refl
      where
        by_span : (o : Option SpanState) → span_named (spans_in groups) key.span ≡ o → value_by groups key o ≡ None
        by_span None is = refl
        by_span (Some span) is =
            let found = found_at (λ (s : SpanState). same_span s.id key.span) (spans_in groups) span is in
            let at = found.0.0 in
            let named : span.id ≡ key.span = same_id_from_test span.id key.span found.1 in
            let its : HasNoneIn low high span = All-contains (HasNoneIn low high) (spans_in groups) span none (at, slice_get_within (spans_in groups) at span found.0.1, get_or_from_slice_get (spans_in groups) at span span found.0.1) in
            let same = ap rank named in
            let holds_none = its (omega (arith, above, same)) (omega (arith, below, same)) in
            ap (value_by groups key) (sym is) ∙ first-held (shown_by groups) key.span span.log 0 (of_span key.span at span found.0.1 named) None holds_none tt key refl (omega arith)

    pub first-shown : (low : ℕ) (o : Option Key) → IsFirstAmong (spans_in groups) low o → MatchOption o (HasNoneBetween (shown_by groups) low ALL_IDS) (IsFirstLive (shown_by groups) low)
    first-shown low None first = none-shown low ALL_IDS first.none_before
    first-shown low (Some key) first =
        let one = first.its.1 in
        let at = one.inside.0 in
        let there : slice_get (spans_in groups) at ≡ Some one.span = slice_get-get_or (spans_in groups) at one.span one.inside.1 ∙ ap Some one.inside.2 in
        IsFirstLive-span (shown_by groups) low key.span key first.its.0 (none-shown low (rank key.span) first.none_before)
        (first-held (shown_by groups) key.span one.span.log 0 (of_span key.span at one.span there one.named) (Some key) one.lowest refl)

-- one more of the first
pub take-more : {X : Type 0} (xs : List X) (at : ℕ) (x : X) → slice_get xs at ≡ Some x → take (at + 1) xs ≡ take at xs ++ x ∷ []
take-more xs at x here = take_more xs at x (slice_get_within xs at x here) ∙ ap (λ y. take at xs ++ y ∷ []) (get_or_from_slice_get xs at x x here)

pub take-suc : {X : Type 0} (xs : List X) (at : ℕ) (x : X) → slice_get xs at ≡ Some x → take (suc at) xs ≡ take at xs ++ x ∷ []
take-suc xs at x here = ap (λ n. take n xs) (let same : suc at ≡ at + 1 = omega arith in same) ∙ take-more xs at x here

-- groups that are walked, one after another
module _ {G : Type 0} (spans_of : G → List SpanState) where
  pub IsFirstAmong-more : (groups : List G) (at : ℕ) (group : G) (low : ℕ) (a b o : Option Key) → slice_get groups at ≡ Some group
      → IsFirstAmong (flat_map spans_of (take at groups)) low a → IsFirstAmong (spans_of group) low b
      → ((o ≡ a) × (rank_or_end a ≤ rank_or_end b)) ⊎ ((o ≡ b) × (rank_or_end b < rank_or_end a)) → IsFirstAmong (flat_map spans_of (take (at + 1) groups)) low o
  IsFirstAmong-more groups at group low a b o here first second earlier =
      subst (λ spans. IsFirstAmong spans low o) (sym (spans-more groups at group here)) (IsFirstAmong-append (flat_map spans_of (take at groups)) (spans_of group) low a b o first second earlier)
    where
      spans-more : (groups : List G) (at : ℕ) (group : G) → slice_get groups at ≡ Some group → flat_map spans_of (take (at + 1) groups) ≡ flat_map spans_of (take at groups) ++ spans_of group
      spans-more groups at group here = ap (flat_map spans_of) (take-more groups at group here) ∙ flat_map-append spans_of (take at groups) (group ∷ []) ∙ ap (λ spans. flat_map spans_of (take at groups) ++ spans) (append-nil (spans_of group))
