-- How many spans groups have: no more than there are ids, where none stands twice.
use Rattle.std.proofs.Common.{zero, suc, ◌≡◌, ℕ, ◌<◌, ◌≤◌, ◌+◌, true, false, List, [], ◌∷◌, length, map, get_or, take, slice_get, Some, ap, ◌∙◌, refl, arith, eqb, eqb-true, rules, sym}
use Rattle.std.specs.Prelude.{count_by}
use Rattle.std.specs.List.{flat_map, list_any}
use Rattle.std.proofs.lemmas.Bool.{false_from_ne_true}
use Rattle.std.proofs.lemmas.List.{length-append, length-map}
use Rattle.std.proofs.lemmas.Map.Keys.{IsDistinct-from_apart}
use Rattle.std.proofs.lemmas.Map.Steps.{length-le_from_distinct_below}
use Rattle.span.specs.Ids.{rank, same_span}
use Rattle.span.specs.State.{SpanState}
use Rattle.span.specs.declared.id.SpanId.{SpanId}
use Rattle.span.specs.declared.limits.TheConstants.{ALL_IDS}
use Rattle.span.proofs.Ids.{test_from_same_id}
use Rattle.groups.proofs.Lists.{count-two}
use Rattle.groups.proofs.Ranks.{id_from_rank}

abbrev span_rank : SpanState → ℕ
span_rank span = rank span.id

-- the span whose rank stands at the place
ranked_at : (spans : List SpanState) (at d : ℕ) → at < length spans → (span : SpanState) × (slice_get spans at ≡ Some span) × (get_or (map span_rank spans) at d ≡ rank span.id)
ranked_at [] at d low = absurd (omega arith)
ranked_at (span ∷ spans) zero d low = (span, refl, refl)
ranked_at (span ∷ spans) (suc at) d low = ranked_at spans at d (omega arith)

ranks_below : (spans : List SpanState) (number : ℕ) → list_any (eqb number) (map span_rank spans) ≡ true → number < ALL_IDS
ranks_below [] number among = absurd cc
ranks_below (span ∷ spans) number among = search (rules, eqb-true, (ranks_below spans number))

-- spans of which none stands twice are at most as many as there are ids
pub at_most_ids : (spans : List SpanState) → ((id : SpanId) → count_by (λ span. same_span span.id id) spans ≤ 1) → length spans ≤ ALL_IDS
at_most_ids spans once =
    let fewer = length-le_from_distinct_below (map span_rank spans) ALL_IDS (IsDistinct-from_apart eqb (map span_rank spans) apart) (ranks_below spans) in
    omega (arith, length-map spans span_rank)
  where
    apart : (low high d : ℕ) → low < high → high < length (map span_rank spans) → eqb (get_or (map span_rank spans) low d) (get_or (map span_rank spans) high d) ≡ false
    apart low high d less within = false_from_ne_true _ (λ one.
        let long = length-map spans span_rank in
        let (a, at_low, low_is) = ranked_at spans low d (omega arith) in
        let (b, at_high, high_is) = ranked_at spans high d (omega arith) in
        let same : a.id ≡ b.id = id_from_rank a.id b.id (sym low_is ∙ eqb-true _ _ one ∙ high_is) in
        let two = count-two (λ (s : SpanState). same_span s.id b.id) spans low high a b less at_low at_high (test_from_same_id a.id b.id same) (test_from_same_id b.id b.id refl) in
        let most = once b.id in
        omega arith)

-- the spans of the first groups are no more than those of all
pub length-take_spans : {G : Type 0} (spans_of : G → List SpanState) (groups : List G) (count : ℕ) → length (flat_map spans_of (take count groups)) ≤ length (flat_map spans_of groups)
length-take_spans spans_of [] zero = omega arith
length-take_spans spans_of [] (suc count) = omega arith
length-take_spans spans_of (group ∷ groups) zero = omega arith
length-take_spans spans_of (group ∷ groups) (suc count) = search (rules, length-append, (length-take_spans spans_of groups count))

-- the spans of the first groups and one more
pub length-spans_more : {G : Type 0} (spans_of : G → List SpanState) (groups : List G) (at : ℕ) (group : G) → at < length groups → group ≡ get_or groups at group
    → length (flat_map spans_of (take (at + 1) groups)) ≡ length (flat_map spans_of (take at groups)) + length (spans_of group)
length-spans_more spans_of [] at group low is = absurd (omega arith)
length-spans_more spans_of (first ∷ groups) zero group low is = search (rules, length-append)
length-spans_more spans_of (first ∷ groups) (suc at) group low is =
    let rest = length-spans_more spans_of groups at group (omega arith) is in
    let next : suc at + 1 ≡ suc (at + 1) = omega arith in
    ap (λ n. length (flat_map spans_of (take n (first ∷ groups)))) next ∙ length-append (spans_of first) (flat_map spans_of (take (at + 1) groups))
    ∙ omega (arith, length-append (spans_of first) (flat_map spans_of (take at groups)))
