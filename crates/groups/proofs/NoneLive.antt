-- Spans of which no slot is live.
use Rattle.std.proofs.Common.{zero, suc, ◌≡◌, ◌+◌, ℕ, List, [], ◌∷◌, None, Some, slice_get, ◌∙◌, ap, sym, arith, rules}
use Rattle.std.specs.FinSet.{contains-empty, empty, empty_of_len, len}
use Rattle.std.proofs.lemmas.Bool.{false≢true}
use Rattle.std.proofs.lemmas.List.Elements.{All-from_get_or}
use Rattle.std.proofs.lemmas.List.Sums.{sum_by-cons}
use Rattle.std.proofs.lemmas.Option.{slice_get-get_or}
use Rattle.span.specs.Log.{live_slots}
use Rattle.span.specs.State.{SpanState}
use Rattle.span.proofs.Keeping.{live-if_held}
use Rattle.groups.specs.FirstLive.{IsFirstAmong}
use Rattle.groups.specs.Spans.{live_count}
use Rattle.groups.proofs.FirstLive.{IsFirstAmong-nil}
use Rattle.groups.proofs.Lists.{same_some}

none_at : (spans : List SpanState) → live_count spans ≡ 0 → (place : ℕ) (span : SpanState) → slice_get spans place ≡ Some span → live_slots span.log ≡ empty
none_at [] none place span there = absurd cc
none_at (first ∷ rest) none zero span there =
    let all : len (live_slots first.log) + live_count rest ≡ 0 = sym (sum_by-cons (λ (s : SpanState). len (live_slots s.log)) first rest) ∙ none in
    ap (λ (s : SpanState). live_slots s.log) (sym (same_some there)) ∙ empty_of_len (live_slots first.log) (omega arith)
none_at (first ∷ rest) none (suc place) span there =
    let all : len (live_slots first.log) + live_count rest ≡ 0 = sym (sum_by-cons (λ (s : SpanState). len (live_slots s.log)) first rest) ∙ none in none_at rest (omega arith) place span there

-- they have no first live key
pub IsFirstAmong-none : (spans : List SpanState) (low : ℕ) → live_count spans ≡ 0 → IsFirstAmong spans low None
IsFirstAmong-none spans low none = search (rules, IsFirstAmong-nil, All-from_get_or, none_at, slice_get-get_or, false≢true, contains-empty, live-if_held)
