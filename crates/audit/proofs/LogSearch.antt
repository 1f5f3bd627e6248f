-- What a search for a span finds among places by rank.
use Rattle.std.proofs.Common.{ℕ, ◌≡◌, true, false, List, ap, sym, ◌∙◌, get_or, Some, slice_get}
use Rattle.std.specs.Prelude.{Err, IfNone, IfSome, Ok, Result}
use Rattle.std.specs.List.Sorted.{IsBinarySearchResult}
use Rattle.std.specs.Ordering.{nat_cmp}
use Rattle.std.specs.Result.{result_ok}
use Rattle.std.proofs.lemmas.Bool.{false_from_ne_true}
use Rattle.std.proofs.lemmas.Option.{get_or_from_slice_get, slice_get_within}
use Rattle.span.proofs.Ids.{same_id_from_test, test_from_same_id}
use Rattle.span.proofs.Searched.{none-numbered, told}
use Rattle.span.specs.declared.id.SpanId.{SpanId}
use Rattle.span.specs.Ids.{rank, same_span}
use Rattle.audit.specs.Tables.{AreByRank}
use Rattle.audit.specs.declared.log.LogPlace.{LogPlace}
use Rattle.audit.proofs.LogTable.{same_rank}

-- what a search by ranks for this one answers
abbrev pub IsSearchedFor : List LogPlace → ℕ → Result ℕ ℕ → Type 0
IsSearchedFor places number result = IsBinarySearchResult (λ (place : LogPlace). nat_cmp (rank place.span) number) places result

pub found-searched : (places : List LogPlace) (span : SpanId) (number : ℕ) → number ≡ rank span → (result : Result ℕ ℕ) → IsSearchedFor places number result
    → IfSome (result_ok result) (λ k. (d : LogPlace) → same_span (get_or places k d).span span ≡ true)
found-searched places span number is (Ok k) found = λ d. test_from_same_id _ _ (same_rank (get_or places k d).span span (told _ _ _ (found d) ∙ is))
found-searched places span number is (Err k) found = tt

pub none-searched : (places : List LogPlace) (span : SpanId) (number : ℕ) → number ≡ rank span → AreByRank places → (result : Result ℕ ℕ) → IsSearchedFor places number result
    → IfNone (result_ok result) ((k : ℕ) (place : LogPlace) → slice_get places k ≡ Some place → same_span place.span span ≡ false)
none-searched places span number is up (Ok k) found = tt
none-searched places span number is up (Err split) found = λ k place at. false_from_ne_true _ (λ same.
    let read : get_or places k place ≡ place = get_or_from_slice_get places k place place at in
    none-numbered (λ (x : LogPlace). rank x.span) places number split up found k place (slice_get_within places k place at)
    (ap (λ (x : LogPlace). rank x.span) read ∙ ap rank (same_id_from_test place.span span same) ∙ sym is))
