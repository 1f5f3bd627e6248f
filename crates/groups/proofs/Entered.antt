-- What is read of a directory's entries after some were made or struck.
use Rattle.std.proofs.Common.{zero, suc, ◌≡◌, ℕ, ◌+◌, ◌<◌, ◌≤◌, ◌⊎◌, Bool, true, false, cond, eqb, eq-eqb, eqb-true, List, [], ◌∷◌, Some, slice_get, ◌∙◌, ap, sym, refl, inl, inr, arith, rules}
use Rattle.std.specs.FinMap as map
use Rattle.std.specs.Prelude.{count_by}
use Rattle.std.proofs.lemmas.Bool.{ne_eqb}
use Rattle.groups.proofs.Maps.{get-insert as get-inserted, get-remove}
use Rattle.span.proofs.Ids.{test_from_same_id}
use Rattle.span.specs.Ids.{rank, same_span}
use Rattle.span.specs.State.{SpanState}
use Rattle.span.specs.declared.id.SpanId.{SpanId}
use Rattle.groups.specs.Directory.{Entries, entered, struck}
use Rattle.groups.specs.declared.directory.Place.{Place}
use Rattle.groups.proofs.Lists.{count-two, same_some}
use Rattle.groups.proofs.Ranks.{id_from_rank}

-- no span has this rank
abbrev pub HasNoRank : List SpanState → ℕ → Type 0
HasNoRank spans number = (place : ℕ) (span : SpanState) → slice_get spans place ≡ Some span → rank span.id ≡ number → ⊥

-- what is read of entries

pub get-entered_out : (spans : List SpanState) (entries : Entries) (head : SpanId) (place number : ℕ) → HasNoRank spans number
    → map.get (entered entries spans head place) number ≡ map.get entries number
get-entered_out [] entries head place number none = refl
get-entered_out (span ∷ spans) entries head place number none =
    get-entered_out spans (map.insert entries (rank span.id) (record { head = head; place = place })) head (suc place) number (λ at other here. none (suc at) other here)
    ∙ get-inserted entries (rank span.id) (record { head = head; place = place }) number ∙ rw (ne_eqb number (rank span.id) (λ e. none 0 span refl (sym e))) refl

-- spans of which no id stands twice have different ranks
abbrev pub HaveOwnRanks : List SpanState → Type 0
HaveOwnRanks spans = (low high : ℕ) (a b : SpanState) → low < high → slice_get spans low ≡ Some a → slice_get spans high ≡ Some b → rank a.id ≡ rank b.id → ⊥

pub HaveOwnRanks-once : (spans : List SpanState) → ((id : SpanId) → count_by (λ (s : SpanState). same_span s.id id) spans ≤ 1) → HaveOwnRanks spans
HaveOwnRanks-once spans once low high a b less at_low at_high same =
    let two = count-two (λ (s : SpanState). same_span s.id a.id) spans low high a b less at_low at_high (test_from_same_id a.id a.id refl)
    (test_from_same_id b.id a.id (sym (id_from_rank a.id b.id same))) in
    let most = once a.id in
    omega arith

pub get-entered_in : (spans : List SpanState) (entries : Entries) (head : SpanId) (place at : ℕ) (span : SpanState) → HaveOwnRanks spans
    → slice_get spans at ≡ Some span → map.get (entered entries spans head place) (rank span.id) ≡ Some (record { head = head; place = place + at })
get-entered_in [] entries head place at span apart here = absurd cc
get-entered_in (first ∷ spans) entries head place zero span apart here =
    let same : first ≡ span = same_some here in
    get-entered_out spans (map.insert entries (rank first.id) (record { head = head; place = place })) head (suc place) (rank span.id)
    (λ at other there e. apart 0 (suc at) first other (omega arith) refl there (ap (λ (s : SpanState). rank s.id) same ∙ sym e))
    ∙ get-inserted entries (rank first.id) (record { head = head; place = place }) (rank span.id)
    ∙ ap (λ b. cond b (Some (record { head = head; place = place })) (map.get entries (rank span.id))) (eq-eqb (rank span.id) (rank first.id) (ap (λ (s : SpanState). rank s.id) (sym same)))
    ∙ ap (λ n. Some (record { head = head; place = n })) (let first_place : place ≡ place + 0 = omega arith in first_place)
get-entered_in (first ∷ spans) entries head place (suc at) span apart here = search (rules, (get-entered_in spans (map.insert entries (rank first.id) (record { head = head; place = place })) head (suc place) at span (λ low high a b less at_low at_high. apart (suc low) (suc high) a b (omega arith) at_low at_high) here))

pub entered-was : (spans : List SpanState) (entries : Entries) (head : SpanId) (place number : ℕ) (found : Place) → map.get (entered entries spans head place) number ≡ Some found
    → ((at : ℕ) × (span : SpanState) × (slice_get spans at ≡ Some span) × (rank span.id ≡ number) × (found.head ≡ head) × (found.place ≡ place + at)) ⊎ (map.get entries number ≡ Some found)
entered-was [] entries head place number found is = inr is
entered-was (span ∷ spans) entries head place number found is = elim (entered-was spans (map.insert entries (rank span.id) (record { head = head; place = place })) head (suc place) number found is) [
  | inl (at, other, here, named, same, there) ↦ inl (suc at, other, here, named, same, there ∙ (let next : suc place + at ≡ place + suc at = omega arith in next))
  | inr before ↦ by_test (eqb number (rank span.id)) refl (sym (get-inserted entries (rank span.id) (record { head = head; place = place }) number) ∙ before)
]
  where
    by_test : (b : Bool) → eqb number (rank span.id) ≡ b → cond b (Some (record { head = head; place = place })) (map.get entries number) ≡ Some found
        → ((at : ℕ) × (other : SpanState) × (slice_get (span ∷ spans) at ≡ Some other) × (rank other.id ≡ number) × (found.head ≡ head)
        × (found.place ≡ place + at)) ⊎ (map.get entries number ≡ Some found)
    by_test true here e = let is : ◌≡◌ {A = Place} (record { head = head; place = place }) found = same_some e in
        inl (
          0,
          span,
          refl,
          sym (eqb-true number (rank span.id) here),
          ap (λ (p : Place). p.head) (sym is),
          ap (λ (p : Place). p.place) (sym is) ∙ (let first_place : place ≡ place + 0 = omega arith in first_place),
        )
    by_test false elsewhere e = inr e

pub get-struck_out : (spans : List SpanState) (entries : Entries) (number : ℕ) → HasNoRank spans number → map.get (struck entries spans) number ≡ map.get entries number
get-struck_out [] entries number none = refl
get-struck_out (span ∷ spans) entries number none =
    get-struck_out spans (map.remove entries (rank span.id)) number (λ at other here. none (suc at) other here)
    ∙ get-remove entries (rank span.id) number ∙ rw (ne_eqb number (rank span.id) (λ e. none 0 span refl (sym e))) refl

-- what is left was there, and is none of the spans
pub struck-was : (spans : List SpanState) (entries : Entries) (number : ℕ) (found : Place) → map.get (struck entries spans) number ≡ Some found
    → HasNoRank spans number × (map.get entries number ≡ Some found)
struck-was [] entries number found is = ((λ at span here. absurd cc), is)
struck-was (span ∷ spans) entries number found is = search (rules, eqb, get-remove, same_some, eq-eqb, (struck-was spans (map.remove entries (rank span.id)) number found is))
