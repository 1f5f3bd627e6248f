-- The table by which a span's log is found.
use Rattle.std.proofs.Common.{zero, suc, ◌≡◌, ℕ, ◌+◌, ◌-◌, ◌<◌, ◌≤◌, Bool, true, false, cond, eqb, eq-eqb, List, [], ◌∷◌, length, get_or, Some, slice_get, sym, subst, ap, refl, ◌∙◌, inl, inr, ◌⊎◌, arith, rules}
use Rattle.std.specs.Cmp.{nat_eq_equiv}
use Rattle.std.specs.List.Sorted.{IsNonDecreasingBy, IsPermutation}
use Rattle.std.proofs.lemmas.Bool.{both_ways, cases_Bool, cases_lt, cases_eq, ne_eqb}
use Rattle.std.proofs.lemmas.List.Sorted.{IsPermutation-sym}
use Rattle.std.proofs.lemmas.Map.Keys.{IsDistinct-IsPermutation, IsDistinct-from_apart, apart_from_distinct}
use Rattle.std.proofs.lemmas.Option.{same_Some, slice_get_cases, slice_get_read, slice_get_within, get_or_from_slice_get}
use Rattle.span.specs.KeptLogs.{kept_changes}
use Rattle.span.proofs.Ids.{same_id, same_id_from_test, test_from_same_id}
use Rattle.span.specs.declared.id.SpanId.{SpanId}
use Rattle.span.specs.Ids.{rank, same_span}
use Rattle.span.specs.declared.span_log.SpanLog.{SpanLog}
use Rattle.audit.specs.Receipts.{log_of}
use Rattle.audit.specs.Agreement.{HaveOneSpanEach}
use Rattle.audit.specs.Tables.{AreByRank, ArePlaces, HasNoLog, HasTwice, IsLogAt, IsTable, place_in}
use Rattle.audit.specs.declared.log.LogPlace.{LogPlace}
use Rattle.audit.specs.declared.log.LogPlaces.{LogPlaces}
use Rattle.audit.proofs.BySlot.{moved}

pub same_rank : (a b : SpanId) → rank a ≡ rank b → a ≡ b
same_rank a b ranks = search (rules, same_id)

-- a span has no log, or one at some index
pub find_log : (logs : List SpanLog) (span : SpanId)
    → HasNoLog logs span ⊎ ((j : ℕ) × IsLogAt logs span j)
find_log [] span = inl (refl, λ j log at same. absurd cc)
find_log (x ∷ xs) span = by_test (same_span x.span span) refl (find_log xs span)
  where
    by_test : (b : Bool) → same_span x.span span ≡ b
        → HasNoLog xs span ⊎ ((j : ℕ) × IsLogAt xs span j)
        → HasNoLog (x ∷ xs) span ⊎ ((j : ℕ) × IsLogAt (x ∷ xs) span j)
    by_test true is later = inr (0, (x, refl, same_id_from_test x.span span is, ap (λ b. cond b (kept_changes x.log) (log_of xs span)) is))
    by_test false is (inl none) = inl (ap (λ b. cond b (kept_changes x.log) (log_of xs span)) is ∙ none.0, λ j. other j)
      where
        other : (j : ℕ) (log : SpanLog) → slice_get (x ∷ xs) j ≡ Some log → log.span ≡ span → ⊥
        other j log at same = search (rules, same_Some, test_from_same_id)
    by_test false is (inr found) = inr (suc found.0, (found.1.0, found.1.1, found.1.2, ap (λ b. cond b (kept_changes x.log) (log_of xs span)) is ∙ found.1.3))

-- no span has two logs, since no two places are of one span
pub table_one : (logs : List SpanLog) (table : LogPlaces) → IsTable logs table → HaveOneSpanEach logs
table_one logs table is i j a b at_i at_j same =
    let places = table.by_rank.items in
    let p = is.places_are.all i a at_i in
    let q = is.places_are.all j b at_j in
    let first = is.places_are.only p.0 p.1 p.2 in
    let second = is.places_are.only q.0 q.1 q.2 in
    let is_a : first.0 ≡ a = same_Some first.0 a (sym first.1 ∙ ap (λ k. slice_get logs k) p.3 ∙ at_i) in
    let is_b : second.0 ≡ b = same_Some second.0 b (sym second.1 ∙ ap (λ k. slice_get logs k) q.3 ∙ at_j) in
    let spans : p.1.span ≡ q.1.span = sym first.2 ∙ ap (λ (l : SpanLog). l.span) is_a ∙ same ∙ sym (ap (λ (l : SpanLog). l.span) is_b) ∙ second.2 in
    let read_p : get_or places p.0 p.1 ≡ p.1 = get_or_from_slice_get places p.0 p.1 p.1 p.2 in
    let read_q : get_or places q.0 p.1 ≡ q.1 = get_or_from_slice_get places q.0 q.1 p.1 q.2 in
    let rank_p : rank (get_or places p.0 p.1).span ≡ rank p.1.span = ap (λ (x : LogPlace). rank x.span) read_p in
    let rank_q : rank (get_or places q.0 p.1).span ≡ rank p.1.span = ap (λ (x : LogPlace). rank x.span) read_q ∙ ap rank (sym spans) in
    elim (cases_eq p.0 q.0) [
      | inl one ↦
          let places_same : p.1 ≡ q.1 = sym read_p ∙ ap (λ k. get_or places k p.1) one ∙ read_q in
          sym p.3 ∙ ap (λ (x : LogPlace). x.log) places_same ∙ q.3
      | inr other ↦ elim (cases_lt p.0 q.0) [
        | inl low ↦ absurd (omega (arith, is.sorted p.0 q.0 p.1 low (slice_get_within places q.0 q.1 q.2)))
        | inr high ↦ absurd (omega (arith, is.sorted q.0 p.0 p.1 (omega arith) (slice_get_within places p.0 p.1 p.2)))
      ]
    ]

module _ (logs : List SpanLog) (table : LogPlaces) (span : SpanId) (is : IsTable logs table) where
  -- a span of no place has no log
  pub none_placed : ((k : ℕ) (place : LogPlace) → slice_get table.by_rank.items k ≡ Some place → same_span place.span span ≡ false) → HasNoLog logs span
  none_placed none = elim (find_log logs span) [
    | inl nowhere ↦ nowhere
    | inr there ↦
        let p = is.places_are.all there.0 there.1.0 there.1.1 in
        let own = is.places_are.only p.0 p.1 p.2 in
        let log : own.0 ≡ there.1.0 = same_Some own.0 there.1.0 (sym own.1 ∙ ap (λ k. slice_get logs k) p.3 ∙ there.1.1) in
        let same : same_span p.1.span span ≡ true = test_from_same_id p.1.span span (sym own.2 ∙ ap (λ (l : SpanLog). l.span) log ∙ there.1.2) in
        absurd (both_ways (same_span p.1.span span) (none p.0 p.1 p.2) same)
  ]

  -- the place of a span is that of its log
  pub log_placed : (k : ℕ) (place : LogPlace) → slice_get table.by_rank.items k ≡ Some place → same_span place.span span ≡ true → (place.log < length logs) × IsLogAt logs span place.log
  log_placed k place at same =
      let own = is.places_are.only k place at in
      let span_is : own.0.span ≡ span = own.2 ∙ same_id_from_test place.span span same in (
        slice_get_within logs place.log own.0 own.1,
        elim (find_log logs span) [
          | inl none ↦ absurd (none.1 place.log own.0 own.1 span_is)
          | inr there ↦ subst (IsLogAt logs span) (table_one logs table is there.0 place.log there.1.0 own.0 there.1.1 own.1 (there.1.2 ∙ sym span_is)) there.1
        ],
      )

  -- the same of a place that was read at an index
  pub log_read : (k : ℕ) (place : LogPlace) → k < length table.by_rank.items → place ≡ get_or table.by_rank.items k place → same_span (get_or table.by_rank.items k place).span span ≡ true
      → (place.log < length logs) × IsLogAt logs span place.log
  log_read k place within read same =
      log_placed k place (slice_get_read table.by_rank.items (length table.by_rank.items) k place refl within read) (ap (λ (x : LogPlace). same_span x.span span) read ∙ same)

-- ---- how the table is made

-- the places of the first n logs, in order
pub record AreFirstPlaces (logs : List SpanLog) (n : ℕ) (places : List LogPlace) : Type 0 where
  pub len : length places ≡ n
  pub each : (k : ℕ) (log : SpanLog) → k < n → slice_get logs k ≡ Some log → slice_get places k ≡ Some (record { span = log.span; log = k })

pub ArePlaces-all : (logs : List SpanLog) (n : ℕ) (places : List LogPlace) → AreFirstPlaces logs n places → length logs ≡ n → ArePlaces logs places
ArePlaces-all logs n places are long = record {
  only = λ k place at. elim (slice_get_cases logs k).1 [
    | inl there ↦
        let same : record { span = there.0.span; log = k } ≡ place = same_Some (record { span = there.0.span; log = k }) place (sym (are.each k there.0 (omega (arith, there.1)) there.2) ∙ at) in
        (there.0, ap (λ (p : LogPlace). slice_get logs p.log) (sym same) ∙ there.2, ap (λ (p : LogPlace). p.span) same)
    | inr past ↦ absurd (let within = slice_get_within places k place at in let whole = are.len in omega (arith, past.0))
  ];
  all = λ j log at. (j, record { span = log.span; log = j }, are.each j log (let within = slice_get_within logs j log at in omega arith) at, refl);
  once = λ i j d less within same.
      let whole = are.len in
      let own_i : (get_or places i d).log ≡ i = own i d (omega arith) in
      let own_j : (get_or places j d).log ≡ j = own j d (omega arith) in
      omega arith;
}
  where
    own : (k : ℕ) (d : LogPlace) → k < n → (get_or places k d).log ≡ k
    own k d low = elim (slice_get_cases logs k).1 [
      | inl there ↦ ap (λ (p : LogPlace). p.log) (get_or_from_slice_get places k (record { span = there.0.span; log = k }) d (are.each k there.0 low there.2))
      | inr past ↦ absurd (omega (arith, past.0))
    ]

-- the same places in another order
pub ArePlaces-moved : (logs : List SpanLog) (old new : List LogPlace) → IsPermutation old new → ArePlaces logs old → ArePlaces logs new
ArePlaces-moved logs old new permutation are = record {
  only = λ k place at.
      let before = moved new old k place (IsPermutation-sym old new permutation) at in
      are.only before.0 place before.1;
  all = λ j log at.
      let there = are.all j log at in
      let now = moved old new there.0 there.1 permutation there.2 in
      (now.0, there.1, now.1, there.3);
  once = λ i j d less within same.
      let apart = apart_from_distinct same_log new i j d (IsDistinct-IsPermutation same_log (λ a b. nat_eq_equiv.symm a.log b.log) old new permutation
      (IsDistinct-from_apart same_log old (λ i j d less within. ne_eqb _ _ (are.once i j d less within)))) less within in
      both_ways (same_log (get_or new i d) (get_or new j d)) apart (eq-eqb _ _ same);
}
  where
    same_log : LogPlace → LogPlace → Bool
    same_log a b = eqb a.log b.log

-- a span with two places has two logs
pub twice_refuted : (logs : List SpanLog) (places : List LogPlace) → ArePlaces logs places → HasTwice places → HaveOneSpanEach logs → ⊥
twice_refuted logs places are twice one = elim (slice_get_cases places twice.0).1 [
  | inl p ↦ elim (slice_get_cases places (twice.0 + 1)).1 [
    | inl q ↦
        let read_p : get_or places twice.0 p.0 ≡ p.0 = get_or_from_slice_get places twice.0 p.0 p.0 p.2 in
        let read_q : get_or places (twice.0 + 1) p.0 ≡ q.0 = get_or_from_slice_get places (twice.0 + 1) q.0 p.0 q.2 in
        let spans : p.0.span ≡ q.0.span = same_id_from_test p.0.span q.0.span ((λ t. same_span (sym read_p t).span (sym read_q t).span) ∙ twice.2 p.0) in
        let first = are.only twice.0 p.0 p.2 in
        let second = are.only (twice.0 + 1) q.0 q.2 in
        let logs_same : p.0.log ≡ q.0.log = one p.0.log q.0.log first.0 second.0 first.1 second.1 (first.2 ∙ spans ∙ sym second.2) in
        are.once twice.0 (twice.0 + 1) p.0 (omega arith) twice.1 (ap (λ (x : LogPlace). x.log) read_p ∙ logs_same ∙ sym (ap (λ (x : LogPlace). x.log) read_q))
    | inr past ↦ absurd (omega (arith, past.0, twice.1))
  ]
  | inr past ↦ absurd (omega (arith, past.0, twice.1))
]

-- sorted places of which no two that stand together are of one span
pub AreByRank-sorted : (places : List LogPlace) → IsNonDecreasingBy (λ (place : LogPlace). rank place.span) places
    → ((k : ℕ) (d : LogPlace) → k + 1 < length places → same_span (get_or places k d).span (get_or places (k + 1) d).span ≡ false) → AreByRank places
AreByRank-sorted places up apart i j d less within =
    let back : j - 1 + 1 ≡ j = omega arith in
    let last : rank (get_or places (j - 1) d).span ≤ rank (get_or places j d).span = up (j - 1) j d (omega arith) within in
    let differ : rank (get_or places (j - 1) d).span ≡ rank (get_or places j d).span → ⊥ = λ same.
    both_ways (same_span (get_or places (j - 1) d).span (get_or places j d).span)
    (ap (λ k. same_span (get_or places (j - 1) d).span (get_or places k d).span) (sym back) ∙ apart (j - 1) d (omega arith))
    (test_from_same_id (get_or places (j - 1) d).span (get_or places j d).span (same_rank (get_or places (j - 1) d).span (get_or places j d).span same)) in
    let strict : rank (get_or places (j - 1) d).span < rank (get_or places j d).span = elim (cases_eq (rank (get_or places (j - 1) d).span) (rank (get_or places j d).span)) [
      | inl same ↦ absurd (differ same)
      | inr other ↦ omega arith
    ] in
    elim (cases_eq (i + 1) j) [
      | inl next ↦
          let here : i ≡ j - 1 = omega arith in
          let first : rank (get_or places i d).span ≡ rank (get_or places (j - 1) d).span = ap (λ k. rank (get_or places k d).span) here in
          omega arith
      | inr farther ↦ let first : rank (get_or places i d).span ≤ rank (get_or places (j - 1) d).span = up i (j - 1) d (omega arith) (omega arith) in omega arith
    ]

-- ---- where a span's log stands, as a number

pub place_in-le : (logs : List SpanLog) (span : SpanId) → place_in logs span ≤ length logs
place_in-le [] span = omega arith
place_in-le (x ∷ xs) span = search (rules, cases_Bool, (place_in-le xs span))

pub place_in-none : (logs : List SpanLog) (span : SpanId) → ((j : ℕ) (log : SpanLog) → slice_get logs j ≡ Some log → log.span ≡ span → ⊥) → place_in logs span ≡ length logs
place_in-none [] span none = refl
place_in-none (x ∷ xs) span none = elim (cases_Bool (same_span x.span span)) [
  | inl same ↦ absurd (none 0 x refl (same_id_from_test x.span span same))
  | inr other ↦ ap (λ b. cond b 0 (suc (place_in xs span))) other ∙ ap suc (place_in-none xs span (λ j log at. none (suc j) log at))
]

pub place_in-found : (logs : List SpanLog) (span : SpanId) (j : ℕ) (log : SpanLog) → HaveOneSpanEach logs → slice_get logs j ≡ Some log → log.span ≡ span → place_in logs span ≡ j
place_in-found [] span j log one at is = absurd cc
place_in-found (x ∷ xs) span j log one at is = elim (cases_Bool (same_span x.span span)) [
  | inl same ↦ ap (λ b. cond b 0 (suc (place_in xs span))) same ∙ one 0 j x log refl at (same_id_from_test x.span span same ∙ sym is)
  | inr other ↦ ap (λ b. cond b 0 (suc (place_in xs span))) other
      ∙ later j at other (λ j at. place_in-found xs span j log (λ i k a b at_i at_k same. let e : suc i ≡ suc k = one (suc i) (suc k) a b at_i at_k same in
      omega arith) at is)
]
  where
    later : (j : ℕ) → slice_get (x ∷ xs) j ≡ Some log → same_span x.span span ≡ false → ((j : ℕ) → slice_get xs j ≡ Some log → place_in xs span ≡ j) → suc (place_in xs span) ≡ j
    later zero at other below = absurd (both_ways (same_span x.span span) other (test_from_same_id x.span span (ap (λ (l : SpanLog). l.span) (same_Some x log at) ∙ is)))
    later (suc j) at other below = ap suc (below j at)

-- spans with logs at one place are one
pub place_in-same : (logs : List SpanLog) (a b : SpanId) → place_in logs a ≡ place_in logs b → place_in logs a < length logs → a ≡ b
place_in-same [] a b same low = absurd (omega arith)
place_in-same (x ∷ xs) a b same low = search (rules, cases_Bool, same_id_from_test, (place_in-same xs a b))

-- past all logs no change is the span's
pub log_of-past : (logs : List SpanLog) (span : SpanId) → place_in logs span ≡ length logs → log_of logs span ≡ []
log_of-past [] span past = refl
log_of-past (x ∷ xs) span past = search (rules, cases_Bool, (log_of-past xs span))

-- the changes of a log that was read at an index
pub log_items : (logs : List SpanLog) (j : ℕ) (d log : SpanLog) → slice_get logs j ≡ Some log → kept_changes (get_or logs j d).log ≡ kept_changes log.log
log_items logs j d log at = ap (λ (l : SpanLog). kept_changes l.log) (get_or_from_slice_get logs j log d at)
