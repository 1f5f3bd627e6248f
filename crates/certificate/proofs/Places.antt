-- Sets of places of groups, and what they say of a list of ids while it is walked.
use Rattle.std.proofs.lemmas.Grind.{common_steps}
use Rattle.std.proofs.Common.{◌≡◌, ℕ, ◌+◌, ◌<◌, ◌≤◌, ◌&&◌, ◌||◌, Bool, true, false, cond, List, [], ◌∷◌, ◌++◌, length, map, get_or, take, drop, ap, refl, subst, sym, ◌∙◌, inl, inr, arith, eqb, eq-eqb, lt-ltb, nat_lt, replicate, suc, count_by, sum_by, rules}
use Rattle.std.specs.List.{IsDistinct, list_any, range_with_len}
use Rattle.std.specs.List.Sorted.{IsStrictlyIncreasing}
use Rattle.std.proofs.Math.Bool.{or-false, or_comm}
use Rattle.std.proofs.Math.Numerals.{add-one}
use Rattle.std.proofs.Math.Seq.{take-suc}
use Rattle.std.proofs.lemmas.Bool.{and_from, and_parts, both_ways, cases_eq, cases_lt, false_from_ne_true, le-ltb, ne_eqb, or_cases, or_left, or_right}
use Rattle.std.proofs.lemmas.List.{drop-map, get_or_default, get_or-drop, get_or-replicate, get_or-take, length-drop, length-replicate, length-take-le, map-id, take_all, take-map}
use Rattle.std.proofs.lemmas.List.Folds.{list_any-append, list_any_at, list_any_none}
use Rattle.std.proofs.lemmas.List.FromFn.{sum_by-map-range_with_len_more}
use Rattle.std.proofs.lemmas.List.Sums.{sum_by-cons}
use Rattle.std.proofs.lemmas.Map.Keys.{IsDistinct-from_apart, apart_from_distinct}
use Rattle.std.proofs.lemmas.Nat.Bits.{bit_at-zero}
use Rattle.bitmap.specs.Slots.{has_bit}
use Rattle.span.proofs.Ids.{same_id_from_test, test_from_same_id}
use Rattle.span.specs.declared.entry.Entry.{Entry}
use Rattle.span.specs.declared.id.SpanId.{SpanId}
use Rattle.span.specs.Entries.{are_compatible}
use Rattle.span.specs.Ids.{rank, same_span}
use Rattle.mesh_graph.specs.Groups.{IsAscending, has_id, ids}
use Rattle.mesh_graph.proofs.Bits.{has_bit-past}
use Rattle.mesh_graph.proofs.Entries.{any_at, any_none, rank-same, rank_at, rank_at-lt, rank_at-read}
use Rattle.certificate.specs.Chosen.{AreOnce, HasFitting, HasSeen, fits_any, fits_with}

-- ---- bits

-- no place is in
pub has_bit-none : (words : List ℕ) (n place : ℕ) → words ≡ replicate n 0 → has_bit words place ≡ false
has_bit-none words n place is = search (rules, cases_lt, get_or-replicate, bit_at-zero, length-replicate, has_bit-past)

-- one more place that is looked at
pub count-more : (test : ℕ → Bool) (n : ℕ) → count_by test (range_with_len 0 (n + 1)) ≡ count_by test (range_with_len 0 n) + cond (test n) 1 0
count-more test n =
    ap (sum_by (λ k. cond (test k) 1 0)) (sym (map-id (range_with_len 0 (n + 1))))
    ∙ sum_by-map-range_with_len_more (λ k. cond (test k) 1 0) (λ k. k) 0 n n (omega arith)
    ∙ ap (λ ks. sum_by (λ k. cond (test k) 1 0) ks + cond (test n) 1 0) (map-id (range_with_len 0 n))

-- as many places as elements that pass
pub count-places : {X : Type 0} (test : X → Bool) (at : ℕ → Bool) (first : ℕ) (xs : List X)
    → ((k : ℕ) (d : X) → k < length xs → at (first + k) ≡ test (get_or xs k d)) → count_by at (range_with_len first (length xs)) ≡ count_by test xs
count-places test at first [] same = refl
count-places test at first (x ∷ xs) same =
    let here : at first ≡ test x = ap at (let e : first ≡ first + 0 = omega arith in e) ∙ same 0 x (omega arith) in
    sum_by-cons (λ k. cond (at k) 1 0) first (range_with_len (first + 1) (length xs))
    ∙ (λ i. cond (here i) 1 0 + count-places test at (first + 1) xs (λ k d l. ap at (let e : first + 1 + k ≡ first + suc k = omega arith in e) ∙ same (suc k) d (omega arith)) i)
    ∙ sym (sum_by-cons (λ x. cond (test x) 1 0) x xs)

-- ---- some of the groups

pub IsAscending-take : (n : ℕ) (entries : List Entry) → IsAscending (ids entries) → IsAscending (ids (take n entries))
IsAscending-take n entries up = subst IsStrictlyIncreasing (take-map rank n (ids entries) ∙ ap (map rank) (take-map (λ (x : Entry). x.id) n entries)) (shorter (map rank (ids entries)) up)
  where
    shorter : (ranks : List ℕ) → IsStrictlyIncreasing ranks → IsStrictlyIncreasing (take n ranks)
    shorter ranks up = elim (cases_lt (length ranks) n) [
      | inl few ↦ subst IsStrictlyIncreasing (sym (take_all n ranks (omega arith))) up
      | inr many ↦ λ k l. let long = length-take-le n ranks (omega arith) in omega (arith, up k (omega arith), get_or-take n ranks k 0 (omega arith), get_or-take n ranks (k + 1) 0 (omega arith))
    ]

pub IsAscending-drop : (n : ℕ) (entries : List Entry) → IsAscending (ids entries) → IsAscending (ids (drop n entries))
IsAscending-drop n entries up = subst IsStrictlyIncreasing (drop-map rank n (ids entries) ∙ ap (map rank) (drop-map (λ (x : Entry). x.id) n entries)) (later (map rank (ids entries)) up)
  where
    later : (ranks : List ℕ) → IsStrictlyIncreasing ranks → IsStrictlyIncreasing (drop n ranks)
    later ranks up k l =
        let left = length-drop n ranks in
        let next : n + k + 1 ≡ n + (k + 1) = omega arith in
        omega (arith, up (n + k) (omega arith), get_or-drop n ranks k 0, get_or-drop n ranks (k + 1) 0, ap (λ i. get_or ranks i 0) next)

-- two groups of one list with the same id stand at the same place
pub place-same : (entries : List Entry) (id : SpanId) (p q : ℕ) (d e : Entry) → IsAscending (ids entries) → p < length entries → q < length entries
    → same_span (get_or entries p d).id id ≡ true → same_span (get_or entries q e).id id ≡ true → p ≡ q
place-same entries id p q d e up p_in q_in same_p same_q = search (rules, rank_at, rank_at-read, rank-same, cases_eq, cases_lt, rank_at-lt)

-- ---- ids that were seen

-- one id more
pub any-more : (test : SpanId → Bool) (before : List SpanId) (id : SpanId) → list_any test (before ++ id ∷ []) ≡ (list_any test before || test id)
any-more test before id = list_any-append test before (id ∷ []) ∙ ap (λ b. list_any test before || b) (or-false (test id))

-- an id that no group has

module _ (entries : List Entry) (before : List SpanId) (id : SpanId) (old : List ℕ) (seen : HasSeen entries before old) where
  module _ (p : ℕ) (up : IsAscending (ids entries)) (p_in : p < length entries) (at : (d : Entry) → same_span (get_or entries p d).id id ≡ true) where
    pub HasSeen-more : (new : List ℕ) → ((q : ℕ) → has_bit new q ≡ (eqb q p || has_bit old q)) → HasSeen entries (before ++ id ∷ []) new
    HasSeen-more new bits q d within =
        bits q ∙ ap (λ b. eqb q p || b) (seen q d within) ∙ or_comm (eqb q p) (list_any (same_span (get_or entries q d).id) before)
        ∙ ap (λ b. list_any (same_span (get_or entries q d).id) before || b) here
        ∙ sym (any-more (same_span (get_or entries q d).id) before id)
      where
        here : eqb q p ≡ same_span (get_or entries q d).id id
        here = elim (cases_eq q p) [
          | inl same ↦ eq-eqb q p same ∙ sym (ap (λ k. same_span (get_or entries k d).id id) same ∙ at d)
          | inr other ↦ ne_eqb q p other ∙ sym (false_from_ne_true _ (λ one. other (place-same entries id q p d d up within p_in one (at d))))
        ]

-- whether the group was seen
pub was-seen : (entries : List Entry) (before : List SpanId) (id : SpanId) (old : List ℕ) (p : ℕ) → HasSeen entries before old → p < length entries
    → ((d : Entry) → same_span (get_or entries p d).id id ≡ true)
    → has_bit old p ≡ (has_id entries id && list_any (same_span id) before)
was-seen [] before id old p seen p_in at = absurd (omega arith)
was-seen (x ∷ xs) before id old p seen p_in at =
    seen p x p_in
    ∙ ap (λ (y : SpanId). list_any (same_span y) before) (same_id_from_test (get_or (x ∷ xs) p x).id id (at x))
    ∙ sym (ap (λ b. b && list_any (same_span id) before) (list_any_at (λ (y : Entry). same_span y.id id) (x ∷ xs) p x p_in (at x)))

-- ---- no group twice

module _ (entries : List Entry) (ids : List SpanId) (k : ℕ) (x : SpanId) (low : k < length ids) (is : (d : SpanId) → x ≡ get_or ids k d) where
  next : take (k + 1) ids ≡ take k ids ++ x ∷ []
  next = ap (λ n. take n ids) (add-one k) ∙ take-suc ids k x low ∙ ap (λ y. take k ids ++ y ∷ []) (sym (is x))

  pub HasSeen-next : (words : List ℕ) → HasSeen entries (take k ids ++ x ∷ []) words → HasSeen entries (take (k + 1) ids) words
  HasSeen-next words = subst (λ xs. HasSeen entries xs words) (sym next)

  -- an id that is met for the first time, or is of no group
  pub AreOnce-more : AreOnce entries (take k ids) → (has_id entries x && list_any (same_span x) (take k ids)) ≡ false → AreOnce entries (take (k + 1) ids)
  AreOnce-more once new i j d less within has =
      let few : length (take k ids) ≡ k = length-take-le k ids (omega arith) in
      let more : length (take (k + 1) ids) ≡ k + 1 = length-take-le (k + 1) ids (omega arith) in
      let read_i : get_or (take (k + 1) ids) i d ≡ get_or ids i d = get_or-take (k + 1) ids i d (omega arith) in
      let read_j : get_or (take (k + 1) ids) j d ≡ get_or ids j d = get_or-take (k + 1) ids j d (omega arith) in
      let first : get_or (take k ids) i d ≡ get_or ids i d = get_or-take k ids i d (omega arith) in
      elim (cases_lt j k) [
        | inl before ↦
            let second : get_or (take k ids) j d ≡ get_or ids j d = get_or-take k ids j d before in
            (λ t. same_span ((read_i ∙ sym first) t) ((read_j ∙ sym second) t))
            ∙ once i j d less (omega arith) (ap (has_id entries) (first ∙ sym read_i) ∙ has)
        | inr last ↦
            let here : get_or (take (k + 1) ids) j d ≡ x = read_j ∙ ap (λ n. get_or ids n d) (let e : j ≡ k = omega arith in e) ∙ sym (is d) in
            ap (same_span (get_or (take (k + 1) ids) i d)) here ∙ false_from_ne_true _ (λ same.
            let one : get_or (take (k + 1) ids) i d ≡ x = same_id_from_test _ x same in
            let there = list_any_at (same_span x) (take k ids) i d (omega arith) (test_from_same_id x (get_or (take k ids) i d) (sym one ∙ read_i ∙ sym first)) in
            both_ways (has_id entries x && list_any (same_span x) (take k ids)) new (and_from (has_id entries x) _ (ap (has_id entries) (sym one) ∙ has) there))
      ]

  -- an id of a group that was met before
  pub AreOnce-refuted : (has_id entries x && list_any (same_span x) (take k ids)) ≡ true → AreOnce entries ids → ⊥
  AreOnce-refuted old once =
      let both = and_parts (has_id entries x) (list_any (same_span x) (take k ids)) old in
      let few : length (take k ids) ≡ k = length-take-le k ids (omega arith) in
      both_ways (list_any (same_span x) (take k ids))
      (list_any_none (same_span x) (take k ids) (λ i d within.
      let first : get_or (take k ids) i d ≡ get_or ids i d = get_or-take k ids i d (omega arith) in
      false_from_ne_true _ (λ same.
      let one : x ≡ get_or ids i d = same_id_from_test x _ same ∙ first in
      let apart : same_span (get_or ids i d) (get_or ids k d) ≡ false = once i k d (omega arith) low (ap (has_id entries) (sym one) ∙ both.0) in
      both_ways (same_span (get_or ids i d) (get_or ids k d)) apart (test_from_same_id _ _ (sym one ∙ is d)))))
      both.1

-- of all groups, where it is so of the first ones and of the others
module _ (entries first rest : List Entry) (ids : List SpanId) (parts : entries ≡ first ++ rest) where
  has_id-parts : (id : SpanId) → has_id entries id ≡ (has_id first id || has_id rest id)
  has_id-parts id = ap (λ xs. has_id xs id) parts ∙ list_any-append (λ (x : Entry). same_span x.id id) first rest

  pub AreOnce-parts : AreOnce first ids → AreOnce rest ids → AreOnce entries ids
  AreOnce-parts left right i j d less within has = search (rules, or_cases, has_id-parts)

  pub AreOnce-first : AreOnce entries ids → AreOnce first ids
  AreOnce-first once i j d less within has = once i j d less within (has_id-parts (get_or ids i d) ∙ or_left (has_id first (get_or ids i d)) _ has)

  pub AreOnce-rest : AreOnce entries ids → AreOnce rest ids
  AreOnce-rest once i j d less within has = once i j d less within (has_id-parts (get_or ids i d) ∙ or_right (has_id first (get_or ids i d)) _ has)

-- where each id is of some group, none stands twice
pub IsDistinct-from_once : (entries : List Entry) (ids : List SpanId) → ((i : ℕ) (d : SpanId) → i < length ids → has_id entries (get_or ids i d) ≡ true)
    → AreOnce entries ids → IsDistinct same_span ids
IsDistinct-from_once entries ids all once = IsDistinct-from_apart same_span ids (λ i j d less within. once i j d less within (all i d (omega arith)))

pub once-from_distinct : (entries : List Entry) (ids : List SpanId) → IsDistinct same_span ids → AreOnce entries ids
once-from_distinct entries ids distinct i j d less within has = apart_from_distinct same_span ids i j d distinct less within

-- ---- groups that fit

module _ (abandoned : List Entry) (before : List SpanId) (id : SpanId) (owned : List Entry) (old : List ℕ) (fitting : HasFitting abandoned before owned old) where
  more : (y : Entry) → fits_any abandoned (before ++ id ∷ []) y ≡ (fits_any abandoned before y || fits_with abandoned id y)
  more y = any-more (λ id. fits_with abandoned id y) before id

  pub HasFitting-same : has_id abandoned id ≡ false → HasFitting abandoned (before ++ id ∷ []) owned old
  HasFitting-same none q d within =
      let y = get_or owned q d in
      fitting q d within ∙ sym (or-false (fits_any abandoned before y))
      ∙ ap (λ b. fits_any abandoned before y || b) (sym (any_none abandoned id (λ x. are_compatible x y) none))
      ∙ sym (more y)

  pub HasFitting-more : (p : ℕ) (x : Entry) (new : List ℕ) → IsAscending (ids abandoned) → p < length abandoned
      → ((d : Entry) → same_span (get_or abandoned p d).id id ≡ true) → x ≡ get_or abandoned p x
      → ((q : ℕ) (d : Entry) → q < length owned → has_bit new q ≡ (has_bit old q || are_compatible x (get_or owned q d))) → HasFitting abandoned (before ++ id ∷ []) owned new
  HasFitting-more p x new up p_in at is bits q d within =
      let y = get_or owned q d in
      bits q d within ∙ (λ i. fitting q d within i || are_compatible (is i) y)
      ∙ ap (λ b. fits_any abandoned before y || b) (sym (any_at abandoned id (λ x. are_compatible x y) p x up p_in (at x)))
      ∙ sym (more y)

-- one more of the ids
pub HasFitting-next : (abandoned : List Entry) (chosen : List SpanId) (owned : List Entry) (k : ℕ) (x : SpanId) (words : List ℕ) → k < length chosen → x ≡ get_or chosen k x
    → HasFitting abandoned (take k chosen ++ x ∷ []) owned words → HasFitting abandoned (take (k + 1) chosen) owned words
HasFitting-next abandoned chosen owned k x words low is = grind (arith, common_steps, take-suc)

-- the first k groups were tested, and the bits of those that pass are in
abbrev pub HasAdded : (Entry → Bool) → List Entry → ℕ → List ℕ → List ℕ → Type 0
HasAdded test owned k old new = (q : ℕ) (d : Entry) → q < length owned → has_bit new q ≡ (has_bit old q || (nat_lt q k && test (get_or owned q d)))

module _ (test : Entry → Bool) (owned : List Entry) (old : List ℕ) where
  pub HasAdded-more : (k : ℕ) (mid new : List ℕ) (y : Entry) → HasAdded test owned k old mid → k < length owned → y ≡ get_or owned k y
      → ((q : ℕ) → has_bit new q ≡ (has_bit mid q || (eqb q k && test y))) → HasAdded test owned (k + 1) old new
  HasAdded-more k mid new y added low is bits q d within = search (rules, cases_eq, get_or_default, le-ltb, eq-eqb, or-false, lt-ltb, nat_lt, ne_eqb, cases_lt)

  -- a group that does not pass adds no bit
  pub HasAdded-skip : (k : ℕ) (mid : List ℕ) (y : Entry) → HasAdded test owned k old mid → k < length owned → y ≡ get_or owned k y
      → test y ≡ false → HasAdded test owned (k + 1) old mid
  HasAdded-skip k mid y added low is fails = search (rules, HasAdded-more, or-false)

-- how many fit, by the bits of all of the ids
pub count-fitting : (abandoned : List Entry) (chosen : List SpanId) (owned : List Entry) (k : ℕ) (words : List ℕ) → length chosen ≤ k → HasFitting abandoned (take k chosen) owned words
    → count_by (has_bit words) (range_with_len 0 (length owned)) ≡ count_by (λ y. fits_any abandoned chosen y) owned
count-fitting abandoned chosen owned k words past fitting =
    count-places (λ y. fits_any abandoned chosen y) (has_bit words) 0 owned (λ q d within.
    ap (has_bit words) (let e : 0 + q ≡ q = omega arith in e) ∙ fitting q d within ∙ ap (λ xs. fits_any abandoned xs (get_or owned q d)) (take_all k chosen past))
