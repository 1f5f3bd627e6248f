-- What a walk over groups adds up, and that it is the same in whatever order they stand.
use Rattle.std.proofs.Common.{zero, suc, ◌≡◌, ℕ, ◌+◌, Bool, true, false, cond, List, [], ◌∷◌, ◌++◌, length, insert, is_some, Some, slice_get, take, append_assoc, ap, subst, sym, ◌∙◌, refl, arith, filter, append-nil, length-append}
use Rattle.std.specs.List.{sum_by}
use Rattle.std.specs.List.Sorted.{IsPermutation}
use Rattle.std.proofs.lemmas.Grind.{flat_map-append}
use Rattle.std.proofs.lemmas.List.Sorted.{IsPermutation-append_comm, IsPermutation-append_left, IsPermutation-append_right, IsPermutation-cons, IsPermutation-middle, IsPermutation-refl, IsPermutation-sym, IsPermutation-trans, sum_by-IsPermutation}
use Rattle.std.proofs.lemmas.List.Sums.{sum_by-append, sum_by-cons}
use Rattle.std.specs.FinSet as set
use Rattle.span.specs.Log.{live_slots}
use Rattle.span.specs.State.{SpanState}
use Rattle.groups.specs.Group.{spans_in, spans_of}
use Rattle.groups.specs.Spans.{live_count}
use Rattle.groups.proofs.GroupSpans.{put_in}
use Rattle.groups.proofs.FirstLive.{take-suc}
use Rattle.pool.specs.Ranked.{arranged, head_rank, in_order, lower}
use Rattle.pool.specs.State.{PooledState}
use Rattle.pool.proofs.Arranged.{IsPermutation-arranged}
use Rattle.std.proofs.lemmas.List.Elements.{filter-append}

abbrev pub paged : PooledState → Bool
paged group = is_some group.page

-- one more of the first

module _ (groups : List PooledState) (at : ℕ) (group : PooledState) (here : slice_get groups at ≡ Some group) where
  next : at + 1 ≡ suc at
  next = omega arith

  pub before-more : take (at + 1) groups ≡ take at groups ++ group ∷ []
  before-more = ap (λ n. take n groups) next ∙ take-suc groups at group here

  pub paged-more : paged group ≡ true → filter paged (take (at + 1) groups) ≡ filter paged (take at groups) ++ group ∷ []
  paged-more on = ap (filter paged) before-more ∙ filter-append paged (take at groups) (group ∷ []) ∙ ap (λ b. filter paged (take at groups) ++ cond b (group ∷ []) []) on

  pub paged-as_before : paged group ≡ false → filter paged (take (at + 1) groups) ≡ filter paged (take at groups)
  paged-as_before off = ap (filter paged) before-more ∙ filter-append paged (take at groups) (group ∷ [])
      ∙ ap (λ b. filter paged (take at groups) ++ cond b (group ∷ []) []) off ∙ append-nil (filter paged (take at groups))

  pub spans-more : length (spans_in (take (at + 1) groups)) ≡ length (spans_in (take at groups)) + length (spans_of group)
  spans-more = ap (λ gs. length (spans_in gs)) before-more ∙ ap length (flat_map-append spans_of (take at groups) (group ∷ []))
      ∙ ap (λ spans. length (spans_in (take at groups) ++ spans)) (append-nil (spans_of group)) ∙ length-append (spans_in (take at groups)) (spans_of group)

pub live_count-push : (groups : List PooledState) (group : PooledState) → live_count (spans_in (groups ++ group ∷ [])) ≡ live_count (spans_in groups) + live_count (spans_of group)
live_count-push groups group =
    ap live_count (flat_map-append spans_of groups (group ∷ []) ∙ ap (λ xs. spans_in groups ++ xs) (append-nil (spans_of group)))
    ∙ sum_by-append (λ (s : SpanState). set.len (live_slots s.log)) (spans_in groups) (spans_of group)

-- the sums

abbrev live_of : PooledState → ℕ
live_of group = live_count (spans_of group)

pub count-append : (xs ys : List SpanState) → live_count (xs ++ ys) ≡ live_count xs + live_count ys
count-append xs ys = sum_by-append (λ (s : SpanState). set.len (live_slots s.log)) xs ys

paged_sum : (groups : List PooledState) → length (filter paged groups) ≡ sum_by (λ g. cond (paged g) 1 0) groups
paged_sum [] = refl
paged_sum (group ∷ groups) = by_test (paged group) refl (paged_sum groups)
  where
    by_test : (b : Bool) → paged group ≡ b → length (filter paged groups) ≡ sum_by (λ g. cond (paged g) 1 0) groups
        → length (cond b (group ∷ filter paged groups) (filter paged groups)) ≡ sum_by (λ g. cond (paged g) 1 0) (group ∷ groups)
    by_test true on rest = omega (arith, rest, sum_by-cons (λ g. cond (paged g) 1 0) group groups, ap (λ (b : Bool). cond {A = ℕ} b 1 0) on)
    by_test false off rest = omega (arith, rest, sum_by-cons (λ g. cond (paged g) 1 0) group groups, ap (λ (b : Bool). cond {A = ℕ} b 1 0) off)

live_sum : (groups : List PooledState) → live_count (spans_in (filter paged groups)) ≡ sum_by (λ g. cond (paged g) (live_of g) 0) groups
live_sum [] = refl
live_sum (group ∷ groups) = by_test (paged group) refl (live_sum groups)
  where
    by_test : (b : Bool) → paged group ≡ b → live_count (spans_in (filter paged groups)) ≡ sum_by (λ g. cond (paged g) (live_of g) 0) groups
        → live_count (spans_in (cond b (group ∷ filter paged groups) (filter paged groups))) ≡ sum_by (λ g. cond (paged g) (live_of g) 0) (group ∷ groups)
    by_test true on rest = omega (
      arith,
      rest,
      count-append (spans_of group) (spans_in (filter paged groups)),
      sum_by-cons (λ g. cond (paged g) (live_of g) 0) group groups,
      ap (λ (b : Bool). cond {A = ℕ} b (live_of group) 0) on,
    )
    by_test false off rest = omega (arith, rest, sum_by-cons (λ g. cond (paged g) (live_of g) 0) group groups, ap (λ (b : Bool). cond {A = ℕ} b (live_of group) 0) off)

span_sum : (groups : List PooledState) → length (spans_in groups) ≡ sum_by (λ g. length (spans_of g)) groups
span_sum [] = refl
span_sum (group ∷ groups) = omega (arith, span_sum groups, length-append (spans_of group) (spans_in groups), sum_by-cons (λ g. length (spans_of g)) group groups)

module _ (groups : List PooledState) where
  pub permuted : IsPermutation groups (in_order groups)
  permuted = IsPermutation-arranged head_rank groups

  pub pages-in_order : length (filter paged (in_order groups)) ≡ length (filter paged groups)
  pages-in_order = paged_sum (in_order groups) ∙ sum_by-IsPermutation (λ g. cond (paged g) 1 0) groups (in_order groups) permuted ∙ sym (paged_sum groups)

  pub live-in_order : live_count (spans_in (filter paged (in_order groups))) ≡ live_count (spans_in (filter paged groups))
  live-in_order = live_sum (in_order groups) ∙ sum_by-IsPermutation (λ g. cond (paged g) (live_of g) 0) groups (in_order groups) permuted ∙ sym (live_sum groups)

  pub spans-in_order : length (spans_in (in_order groups)) ≡ length (spans_in groups)
  spans-in_order = span_sum (in_order groups) ∙ sum_by-IsPermutation (λ g. length (spans_of g)) groups (in_order groups) permuted ∙ sym (span_sum groups)

-- those that pass a test are the same, in whatever order
module _ {X : Type 0} (p : X → Bool) where
  filter-insert : (xs : List X) (at : ℕ) (x : X) → IsPermutation (filter p (x ∷ xs)) (filter p (insert xs at x))
  filter-insert xs zero x = IsPermutation-refl (filter p (x ∷ xs))
  filter-insert [] (suc at) x = IsPermutation-refl (filter p (x ∷ []))
  filter-insert (y ∷ xs) (suc at) x = by_tests (p x) (p y) (filter-insert xs at x)
    where
      by_tests : (b c : Bool) → IsPermutation (cond b (x ∷ filter p xs) (filter p xs)) (filter p (insert xs at x))
          → IsPermutation (cond b (x ∷ cond c (y ∷ filter p xs) (filter p xs)) (cond c (y ∷ filter p xs) (filter p xs))) (cond c (y ∷ filter p (insert xs at x)) (filter p (insert xs at x)))
      by_tests true true rest = IsPermutation-trans (x ∷ y ∷ filter p xs) (y ∷ x ∷ filter p xs) (y ∷ filter p (insert xs at x))
          (IsPermutation-sym (y ∷ x ∷ filter p xs) (x ∷ y ∷ filter p xs) (IsPermutation-middle (y ∷ []) x (filter p xs)))
          (IsPermutation-cons y (x ∷ filter p xs) (filter p (insert xs at x)) rest)
      by_tests false true rest = IsPermutation-cons y (filter p xs) (filter p (insert xs at x)) rest
      by_tests b c rest = rest

  pub filter-arranged : (key : X → ℕ) (xs : List X) → IsPermutation (filter p xs) (filter p (arranged key xs))
  filter-arranged key [] = IsPermutation-refl []
  filter-arranged key (x ∷ xs) = IsPermutation-trans (filter p (x ∷ xs)) (filter p (x ∷ arranged key xs)) (filter p (arranged key (x ∷ xs)))
      (one_more (p x) (filter-arranged key xs)) (filter-insert (arranged key xs) (lower key (key x) (arranged key xs)) x)
    where
      one_more : (b : Bool) → IsPermutation (filter p xs) (filter p (arranged key xs))
          → IsPermutation (cond b (x ∷ filter p xs) (filter p xs)) (cond b (x ∷ filter p (arranged key xs)) (filter p (arranged key xs)))
      one_more true rest = IsPermutation-cons x (filter p xs) (filter p (arranged key xs)) rest
      one_more false rest = rest

-- the spans of the groups are the same, in whatever order these stand
IsPermutation-spans_insert : (groups : List PooledState) (at : ℕ) (group : PooledState) → IsPermutation (spans_of group ++ spans_in groups) (spans_in (insert groups at group))
IsPermutation-spans_insert groups at group =
    let parts = put_in spans_of groups at group in
    let its = spans_of group in
    let moved : IsPermutation ((its ++ parts.left) ++ parts.right) ((parts.left ++ its) ++ parts.right) =
    IsPermutation-append_left parts.right (its ++ parts.left) (parts.left ++ its) (IsPermutation-append_comm its parts.left) in
    subst (λ spans. IsPermutation spans (spans_in (insert groups at group))) (append_assoc its parts.left parts.right ∙ ap (λ spans. its ++ spans) (sym parts.whole))
    (subst (IsPermutation ((its ++ parts.left) ++ parts.right)) (append_assoc parts.left its parts.right ∙ sym parts.after) moved)

pub IsPermutation-spans : (groups : List PooledState) → IsPermutation (spans_in groups) (spans_in (in_order groups))
IsPermutation-spans [] = IsPermutation-refl []
IsPermutation-spans (group ∷ groups) = IsPermutation-trans (spans_of group ++ spans_in groups) (spans_of group ++ spans_in (in_order groups)) (spans_in (in_order (group ∷ groups)))
    (IsPermutation-append_right (spans_of group) (spans_in groups) (spans_in (in_order groups)) (IsPermutation-spans groups))
    (IsPermutation-spans_insert (in_order groups) (lower head_rank (head_rank group) (in_order groups)) group)
