-- What is kept for a place.
use Rattle.trace_text.proofs.Names.{◌≡◌, ℕ, zero, suc, ◌+◌, ◌<◌, ◌≤◌, true, false, List, [], ◌∷◌, ◌++◌, length, get_or, map, Some, None, slice_get, arith, refl, ap, ◌∙◌, ◌⊎◌, inl, inr, rules, find, range_with_len, option_map_or, nat_tests, fill_by_all, get_or-map-range_with_len, length-map-range_with_len, map-range_with_len_more, find-append, find_at, position_or_len_is, get_or_from_slice_get, slice_get-get_or, slice_get_within, AreInOrder, is_at, line_kept, KeptLine, Option, cases_eq, cases_lt}
use Rattle.trace_text.proofs.Bindings.{or_none}

-- a list made of all numbers below another, at one of them
slice_get-map-range : {X : Type 0} (f : ℕ → X) (n i : ℕ) → i < n → slice_get (map f (range_with_len 0 n)) i ≡ Some (f i)
slice_get-map-range f n i less =
    slice_get-get_or (map f (range_with_len 0 n)) i (f i) (omega (arith, length-map-range_with_len f 0 n)) ∙ ap Some (get_or-map-range_with_len f 0 n i i (f i) less (omega arith))

-- what is kept for another place is not at this one
apart : (a : KeptLine) (place : ℕ) → (a.place ≡ place → ⊥) → is_at place a ≡ false
apart a place other = grind (arith, nat_tests)

there : (a : KeptLine) (place : ℕ) → a.place ≡ place → is_at place a ≡ true
there a place same = grind (arith, nat_tests)

-- what is kept for the place is the one that is found
pub find-kept : (kept : List KeptLine) (count index place : ℕ) (one : KeptLine) → AreInOrder kept count → slice_get kept index ≡ Some one → one.place ≡ place → find (is_at place) kept ≡ Some one
find-kept kept count index place one order here same =
    let within : index < length kept = slice_get_within kept index one here in
    find_at (is_at place) kept
    ∙ ap (slice_get kept) (position_or_len_is (is_at place) kept index one (omega arith)
    (λ k below. apart (get_or kept k one) place (λ clash. omega (arith, clash, same, order.ascend k index (get_or kept k one) one below (slice_get-get_or kept k one (omega arith)) here)))
    (λ _. ap (is_at place) (get_or_from_slice_get kept index one one here) ∙ there one place same))
    ∙ here

-- where nothing is kept for the place, nothing is found
pub find-none : (kept : List KeptLine) (place : ℕ) → ((n : ℕ) (a : KeptLine) → slice_get kept n ≡ Some a → a.place ≡ place → ⊥) → find (is_at place) kept ≡ None
find-none [] place none = refl
find-none (a ∷ rest) place none =
    rw (apart a place (none 0 a refl)) (find-none rest place (λ n b here. none (suc n) b here))

-- of lines in order nothing is kept for a place where those above it end and the next is kept for another one
pub find-between : (kept : List KeptLine) (count index place : ℕ) → AreInOrder kept count
    → ((n : ℕ) (a : KeptLine) → n < index → slice_get kept n ≡ Some a → a.place < place)
    → ((n : ℕ) (a : KeptLine) → index ≤ n → slice_get kept n ≡ Some a → place ≤ a.place)
    → ((a : KeptLine) → slice_get kept index ≡ Some a → a.place ≡ place → ⊥) → find (is_at place) kept ≡ None
find-between kept count index place order above below next = find-none kept place (λ n a here same. elim (cases_lt n index) [
  | inl less ↦ omega (arith, same, above n a less here)
  | inr rest ↦ elim (cases_eq index n) [
    | inl equal ↦ next a (ap (slice_get kept) equal ∙ here) same
    | inr apart ↦
        let within : index < length kept = omega (arith, rest, slice_get_within kept n a here) in
        let first = slice_get-get_or kept index a within in
        omega (arith, same, below index (get_or kept index a) (omega arith) first, order.ascend index n (get_or kept index a) a (omega (arith, rest, apart)) first here)
  ]
])

-- what stands in a list with one more at its end
slice_get-push : {X : Type 0} (xs : List X) (y : X) (n : ℕ) (x : X) → slice_get (xs ++ y ∷ []) n ≡ Some x → (slice_get xs n ≡ Some x) ⊎ ((n ≡ length xs) × (x ≡ y))
slice_get-push [] y zero x here = inr (refl, cc)
slice_get-push [] y (suc n) x here = absurd cc
slice_get-push (z ∷ zs) y zero x here = inl here
slice_get-push (z ∷ zs) y (suc n) x here = search (rules, (slice_get-push zs y n x here))

-- lines in order are so among one more
pub AreInOrder-more : (kept : List KeptLine) (count : ℕ) → AreInOrder kept count → AreInOrder kept (count + 1)
AreInOrder-more kept count order = search (rules)

-- and so are they with one for the next place
pub AreInOrder-push : (kept : List KeptLine) (count : ℕ) (new : KeptLine) → new.place ≡ count → AreInOrder kept count → AreInOrder (kept ++ new ∷ []) (count + 1)
AreInOrder-push kept count new is order = search (rules, slice_get-push, slice_get_within)

-- two functions that agree below a number make the same list
map-range-same : {X : Type 0} (d : X) (f g : ℕ → X) (n : ℕ) → ((i : ℕ) → i < n → f i ≡ g i) → map f (range_with_len 0 n) ≡ map g (range_with_len 0 n)
map-range-same d f g n same = fill_by_all g (map f (range_with_len 0 n)) n d (length-map-range_with_len f 0 n) (λ k less. get_or-map-range_with_len f 0 n k k d less (omega arith) ∙ same k less)

-- what was found is found in a list with one more for another place
find-old : (kept : List KeptLine) (new : KeptLine) (place : ℕ) → (new.place ≡ place → ⊥) → find (is_at place) (kept ++ new ∷ []) ≡ find (is_at place) kept
find-old kept new place other = search (rules, find-append, find-none, or_none)

-- nothing is kept for the place below the last line
find-next : (kept : List KeptLine) (count : ℕ) → AreInOrder kept count → find (is_at count) kept ≡ None
find-next kept count order = find-none kept count (λ n a here same. omega (arith, same, order.below n a here))

find-new : (kept : List KeptLine) (count : ℕ) (new : KeptLine) → new.place ≡ count → AreInOrder kept count → find (is_at count) (kept ++ new ∷ []) ≡ Some new
find-new kept count new is order = search (rules, find-append, find-next, there)

-- a line more, of which something is kept
module _ {X : Type 0} (d : X) (f : KeptLine → X) where
  pub map-kept-push : (kept : List KeptLine) (count : ℕ) (new : KeptLine) → new.place ≡ count → AreInOrder kept count
      → map (λ place. option_map_or f (find (is_at place) (kept ++ new ∷ [])) d) (range_with_len 0 (count + 1))
      ≡ map (λ place. option_map_or f (find (is_at place) kept) d) (range_with_len 0 count) ++ f new ∷ []
  map-kept-push kept count new is order =
      map-range_with_len_more (λ place. option_map_or f (find (is_at place) (kept ++ new ∷ [])) d) 0 count count (omega arith)
      ∙ ap (λ xs. xs ++ option_map_or f (find (is_at count) (kept ++ new ∷ [])) d ∷ [])
      (map-range-same d _ _ count (λ i less. ap (λ o. option_map_or f o d) (find-old kept new i (λ same. omega (arith, same, is, less)))))
      ∙ ap (λ o. map (λ place. option_map_or f (find (is_at place) kept) d) (range_with_len 0 count) ++ option_map_or f o d ∷ []) (find-new kept count new is order)

  -- and one of which nothing is
  pub map-kept-more : (kept : List KeptLine) (count : ℕ) → AreInOrder kept count
      → map (λ place. option_map_or f (find (is_at place) kept) d) (range_with_len 0 (count + 1)) ≡ map (λ place. option_map_or f (find (is_at place) kept) d) (range_with_len 0 count) ++ d ∷ []
  map-kept-more kept count order =
      map-range_with_len_more (λ place. option_map_or f (find (is_at place) kept) d) 0 count count (omega arith)
      ∙ ap (λ o. map (λ place. option_map_or f (find (is_at place) kept) d) (range_with_len 0 count) ++ option_map_or f o d ∷ []) (find-next kept count order)

  -- what stands at a place
  pub kept_at : (kept : List KeptLine) (count place : ℕ) (o : Option KeptLine) → place < length (map (line_kept kept) (range_with_len 0 count)) → find (is_at place) kept ≡ o
      → slice_get (map (λ other. option_map_or f (find (is_at other) kept) d) (range_with_len 0 count)) place ≡ Some (option_map_or f o d)
  kept_at kept count place o less found =
      slice_get-map-range (λ other. option_map_or f (find (is_at other) kept) d) count place (omega (arith, less, length-map-range_with_len (line_kept kept) 0 count))
      ∙ ap (λ p. Some (option_map_or f p d)) found
