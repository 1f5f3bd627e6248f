-- Lists whose elements stand in no order, and the order that names their places.
use Rattle.std.proofs.Common.{zero, suc, ◌≡◌, ◌≢◌, ℕ, ◌+◌, ◌<◌, ◌≤◌, Bool, true, false, cond, List, [], ◌∷◌, ◌++◌, inl, inr, refl, sym, ap, subst, ◌∙◌, arith, length, insert, map, Some, get_or, set, take, slice_get, nat_lt}
use Rattle.std.specs.Prelude.{count_by, filter, nat_eq, remove}
use Rattle.std.specs.List.{cons_option, swap}
use Rattle.std.proofs.lemmas.Bool.{cases_eq, cases_lt, eq-eqb, eqb-true, le-ltb, lt-ltb, ne_eqb, true≢false}
use Rattle.std.proofs.lemmas.List.{append-nil, drop_all, ext_get_or, get_or-map, get_or-set_other, get_or-set_same, get_or-take, get_or_append_left, get_or_push, length-append, length-map, length-set, length-take-le, take_all, take_more}
use Rattle.std.proofs.lemmas.List.Edits.{Swapped, length-remove, length-swap, swapped_from_swap}
use Rattle.std.proofs.lemmas.List.Sorted.{IsPermutation-swap, sum_by-IsPermutation}
use Rattle.std.proofs.lemmas.Option.{get_or_from_slice_get, slice_get-get_or, slice_get_read, slice_get_within}
use Rattle.groups.proofs.Lists.{count-cons, count-insert, count-some, count-two, length_insert, none_where, one_where, same_some, there_at}
use Rattle.groups.proofs.Removed.{count-remove, none_or_some}
use Rattle.shard.specs.Row.{IsOrder, in_order}

-- each number of the list is below the count
abbrev pub AreBelow : ℕ → List ℕ → Type 0
AreBelow count order = (at place : ℕ) → slice_get order at ≡ Some place → place < count

-- at places of the list its order is a map
pub in_order-map : {X : Type 0} (d : X) (list : List X) (order : List ℕ) → AreBelow (length list) order → in_order list order ≡ map (λ place. get_or list place d) order
in_order-map d list [] below = refl
in_order-map d list (place ∷ order) below =
    rw (slice_get-get_or list place d (below 0 place refl)) (ap (λ rest. get_or list place d ∷ rest) (in_order-map d list order (λ at other here. below (suc at) other here)))

pub length-in_order : {X : Type 0} (list : List X) (order : List ℕ) → AreBelow (length list) order → length (in_order list order) ≡ length order
length-in_order list [] below = refl
length-in_order list (place ∷ order) below =
    let there = there_at list place (below 0 place refl) in
    rw (there.1) (ap suc (length-in_order list order (λ at other here. below (suc at) other here)))

-- what stands at an index stands at the place that the order has there
pub get-in_order : {X : Type 0} (list : List X) (order : List ℕ) → AreBelow (length list) order → (index place : ℕ) → slice_get order index ≡ Some place → slice_get (in_order list order) index ≡ slice_get list place
get-in_order list [] below index place here = absurd cc
get-in_order list (first ∷ order) below zero place here =
    let there = there_at list first (below 0 first refl) in
    rw (there.1, ← same_some here) (sym there.1)
get-in_order list (first ∷ order) below (suc index) place here =
    let there = there_at list first (below 0 first refl) in
    rw (there.1) (get-in_order list order (λ at other is. below (suc at) other is) index place here)

-- the maps of two functions that agree on each element
pub map-agree : {X Y : Type 0} (f g : X → Y) (xs : List X) → ((at : ℕ) (x : X) → slice_get xs at ≡ Some x → f x ≡ g x) → map f xs ≡ map g xs
map-agree f g [] same = refl
map-agree f g (x ∷ xs) same = rw (same 0 x refl) (ap (λ rest. g x ∷ rest) (map-agree f g xs (λ at y here. same (suc at) y here)))

pub map-insert : {X Y : Type 0} (f : X → Y) (xs : List X) (at : ℕ) (x : X) → map f (insert xs at x) ≡ insert (map f xs) at (f x)
map-insert f xs zero x = refl
map-insert f [] (suc at) x = refl
map-insert f (y ∷ xs) (suc at) x = ap (λ rest. f y ∷ rest) (map-insert f xs at x)

pub map-remove : {X Y : Type 0} (f : X → Y) (xs : List X) (at : ℕ) → map f (remove xs at) ≡ remove (map f xs) at
map-remove f [] zero = refl
map-remove f [] (suc at) = refl
map-remove f (y ∷ xs) zero = refl
map-remove f (y ∷ xs) (suc at) = ap (λ rest. f y ∷ rest) (map-remove f xs at)

module _ (count : ℕ) (order : List ℕ) (is : IsOrder count order) where
  -- each entry is one of the places
  pub below_count : AreBelow count order
  below_count at place here = elim (cases_lt place count) [
    | inl low ↦ low
    | inr high ↦ absurd (omega (arith, is.no_other place high, count-some (nat_eq place) order at place here (eq-eqb place place refl)))
  ]

  -- no place has two entries
  pub one_index : (low high place : ℕ) → slice_get order low ≡ Some place → slice_get order high ≡ Some place → low ≡ high
  one_index low high place here there =
      let same : nat_eq place place ≡ true = eq-eqb place place refl in
      let within = is.once place (below_count low place here) in
      elim (cases_lt low high) [
        | inl less ↦ absurd (omega (arith, within, count-two (nat_eq place) order low high place place less here there same same))
        | inr more ↦ elim (cases_lt high low) [
          | inl less ↦ absurd (omega (arith, within, count-two (nat_eq place) order high low place place less there here same same))
          | inr less ↦ omega arith
        ]
      ]

  -- each place has an entry
  pub index_of : (place : ℕ) → place < count → (index : ℕ) × (slice_get order index ≡ Some place)
  index_of place low = elim (none_or_some (nat_eq place) order) [
    | inl none ↦ absurd (omega (arith, none, is.once place low))
    | inr (at, x, here, same) ↦ (at, rw (eqb-true place x same) here)
  ]

  -- the next place comes in anywhere
  pub IsOrder-insert : (index : ℕ) → IsOrder (count + 1) (insert order index count)
  IsOrder-insert index = record {
    many = omega (arith, length_insert order index count, is.many);
    once = λ place low. elim (cases_eq place count) [
      | inl same ↦ omega (arith, count-insert (nat_eq place) order index count, one_where (nat_eq place count) (eq-eqb place count same), is.no_other place (omega arith))
      | inr apart ↦ omega (arith, count-insert (nat_eq place) order index count, none_where (nat_eq place count) (ne_eqb place count apart), is.once place (omega arith))
    ];
    no_other = λ place high. omega (arith, count-insert (nat_eq place) order index count, none_where (nat_eq place count) (ne_eqb place count (λ e. omega arith)), is.no_other place (omega arith));
  }

-- the last place goes
pub IsOrder-remove : (count : ℕ) (order : List ℕ) → IsOrder (count + 1) order → (index : ℕ) → slice_get order index ≡ Some count → IsOrder count (remove order index)
IsOrder-remove count order is index here = record {
  many = omega (arith, length-remove order index (slice_get_within order index count here), is.many);
  once = λ place low. omega (arith, count-remove (nat_eq place) order index count here, none_where (nat_eq place count) (ne_eqb place count (λ e. omega arith)), is.once place (omega arith));
  no_other = λ place high. elim (cases_eq place count) [
    | inl same ↦ omega (arith, count-remove (nat_eq place) order index count here, one_where (nat_eq place count) (eq-eqb place count same), is.once place (omega arith))
    | inr apart ↦ omega (arith, count-remove (nat_eq place) order index count here, none_where (nat_eq place count) (ne_eqb place count apart), is.no_other place (omega arith))
  ];
}

module _ {X : Type 0} (list : List X) (order : List ℕ) (is : IsOrder (length list) order) where
  below : AreBelow (length list) order
  below = below_count (length list) order is

  -- another element comes to a place of the list: it stands at one index
  pub in_order-set : (index place : ℕ) → slice_get order index ≡ Some place → (x : X) → in_order (set list place x) order ≡ set (in_order list order) index x
  in_order-set index place here x =
      let within = slice_get_within order index place here in
      let now : AreBelow (length (set list place x)) order = λ at other there. rw (length-set list place x) (below at other there) in
      rw (in_order-map x (set list place x) order now, in_order-map x list order below)
      (ext_get_or x (map (λ p. get_or (set list place x) p x) order) (set (map (λ p. get_or list p x) order) index x)
      (length-map order (λ p. get_or (set list place x) p x) ∙ sym (length-set (map (λ p. get_or list p x) order) index x ∙ length-map order (λ p. get_or list p x)))
      (λ at low.
      let at_low : at < length order = omega (arith, length-map order (λ p. get_or (set list place x) p x)) in
      let there = there_at order at at_low in
      let read : get_or order at 0 ≡ there.0 = get_or_from_slice_get order at there.0 0 there.1 in
      get_or-map (λ p. get_or (set list place x) p x) order at 0 x at_low
      ∙ elim (cases_eq at index) [
        | inl same ↦
            let place_is : there.0 ≡ place = same_some (sym there.1 ∙ ap (slice_get order) same ∙ here) in
            rw (read, place_is, same)
            (get_or-set_same list place x x (below index place here) ∙ sym (get_or-set_same (map (λ p. get_or list p x) order) index x x (rw (length-map order (λ p. get_or list p x)) within)))
        | inr apart ↦
            let other : there.0 ≢ place = λ e. apart (one_index (length list) order is at index place (there.1 ∙ ap Some e) here) in
            rw read
            (get_or-set_other list place there.0 x x other
            ∙ sym (get_or-set_other (map (λ p. get_or list p x) order) index at x x apart ∙ get_or-map (λ p. get_or list p x) order at 0 x at_low ∙ ap (λ p. get_or list p x) read))
      ]))

  -- an element comes to the end of the list, and to an index of the order
  pub in_order-insert : (index : ℕ) (x : X) → in_order (list ++ x ∷ []) (insert order index (length list)) ≡ insert (in_order list order) index x
  in_order-insert index x =
      let now : AreBelow (length (list ++ x ∷ [])) (insert order index (length list)) =
      rw (length-append list (x ∷ [])) (below_count (length list + 1) (insert order index (length list)) (IsOrder-insert (length list) order is index)) in
      rw (in_order-map x (list ++ x ∷ []) (insert order index (length list)) now, in_order-map x list order below)
      (map-insert (λ p. get_or (list ++ x ∷ []) p x) order index (length list)
      ∙ ap (λ y. insert (map (λ p. get_or (list ++ x ∷ []) p x) order) index y) (get_or_push list x x (length list) refl)
      ∙ ap (λ xs. insert xs index x) (map-agree (λ p. get_or (list ++ x ∷ []) p x) (λ p. get_or list p x) order (λ at p here. get_or_append_left list (x ∷ []) x p (below at p here))))

-- the element at the last place goes, and its index
pub in_order-remove : {X : Type 0} (list : List X) (last : ℕ) → length list ≡ last + 1 → (order : List ℕ) → IsOrder (length list) order → (index : ℕ) → slice_get order index ≡ Some last
    → in_order (take last list) (remove order index) ≡ remove (in_order list order) index
in_order-remove [] last many order is index here = absurd (omega arith)
in_order-remove (d ∷ ds) last many order is index here =
    let list = d ∷ ds in
    let left = IsOrder-remove last order (subst (λ n. IsOrder n order) many is) index here in
    let rest = below_count last (remove order index) left in
    let taken : length (take last list) ≡ last = length-take-le last list (omega arith) in
    rw (in_order-map d (take last list) (remove order index) (rw taken rest), in_order-map d list order (below_count (length list) order is))
    (map-agree (λ p. get_or (take last list) p d) (λ p. get_or list p d) (remove order index) (λ at p there. get_or-take last list p d (rest at p there))
    ∙ map-remove (λ p. get_or list p d) order index)

module _ {X : Type 0} (list : List X) (order : List ℕ) (is : IsOrder (length list) order) where
  -- there are as many indexes as elements
  pub length_order : length (in_order list order) ≡ length order
  length_order = length-in_order list order (below_count (length list) order is)

  -- what is read of the order at an index is a place of the list, at which that element stands
  pub place_read : (index place : ℕ) → index < length (in_order list order) → place ≡ get_or order index place → slice_get order index ≡ Some place
  place_read index place low read = slice_get_read order (length order) index place refl (omega (arith, length_order)) read

  pub place_within : (index place : ℕ) → index < length (in_order list order) → place ≡ get_or order index place → place < length list
  place_within index place low read = below_count (length list) order is index place (place_read index place low read)

  pub element_read : (index place : ℕ) → index < length (in_order list order) → place ≡ get_or order index place → (x : X) → x ≡ get_or list place x → x ≡ get_or (in_order list order) index x
  element_read index place low read x here =
      let stands = get-in_order list order (below_count (length list) order is) index place (place_read index place low read) in
      sym (get_or_from_slice_get (in_order list order) index x x (stands ∙ slice_get_read list (length list) place x refl (place_within index place low read) here))

-- two elements change places in the list, and their indexes with them
pub get_or-swap : {X : Type 0} (xs : List X) (i j : ℕ) (d : X) → i < length xs → j < length xs → Swapped (λ at. get_or xs at d) (λ at. get_or (swap xs i j) at d) i j
get_or-swap xs i j d low high = swapped_from_swap xs (swap xs i j) i j d low high refl

pub IsOrder-swap : (count : ℕ) (order : List ℕ) → IsOrder count order → (i j : ℕ) → i < length order → j < length order → IsOrder count (swap order i j)
IsOrder-swap count order is i j low high =
    let shuffled = IsPermutation-swap order (swap order i j) i j low high refl in
    record {
      many = length-swap order i j ∙ is.many;
      once = λ place within. sum_by-IsPermutation (λ x. cond (nat_eq place x) 1 0) order (swap order i j) shuffled ∙ is.once place within;
      no_other = λ place past. sum_by-IsPermutation (λ x. cond (nat_eq place x) 1 0) order (swap order i j) shuffled ∙ is.no_other place past;
    }

pub length_swapped : {X : Type 0} (xs : List X) (i j : ℕ) → length (swap xs i j) ≡ length xs
length_swapped xs i j = length-swap xs i j

pub in_order-swap : {X : Type 0} (list : List X) (order : List ℕ) → IsOrder (length list) order → (first second place other : ℕ) → slice_get order first ≡ Some place → slice_get order second ≡ Some other
    → in_order (swap list place other) (swap order first second) ≡ in_order list order
in_order-swap {X} list order is first second place other here there =
    let d = there_at list place (below_count (length list) order is first place here) in
    let x = d.0 in
    let old = below_count (length list) order is in
    let low = slice_get_within order first place here in
    let high = slice_get_within order second other there in
    let now : AreBelow (length (swap list place other)) (swap order first second) =
    rw (length-swap list place other) (below_count (length list) (swap order first second) (IsOrder-swap (length list) order is first second low high)) in
    let read_place = get_or_from_slice_get order first place 0 here in
    let read_other = get_or_from_slice_get order second other 0 there in
    let places = get_or-swap order first second 0 low high in
    let elements = get_or-swap list place other x (old first place here) (old second other there) in
    rw (in_order-map x (swap list place other) (swap order first second) now, in_order-map x list order old)
    (ext_get_or x (map (λ p. get_or (swap list place other) p x) (swap order first second)) (map (λ p. get_or list p x) order)
    (length-map (swap order first second) (λ p. get_or (swap list place other) p x) ∙ length-swap order first second ∙ sym (length-map order (λ p. get_or list p x)))
    (λ at within.
    let inside : at < length order = omega (arith, length-map (swap order first second) (λ p. get_or (swap list place other) p x), length-swap order first second) in
    get_or-map (λ p. get_or (swap list place other) p x) (swap order first second) at 0 x (omega (arith, inside, length-swap order first second))
    ∙ moved at inside x places elements read_place read_other
    ∙ sym (get_or-map (λ p. get_or list p x) order at 0 x inside)))
  where
    moved : (at : ℕ) → at < length order → (x : X) → Swapped (λ i. get_or order i 0) (λ i. get_or (swap order first second) i 0) first second
        → Swapped (λ i. get_or list i x) (λ i. get_or (swap list place other) i x) place other → get_or order first 0 ≡ place → get_or order second 0 ≡ other
        → get_or (swap list place other) (get_or (swap order first second) at 0) x ≡ get_or list (get_or order at 0) x
    moved at inside x places elements read_place read_other = elim (cases_eq at first) [
      | inl same ↦ rw (same, places.0, read_other, read_place) elements.1
      | inr apart ↦ elim (cases_eq at second) [
        | inl same ↦ rw (same, places.1, read_other, read_place) elements.0
        | inr other_place ↦ rw (places.2 at apart other_place) (elements.2 (get_or order at 0)
            (λ e. apart (one_index (length list) order is at first place (slice_get-get_or order at 0 inside ∙ ap Some e) here))
            (λ e. other_place (one_index (length list) order is at second other (slice_get-get_or order at 0 inside ∙ ap Some e) there)))
      ]
    ]

-- the element that is read at the place of an index stands there
pub element_at : {X : Type 0} (list : List X) (order : List ℕ) → IsOrder (length list) order → (index : ℕ) → index < length order → (x : X) → x ≡ get_or list (get_or order index 0) x
    → slice_get (in_order list order) index ≡ Some x
element_at list order is index low x read =
    let at = slice_get-get_or order index 0 low in
    get-in_order list order (below_count (length list) order is) index (get_or order index 0) at
    ∙ slice_get_read list (length list) (get_or order index 0) x refl (below_count (length list) order is index (get_or order index 0) at) read

-- the first places alone

-- an order is as long as it has places
pub many_places : (count : ℕ) (order : List ℕ) → ((place : ℕ) → place < count → count_by (nat_eq place) order ≡ 1) → ((place : ℕ) → count ≤ place → count_by (nat_eq place) order ≡ 0) → length order ≡ count
many_places zero [] once no_other = refl
many_places zero (place ∷ order) once no_other = absurd (omega (arith, no_other place (omega arith), count-some (nat_eq place) (place ∷ order) 0 place refl (eq-eqb place place refl)))
many_places (suc count) order once no_other = elim (none_or_some (nat_eq count) order) [
  | inl none ↦ absurd (omega (arith, none, once count (omega arith)))
  | inr (at, x, here, same) ↦
      let is : slice_get order at ≡ Some count = rw (eqb-true count x same) here in
      let rest = many_places count (remove order at)
      (λ place low. omega (arith, count-remove (nat_eq place) order at count is, none_where (nat_eq place count) (ne_eqb place count (λ e. omega arith)), once place (omega arith)))
      (λ place high. elim (cases_eq place count) [
        | inl equal ↦ omega (arith, count-remove (nat_eq place) order at count is, one_where (nat_eq place count) (eq-eqb place count equal), once place (omega arith))
        | inr apart ↦ omega (arith, count-remove (nat_eq place) order at count is, none_where (nat_eq place count) (ne_eqb place count apart), no_other place (omega arith))
      ]) in
      omega (arith, rest, length-remove order at (slice_get_within order at count is))
]

-- a test that another test implies counts the same in what that one keeps
pub count-filter : {X : Type 0} (p keep : X → Bool) → ((x : X) → p x ≡ true → keep x ≡ true) → (xs : List X) → count_by p (filter keep xs) ≡ count_by p xs
count-filter p keep implies [] = refl
count-filter p keep implies (x ∷ xs) = by_test (keep x) refl (count-filter p keep implies xs)
  where
    by_test : (b : Bool) → keep x ≡ b → count_by p (filter keep xs) ≡ count_by p xs → count_by p (filter keep (x ∷ xs)) ≡ count_by p (x ∷ xs)
    by_test true kept rest = rw kept (omega (arith, count-cons p x (filter keep xs), count-cons p x xs, rest))
    by_test false out rest = rw out (omega (arith, count-cons p x xs, none_where (p x) (not_passed (p x) refl), rest))
      where
        not_passed : (b : Bool) → p x ≡ b → p x ≡ false
        not_passed true passes = absurd (true≢false (sym (implies x passes) ∙ out))
        not_passed false fails = fails

pub count-filter_none : {X : Type 0} (p keep : X → Bool) → ((x : X) → p x ≡ true → keep x ≡ false) → (xs : List X) → count_by p (filter keep xs) ≡ 0
count-filter_none p keep denies [] = refl
count-filter_none p keep denies (x ∷ xs) = by_test (keep x) refl (count-filter_none p keep denies xs)
  where
    by_test : (b : Bool) → keep x ≡ b → count_by p (filter keep xs) ≡ 0 → count_by p (filter keep (x ∷ xs)) ≡ 0
    by_test true kept rest = rw kept (omega (arith, count-cons p x (filter keep xs), none_where (p x) (not_passed (p x) refl), rest))
      where
        not_passed : (b : Bool) → p x ≡ b → p x ≡ false
        not_passed true passes = absurd (true≢false (sym kept ∙ denies x passes))
        not_passed false fails = fails
    by_test false out rest = rw out rest

pub IsOrder-cut : (count : ℕ) (order : List ℕ) → IsOrder count order → (kept : ℕ) → kept ≤ count → IsOrder kept (filter (λ place. nat_lt place kept) order)
IsOrder-cut count order is kept low =
    let once : (place : ℕ) → place < kept → count_by (nat_eq place) (filter (λ p. nat_lt p kept) order) ≡ 1 =
    λ place within. count-filter (nat_eq place) (λ p. nat_lt p kept) (λ x same. lt-ltb x kept (omega (arith, eqb-true place x same, within))) order ∙ is.once place (omega arith) in
    let none : (place : ℕ) → kept ≤ place → count_by (nat_eq place) (filter (λ p. nat_lt p kept) order) ≡ 0 =
    λ place past. count-filter_none (nat_eq place) (λ p. nat_lt p kept) (λ x same. le-ltb x kept (omega (arith, eqb-true place x same, past))) order in
    record { many = many_places kept (filter (λ place. nat_lt place kept) order) once none; once = once; no_other = none }

-- what passes a test stands at the places that pass another, so what is left stands at those
pub filter-in_order : {X : Type 0} (list : List X) (keep : X → Bool) (first : ℕ → Bool) (order : List ℕ) → AreBelow (length list) order
    → ((place : ℕ) (x : X) → slice_get list place ≡ Some x → first place ≡ keep x) → filter keep (in_order list order) ≡ in_order list (filter first order)
filter-in_order list keep first [] below same = refl
filter-in_order list keep first (place ∷ order) below same =
    let there = there_at list place (below 0 place refl) in
    by_test there.0 there.1 (first place) refl (filter-in_order list keep first order (λ at other here. below (suc at) other here) same)
  where
    by_test : (x : _) → slice_get list place ≡ Some x → (b : Bool) → first place ≡ b → filter keep (in_order list order) ≡ in_order list (filter first order)
        → filter keep (in_order list (place ∷ order)) ≡ in_order list (filter first (place ∷ order))
    by_test x here true passes rest = rw (here, passes, here, sym (same place x here) ∙ passes) (ap (λ l. x ∷ l) rest)
    by_test x here false fails rest = rw (here, fails, sym (same place x here) ∙ fails) rest

pub slice_get-take : {X : Type 0} (xs : List X) (kept at : ℕ) → at < kept → slice_get (take kept xs) at ≡ slice_get xs at
slice_get-take xs zero at low = absurd (omega arith)
slice_get-take [] (suc kept) at low = refl
slice_get-take (x ∷ xs) (suc kept) zero low = refl
slice_get-take (x ∷ xs) (suc kept) (suc at) low = slice_get-take xs kept at (omega arith)

-- the first elements of the list are enough for their places
pub in_order-take : {X : Type 0} (list : List X) (kept : ℕ) (order : List ℕ) → AreBelow kept order → kept ≤ length list → in_order (take kept list) order ≡ in_order list order
in_order-take list kept [] below low = refl
in_order-take list kept (place ∷ order) below low =
    rw (slice_get-take list kept place (below 0 place refl)) (ap (λ rest. cons_option (slice_get list place) rest) (in_order-take list kept order (λ at other here. below (suc at) other here) low))

-- a list stands in order where each place is its own index
pub in_order-lined_up : {X : Type 0} (list : List X) (order : List ℕ) → length order ≡ length list → ((at place : ℕ) → slice_get order at ≡ Some place → place ≡ at) → in_order list order ≡ list
in_order-lined_up [] [] many own = refl
in_order-lined_up [] (place ∷ order) many own = absurd (omega arith)
in_order-lined_up (d ∷ ds) order many own =
    let list = d ∷ ds in
    let below : AreBelow (length list) order = λ at place here. omega (arith, own at place here, slice_get_within order at place here, many) in
    rw (in_order-map d list order below)
    (ext_get_or d (map (λ p. get_or list p d) order) list (length-map order (λ p. get_or list p d) ∙ many)
    (λ at low.
    let inside : at < length order = omega (arith, length-map order (λ p. get_or list p d)) in
    let there = there_at order at inside in
    get_or-map (λ p. get_or list p d) order at 0 d inside ∙ ap (λ p. get_or list p d) (get_or_from_slice_get order at there.0 0 there.1 ∙ own at there.0 there.1)))

-- what is left where the last goes
pub remove-take : {X : Type 0} (xs : List X) (last : ℕ) → length xs ≡ last + 1 → remove xs last ≡ take last xs
remove-take xs last many = ap (λ rest. take last xs ++ rest) (drop_all (suc last) xs (omega arith)) ∙ append-nil (take last xs)

pub last_out : {X : Type 0} (xs : List X) (last : ℕ) (x : X) → length xs ≡ last + 1 → x ≡ get_or xs last x → xs ≡ remove xs last ++ x ∷ []
last_out xs last x many read =
    sym (take_all (last + 1) xs (omega arith)) ∙ take_more xs last x (omega arith) ∙ ap (λ y. take last xs ++ y ∷ []) (sym read)
    ∙ ap (λ rest. rest ++ x ∷ []) (sym (remove-take xs last many))

-- one more index is its own place
pub own_next : (order : List ℕ) (index : ℕ) → ((at place : ℕ) → at < index → slice_get order at ≡ Some place → place ≡ at) → slice_get order index ≡ Some index
    → (at place : ℕ) → at < index + 1 → slice_get order at ≡ Some place → place ≡ at
own_next order index own here at place low there = elim (cases_lt at index) [
  | inl before ↦ own at place before there
  | inr after ↦
      let same : at ≡ index = omega arith in
      same_some (sym there ∙ ap (slice_get order) same ∙ here) ∙ sym same
]

pub own_swap : (order : List ℕ) (index other : ℕ) → index < length order → slice_get order other ≡ Some index → ((at place : ℕ) → at < index → slice_get order at ≡ Some place → place ≡ at)
    → (at place : ℕ) → at < index + 1 → slice_get (swap order index other) at ≡ Some place → place ≡ at
own_swap order index other low there own at place below here =
    let high = slice_get_within order other index there in
    let moved = get_or-swap order index other 0 low high in
    let read : get_or (swap order index other) at 0 ≡ place = get_or_from_slice_get (swap order index other) at place 0 here in
    elim (cases_eq at index) [
      | inl same ↦ sym read ∙ ap (λ i. get_or (swap order index other) i 0) same ∙ moved.0 ∙ get_or_from_slice_get order other index 0 there ∙ sym same
      | inr apart ↦
          let before : at < index = least at index below apart in
          let elsewhere : at ≡ other → ⊥ = λ e. let is : index ≡ at = own at index before (ap (slice_get order) e ∙ there) in omega arith in
          own at place before (slice_get-get_or order at 0 (omega (arith, before, low)) ∙ ap Some (sym (moved.2 at apart elsewhere) ∙ read))
    ]
  where
    least : (at index : ℕ) → at < index + 1 → (at ≡ index → ⊥) → at < index
    least at index below apart = elim (cases_lt at index) [
      | inl before ↦ before
      | inr after ↦ absurd (apart (omega arith))
    ]

-- the place of the second index is at the first now
pub first_swapped : (order : List ℕ) (index other last : ℕ) → index < length order → slice_get order other ≡ Some last → slice_get (swap order index other) index ≡ Some last
first_swapped order index other last low there =
    slice_get-get_or (swap order index other) index 0 (omega (arith, low, length-swap order index other))
    ∙ ap Some ((get_or-swap order index other 0 low (slice_get_within order other last there)).0 ∙ get_or_from_slice_get order other last 0 there)
