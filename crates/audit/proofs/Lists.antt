-- Steps of walks over lists, and over lists of lists.
use Rattle.std.proofs.Common.{◌≡◌, ℕ, ◌+◌, ◌<◌, ◌≤◌, List, [], ◌∷◌, ◌++◌, map, length, get_or, Some, option_map, slice_get, sym, ap, refl, ◌∙◌, arith, rules}
use Rattle.std.proofs.lemmas.Bool.{cases_lt}
use Rattle.std.proofs.lemmas.List.{get_or-map, get_or_past, length-map, map-append}
use Rattle.std.proofs.lemmas.Option.{same_Some, slice_get_within, slice_get-get_or, slice_get-map, slice_get_read}
use Rattle.audit.proofs.Flat.{get_cases}

module _ {X : Type 0} (P : X → Type 0) (xs : List X) (n : ℕ) where
  pub each_more : (x : X) → ((k : ℕ) (y : X) → k < n → slice_get xs k ≡ Some y → P y) → slice_get xs n ≡ Some x → P x
      → (k : ℕ) (y : X) → k < n + 1 → slice_get xs k ≡ Some y → P y
  each_more x before at here k y fits at_k = search (rules, cases_lt, same_Some)

  pub each_all : ((k : ℕ) (y : X) → k < n → slice_get xs k ≡ Some y → P y) → length xs ≤ n → (k : ℕ) (y : X) → slice_get xs k ≡ Some y → P y
  each_all before past k y at_k = before k y (let within = slice_get_within xs k y at_k in omega arith) at_k

module _ {X Y : Type 0} (f : X → List Y) (P : List Y → Type 0) (xs : List X) (n : ℕ) where
  pub list_at : (x : X) → n < length xs → x ≡ get_or xs n x → get_or (map f xs) n [] ≡ f x
  list_at x inside is = get_or-map f xs n x [] inside ∙ ap f (sym is)

  pub lists_more : (x : X) → n < length xs → x ≡ get_or xs n x → ((w : ℕ) → w < n → P (get_or (map f xs) w [])) → P (f x)
      → (w : ℕ) → w < n + 1 → P (get_or (map f xs) w [])
  lists_more x inside is before here w fits = search (rules, cases_lt, list_at)

  pub lists_all : ((w : ℕ) → w < n → P (get_or (map f xs) w [])) → length xs ≤ n → P [] → (w : ℕ) → P (get_or (map f xs) w [])
  lists_all before past none w = search (rules, cases_lt, get_or_past, length-map)

-- a read inside a list is the same whatever is said of the places past its end
pub read_at : {X : Type 0} (xs : List X) (q : ℕ) (v d : X) → q < length xs → v ≡ get_or xs q v → v ≡ get_or xs q d
read_at xs q v d inside read = read ∙ same_Some (get_or xs q v) (get_or xs q d) (sym (slice_get-get_or xs q v inside) ∙ slice_get-get_or xs q d inside)

-- the list of an element that was read at an index
pub row_at : {X Y : Type 0} (f : X → List Y) (xs : List X) (n : ℕ) (x : X) → n < length xs → x ≡ get_or xs n x → slice_get (map f xs) n ≡ Some (f x)
row_at f xs n x inside is = slice_get-map f xs n ∙ ap (option_map f) (slice_get_read xs (length xs) n x refl inside is)

-- one more row, for the element at the next index
pub rows_more : {X V Y : Type 0} (f : V → List Y) (P : X → List Y → Type 0) (xs : List X) (rows : List V) (x : X) (row : V) (n : ℕ) → slice_get xs n ≡ Some x → length rows ≡ n
    → ((j : ℕ) (y : X) (l : List Y) → slice_get xs j ≡ Some y → slice_get (map f rows) j ≡ Some l → P y l) → P x (f row)
    → (more : List V) → more ≡ rows ++ row ∷ [] → (j : ℕ) (y : X) (l : List Y) → slice_get xs j ≡ Some y → slice_get (map f more) j ≡ Some l → P y l
rows_more f P xs rows x row n at same before here more is j y l at_y at_l = search (rules, map-append, length-map, get_cases, same_Some)

-- each element of the list
abbrev pub AllOf : {X : Type 0} → (X → Type 0) → List X → Type 0
AllOf {X} P list = (i : ℕ) (x : X) → slice_get list i ≡ Some x → P x
