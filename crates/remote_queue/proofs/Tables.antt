-- Tables by rows and by columns.
use Rattle.std.proofs.Common.{All, ◌≡◌, ℕ, zero, suc, ◌+◌, ◌<◌, ◌≤◌, List, [], ◌∷◌, ◌++◌, length, map, slice_index_or, slice_set, Some, None, ap, sym, ◌∙◌, refl, arith, length-append, rules}
use Rattle.std.specs.List.{slice_get}
use Rattle.std.proofs.lemmas.List.{get_or_append_left, get_or_past, get_or-map, map-set, map-append}
use Rattle.std.proofs.lemmas.Bool.{cases_order}
use Rattle.std.proofs.Math.Seq.{get_or-append_seam}
use Rattle.remote_queue.specs.Rings.{cell, with_row, AreLong}

module _ {T : Type 0} where
  pub with_no_row : (cs : List (List T)) → with_row cs [] ≡ cs
  with_no_row [] = refl
  with_no_row (c ∷ cs) = refl

  -- the next column goes on by the row's next entry
  pub with_next : (cs : List (List T)) (row : List T) (r : T) → length row < length cs
      → slice_set (with_row cs row) (length row) (slice_index_or (with_row cs row) (length row) [] ++ r ∷ []) ≡ with_row cs (row ++ r ∷ [])
  with_next [] row r short = absurd (omega arith)
  with_next (c ∷ cs) [] r short = ap (λ t. (c ++ r ∷ []) ∷ t) (sym (with_no_row cs))
  with_next (c ∷ cs) (q ∷ row) r short = ap (λ t. (c ++ q ∷ []) ∷ t) (with_next cs row r (omega arith))

  -- within a list that goes on, its own entries
  get_front : (xs ys : List T) (i : ℕ) → i < length xs → slice_get (xs ++ ys) i ≡ slice_get xs i
  get_front [] ys i below = absurd (omega arith)
  get_front (x ∷ xs) ys zero below = refl
  get_front (x ∷ xs) ys (suc i) below = get_front xs ys i (omega arith)

  get_last : (xs : List T) (x : T) → slice_get (xs ++ x ∷ []) (length xs) ≡ Some x
  get_last [] x = refl
  get_last (y ∷ xs) x = get_last xs x

  get_past : (xs : List T) (i : ℕ) → length xs ≤ i → slice_get xs i ≡ None
  get_past [] i past = refl
  get_past (x ∷ xs) zero past = absurd (omega arith)
  get_past (x ∷ xs) (suc i) past = get_past xs i (omega arith)

  -- in the columns that go on by a row, an earlier place is as it was
  pub earlier : (cs : List (List T)) (row : List T) (n s w : ℕ) → length row ≡ length cs → AreLong n cs → w < n → cell (with_row cs row) s w ≡ cell cs s w
  earlier (c ∷ cs) (r ∷ row) n zero w same all below = get_front c (r ∷ []) w (omega (arith, all.0))
  earlier (c ∷ cs) (r ∷ row) n (suc s) w same all below = earlier cs row n s w (omega arith) all.1 below
  earlier cs row n s w same all below = refl

  -- the new place has the row's entry
  pub newest : (cs : List (List T)) (row : List T) (n s : ℕ) → length row ≡ length cs → AreLong n cs → cell (with_row cs row) s n ≡ slice_get row s
  newest [] [] n s same all = refl
  newest (c ∷ cs) (r ∷ row) n zero same all = ap (slice_get (c ++ r ∷ [])) (sym all.0) ∙ get_last c r
  newest (c ∷ cs) (r ∷ row) n (suc s) same all = newest cs row n s (omega arith) all.1
  newest cs row n s same all = absurd (omega arith)

  -- past the new place there is nothing
  pub beyond : (cs : List (List T)) (row : List T) (n s w : ℕ) → length row ≡ length cs → AreLong n cs → n < w → cell (with_row cs row) s w ≡ None
  beyond [] row n s w same all past = refl
  beyond (c ∷ cs) [] n s w same all past = absurd (omega arith)
  beyond (c ∷ cs) (r ∷ row) n zero w same all past = get_past (c ++ r ∷ []) w (omega (arith, all.0, length-append c (r ∷ [])))
  beyond (c ∷ cs) (r ∷ row) n (suc s) w same all past = beyond cs row n s w (omega arith) all.1 past

  -- the columns all have one more place
  pub longer : (cs : List (List T)) (row : List T) (n : ℕ) → length row ≡ length cs → AreLong n cs → AreLong (n + 1) (with_row cs row)
  longer [] row n same all = tt
  longer (c ∷ cs) [] n same all = absurd (omega arith)
  longer (c ∷ cs) (r ∷ row) n same all = (omega (arith, all.0, length-append c (r ∷ [])), longer cs row n (omega arith) all.1)

  -- a table with one more row is still the other's transpose
  pub one_more : (rows cs : List (List T)) (row : List T) → length row ≡ length cs → AreLong (length rows) cs
      → ((w s : ℕ) → cell rows w s ≡ cell cs s w) → (w s : ℕ) → cell (rows ++ row ∷ []) w s ≡ cell (with_row cs row) s w
  one_more rows cs row same all before w s = search (rules, cases_order, get_or-append_seam, newest, get_or_append_left, earlier, length-append, get_or_past, beyond)

  -- one more row of the same length
  pub long_more : (n : ℕ) (cs : List (List T)) (c : List T) → AreLong n cs → length c ≡ n → AreLong n (cs ++ c ∷ [])
  long_more n [] c all here = (here, tt)
  long_more n (d ∷ cs) c all here = (all.0, long_more n cs c all.1 here)

  -- a table with no place has no entry
  pub nothing_in : (cs : List (List T)) (s w : ℕ) → AreLong 0 cs → cell cs s w ≡ None
  nothing_in [] s w all = refl
  nothing_in (c ∷ cs) zero w all = get_past c w (omega (arith, all.0))
  nothing_in (c ∷ cs) (suc s) w all = nothing_in cs s w all.1

-- of a list that goes on by one, what f makes of each
pub mapped_more : {A B : Type 0} (f : A → B) (after before : List A) (x : A) → after ≡ before ++ x ∷ [] → map f after ≡ map f before ++ f x ∷ []
mapped_more f after before x is = ap (map f) is ∙ map-append f before (x ∷ [])

-- a list within a list goes on by one
pub mapped_within : {V A B : Type 0} (items : V → List A) (f : A → B) (vs : List V) (i : ℕ) (v d : V) (x : A) → i < length vs → items v ≡ items (slice_index_or vs i d) ++ x ∷ []
    → map (λ v. map f (items v)) (slice_set vs i v) ≡ slice_set (map (λ v. map f (items v)) vs) i (slice_index_or (map (λ v. map f (items v)) vs) i [] ++ f x ∷ [])
mapped_within items f vs i v d x below is = search (rules, map-set, slice_set, mapped_more, slice_index_or, get_or-map)

module _ {T : Type 0} where
  pub row_step : (x after old : List (List T)) (row more : List T) (s : ℕ) (r q : T) → old ≡ with_row x row → length row ≡ s → s < length x → q ≡ r
      → after ≡ slice_set old s (slice_index_or old s [] ++ r ∷ []) → more ≡ row ++ q ∷ [] → after ≡ with_row x more
  row_step x after old row more s r q was long below same now goes = search (rules, slice_set, slice_index_or, with_next)

  pub none_linked : (rows cols : List (List T)) → rows ≡ [] → AreLong 0 cols → (w s : ℕ) → cell rows w s ≡ cell cols s w
  none_linked rows cols none all w s = ap (λ t. cell t w s) none ∙ sym (nothing_in cols s w all)

  pub link_step : (rows rows' cols cols' : List (List T)) (row : List T) (n : ℕ) → rows' ≡ rows ++ row ∷ [] → cols' ≡ with_row cols row → length row ≡ length cols → length rows ≡ n
      → AreLong n cols → ((w s : ℕ) → cell rows w s ≡ cell cols s w) → AreLong (n + 1) cols' × ((w s : ℕ) → cell rows' w s ≡ cell cols' s w)
  link_step rows rows' cols cols' row n more goes same count all before = search (rules, longer, one_more)

-- where each row of a table has n entries, what is as long as its row has n
pub all_long : {V T : Type 0} (row : V → List T) (long : V → ℕ) (vs : List V) (n : ℕ) → ((v : V) → length (row v) ≡ long v) → AreLong n (map row vs) → All (λ v. long v ≡ n) vs
all_long row long [] n same all = λ k d h. absurd (omega arith)
all_long row long (v ∷ vs) n same all = λ k d h. elim k as (λ k. k < length (v ∷ vs) → long (slice_index_or (v ∷ vs) k d) ≡ n) [
  | zero ↦ λ h. sym (same v) ∙ all.0
  | suc k ↦ λ h. all_long row long vs n same all.1 k d (omega arith)
] h
