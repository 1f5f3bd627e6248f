-- Tables of one row with one entry.
use Rattle.std.proofs.Common.{All, ◌≡◌, List, [], ◌∷◌, ◌++◌, length, map, Some, ap, ◌∙◌, arith, length-append, subst}
use Rattle.std.specs.Prelude.{Vec, vec_len}
use Rattle.std.specs.declared.alloc.Global.{Global}
use Rattle.std.specs.List.{slice_get}
use Rattle.remote_queue.specs.Rings.{cell}

-- the entry of a row that has just one
entry_is : {A B : Type 0} (f : A → B) (row front : List A) (entry : A) → row ≡ front ++ entry ∷ [] → length row ≡ 1 → slice_get (map f row) 0 ≡ Some (f entry)
entry_is f row [] entry goes one = ap (λ row. slice_get (map f row) 0) goes
entry_is f row (a ∷ front) entry goes one = absurd (omega (arith, ap length goes, length-append (a ∷ front) (entry ∷ [])))

-- the first cell of a table whose last row is its only one, and has a last entry that is its only one
pub first_cell : {A B : Type 0} (f : A → B) (rows rest : List (Vec A Global)) (row : Vec A Global) (front : List A) (entry : A)
    → rows ≡ rest ++ row ∷ [] → row.items ≡ front ++ entry ∷ [] → length rows ≡ 1 → All (λ row. vec_len row ≡ 1) rows → cell (map (λ row. map f row.items) rows) 0 0 ≡ Some (f entry)
first_cell f rows [] row front entry last_row last_entry one all =
    let only : vec_len row ≡ 1 = subst (All (λ row. vec_len row ≡ 1)) last_row all 0 row (omega arith) in
    ap (λ rows. cell (map (λ row. map f row.items) rows) 0 0) last_row ∙ entry_is f row.items front entry last_entry (omega (arith, only, row.ok.0))
first_cell f rows (v ∷ rest) row front entry last_row last_entry one all = absurd (omega (arith, ap length last_row, length-append (v ∷ rest) (row ∷ [])))
