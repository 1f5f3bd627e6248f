-- One more place of the lists of pairs and short members
use Rattle.std.proofs.lemmas.Grind.{common_steps}
use Rattle.std.proofs.Common.{ℕ, ◌+◌, ◌<◌, ◌≡◌, Bool, true, false, List, [], ◌∷◌, ◌++◌, length, Option, Some, None, refl, sym, ◌∙◌, ap, arith, get_or, cond, drop, rules}
use Rattle.std.specs.List.{slice_get}
use Rattle.std.proofs.lemmas.List.{drop_more, get_or_default, append_assoc}
use Rattle.std.specs.Option.{is_some}
use Rattle.std.proofs.lemmas.List.Sums.{sum_by-cons}
use Rattle.std.proofs.lemmas.Option.{get_or_from_slice_get}
use Rattle.augment.specs.Mates.{mate}
use Rattle.augment.specs.Walks.{pair_count}
use Rattle.augment.specs.Listed.{pairs_of, is_short, short_of}

-- a list with a place has a member
pub a_member : {K : Type 0} (xs : List K) (i : ℕ) → i < length xs → K
a_member [] i l = absurd (omega arith)
a_member (x ∷ xs) i l = x

-- what is read stands at its place
pub read_at : {K : Type 0} (xs : List K) (i : ℕ) (x : K) → slice_get xs i ≡ Some x → x ≡ get_or xs i x
read_at xs i x h = sym (get_or_from_slice_get xs i x x h)

pub pairs_none : {K : Type 0} (right left : List K) (ms : List (Option ℕ)) (i : ℕ) (d : K) → i < length left → i < length ms → mate ms i ≡ None
    → pairs_of right (drop i left) (drop i ms) ≡ pairs_of right (drop (i + 1) left) (drop (i + 1) ms)
pairs_none right left ms i d l m e =
    ap (λ x. pairs_of right x (drop i ms)) (drop_more left i d l) ∙ (ap (λ x. pairs_of right (get_or left i d ∷ drop (i + 1) left) x) (drop_more ms i None m)
    ∙ ap (λ x. pairs_of right (get_or left i d ∷ drop (i + 1) left) (x ∷ drop (i + 1) ms)) e)

pub pairs_some : {K : Type 0} (right left : List K) (ms : List (Option ℕ)) (i j : ℕ) (d : K) → i < length left → i < length ms → mate ms i ≡ Some j
    → pairs_of right (drop i left) (drop i ms) ≡ (get_or left i d, get_or right j (get_or left i d)) ∷ pairs_of right (drop (i + 1) left) (drop (i + 1) ms)
pairs_some right left ms i j d l m e = search (rules, drop_more)

pub short_step : {K : Type 0} (reached : List Bool) (left : List K) (ms : List (Option ℕ)) (i : ℕ) (d : K) → i < length left → i < length ms
    → short_of reached (drop i left) (drop i ms)
    ≡ cond (is_short reached (mate ms i)) (get_or left i d ∷ short_of reached (drop (i + 1) left) (drop (i + 1) ms))
    (short_of reached (drop (i + 1) left) (drop (i + 1) ms))
short_step reached left ms i d l m = search (rules, drop_more)

pub pairs_push : {K : Type 0} (right left : List K) (ms : List (Option ℕ)) (pairs all : List (K × K)) (i j : ℕ) (a b : K) → i < length left → i < length ms
    → j < length right → mate ms i ≡ Some j → a ≡ get_or left i a → b ≡ get_or right j b → pairs ++ pairs_of right (drop i left) (drop i ms) ≡ all
    → (pairs ++ (a, b) ∷ []) ++ pairs_of right (drop (i + 1) left) (drop (i + 1) ms) ≡ all
pairs_push right left ms pairs all i j a b l m r e ea eb h = grind (arith, common_steps, get_or_default, pairs_some, append_assoc)

pub short_push : {K : Type 0} (reached : List Bool) (left : List K) (ms : List (Option ℕ)) (short all : List K) (i : ℕ) (a : K) → i < length left
    → i < length ms → is_short reached (mate ms i) ≡ true → a ≡ get_or left i a → short ++ short_of reached (drop i left) (drop i ms) ≡ all
    → (short ++ a ∷ []) ++ short_of reached (drop (i + 1) left) (drop (i + 1) ms) ≡ all
short_push reached left ms short all i a l m e ea h = grind (arith, common_steps, short_step, append_assoc)

pub short_skip : {K : Type 0} (reached : List Bool) (left : List K) (ms : List (Option ℕ)) (short all : List K) (i : ℕ) (d : K) → i < length left
    → i < length ms → is_short reached (mate ms i) ≡ false → short ++ short_of reached (drop i left) (drop i ms) ≡ all
    → short ++ short_of reached (drop (i + 1) left) (drop (i + 1) ms) ≡ all
short_skip reached left ms short all i d l m e h =
    let one : short_of reached (drop i left) (drop i ms)
    ≡ cond (is_short reached (mate ms i)) (get_or left i d ∷ short_of reached (drop (i + 1) left) (drop (i + 1) ms))
    (short_of reached (drop (i + 1) left) (drop (i + 1) ms)) = short_step reached left ms i d l m in
    let two : short_of reached (drop i left) (drop i ms) ≡ short_of reached (drop (i + 1) left) (drop (i + 1) ms) = rw e at one in
    ap (λ z. short ++ z) (sym two) ∙ h

-- each planned place gives a pair
pub length-pairs_of : {K : Type 0} (right left : List K) (ms : List (Option ℕ)) → length ms ≡ length left → length (pairs_of right left ms) ≡ pair_count ms
length-pairs_of right [] [] n = refl
length-pairs_of right (a ∷ left) (None ∷ ms) n = let rest : length (pairs_of right left ms) ≡ pair_count ms = length-pairs_of right left ms (omega arith) in omega arith
length-pairs_of right (a ∷ left) (Some j ∷ ms) n = let rest : length (pairs_of right left ms) ≡ pair_count ms = length-pairs_of right left ms (omega arith) in
    let more : pair_count (Some j ∷ ms) ≡ 1 + pair_count ms = sum_by-cons (λ m. cond {A = ℕ} (is_some m) 1 0) (Some j) ms in omega arith
length-pairs_of right left ms n = absurd (omega arith)
