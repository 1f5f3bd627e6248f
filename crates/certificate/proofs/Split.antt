-- Texts that are cut at a byte, from the words that were joined.
use Rattle.std.proofs.Common.{ℕ, ◌<◌, ◌≤◌, ◌≡◌, ◌==◌, not, Bool, true, List, [], ◌∷◌, ◌++◌, length, get_or, refl, ◌∙◌, ap, arith, suc, eqb, eq-eqb, rules}
use Rattle.std.specs.List.{list_all}
use Rattle.std.specs.Str.Parse.{AllDigits}
use Rattle.std.proofs.lemmas.Bool.{and_parts, and_from, ne_eqb, not-true}
use Rattle.std.proofs.lemmas.List.Folds.{list_all-append}
use Rattle.std.proofs.lemmas.List.Splits.{slice_split-cons_no, slice_split-cons_yes}
use Rattle.std.proofs.lemmas.Str.Parse.{digit_at}
use Rattle.certificate.specs.Words.{parts_of}

-- no byte of the text is c
abbrev pub lacks : ℕ → List ℕ → Bool
lacks c xs = list_all (λ b. not (eqb b c)) xs

pub lacks-append : (c : ℕ) (xs ys : List ℕ) → lacks c xs ≡ true → lacks c ys ≡ true → lacks c (xs ++ ys) ≡ true
lacks-append c xs ys h k = list_all-append (λ b. not (eqb b c)) xs ys ∙ and_from (lacks c xs) (lacks c ys) h k

-- the text before the first c
pub parts-word : (c : ℕ) (xs ys : List ℕ) → lacks c xs ≡ true → parts_of c (xs ++ c ∷ ys) ≡ xs ∷ parts_of c ys
parts-word c [] ys h = slice_split-cons_yes (λ b. b == c) c ys (eq-eqb c c refl)
parts-word c (x ∷ xs) ys h = search (rules, and_parts, slice_split-cons_no, not-true, (parts-word c xs ys))

pub parts-last : (c : ℕ) (xs : List ℕ) → lacks c xs ≡ true → parts_of c xs ≡ xs ∷ []
parts-last c [] h = refl
parts-last c (x ∷ xs) h = search (rules, and_parts, slice_split-cons_no, not-true, (parts-last c xs))

-- a byte at or above 48 is no separator below it
pub lacks-high : (c : ℕ) (xs : List ℕ) → c < 48 → ((i : ℕ) → i < length xs → 48 ≤ get_or xs i 0) → lacks c xs ≡ true
lacks-high c [] low high = refl
lacks-high c (x ∷ xs) low high =
    let here : 48 ≤ x = high 0 (omega arith) in
    and_from (not (eqb x c)) (lacks c xs) (ap not (ne_eqb x c (λ e. absurd (omega arith)))) (lacks-high c xs low (λ i l. high (suc i) (omega arith)))

pub lacks-digits : (c : ℕ) (ds : List ℕ) → c < 48 → AllDigits 10 ds → lacks c ds ≡ true
lacks-digits c ds low all = lacks-high c ds low (λ i l. (digit_at ds i all l).0)
