-- A list of words as a number, from which the words can be told.
use Rattle.std.proofs.Common.{◌≡◌, ℕ, zero, suc, ◌+◌, ◌<◌, List, [], ◌∷◌, refl, ap, ◌∙◌, arith}

-- the number, doubled as many times
abbrev doubled : ℕ → ℕ → ℕ
doubled zero n = n
doubled (suc times) n = doubled times n + doubled times n

-- the first word is how often the number can be halved, and the half of what is left is that of the others
abbrev pub code_of_words : List ℕ → ℕ
code_of_words [] = 0
code_of_words (word ∷ words) = doubled word (suc (code_of_words words + code_of_words words))

doubled-some : (times n : ℕ) → 0 < n → 0 < doubled times n
doubled-some zero n some = some
doubled-some (suc times) n some = let more = doubled-some times n some in omega (arith, more)

doubled-odd : (a b m n : ℕ) → doubled a (suc (m + m)) ≡ doubled b (suc (n + n)) → (a ≡ b) × (m ≡ n)
doubled-odd zero zero m n same = (refl, omega (arith, same))
doubled-odd zero (suc b) m n same = absurd (omega (arith, same))
doubled-odd (suc a) zero m n same = absurd (omega (arith, same))
doubled-odd (suc a) (suc b) m n same = let (times, odd) = doubled-odd a b m n (omega (arith, same)) in (ap suc times, odd)

pub code_of_words-injective : (a b : List ℕ) → code_of_words a ≡ code_of_words b → a ≡ b
code_of_words-injective [] [] same = refl
code_of_words-injective [] (y ∷ ys) same = absurd (let some = doubled-some y (suc (code_of_words ys + code_of_words ys)) (omega arith) in omega (arith, same, some))
code_of_words-injective (x ∷ xs) [] same = absurd (let some = doubled-some x (suc (code_of_words xs + code_of_words xs)) (omega arith) in omega (arith, same, some))
code_of_words-injective (x ∷ xs) (y ∷ ys) same =
    let (word, words) = doubled-odd x y (code_of_words xs) (code_of_words ys) same in
    ap (λ w. w ∷ xs) word ∙ ap (λ ws. y ∷ ws) (code_of_words-injective xs ys words)
