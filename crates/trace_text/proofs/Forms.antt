-- Lines by their number of words.
use Rattle.trace_text.proofs.Names.{◌≡◌, ℕ, ◌<◌, List, [], ◌∷◌, length, get_or, Bor, None, refl, arith, contents_of, counted_call, form_of_words, thread_line, valued_call, Version}

pub form_of_words-none : (version : Version) (words : List (List ℕ)) → length words < 1 → form_of_words version words ≡ None
form_of_words-none version [] few = refl
form_of_words-none version (a ∷ more) few = absurd (omega arith)

pub form_of_words-four : (version : Version) (words : List (Bor (List ℕ))) (p q r s : Bor (List ℕ)) → length words ≡ 4
    → thread_line version (get_or words 0 p).now (get_or words 1 q).now (valued_call (get_or words 1 q).now (get_or words 2 r).now (get_or words 3 s).now) ≡ form_of_words version (contents_of words)
form_of_words-four version (a ∷ b ∷ c ∷ d ∷ []) p q r s four = refl
form_of_words-four version words p q r s four = absurd (omega arith)

pub form_of_words-five : (version : Version) (words : List (Bor (List ℕ))) (p q r s t : Bor (List ℕ)) → length words ≡ 5
    → thread_line version (get_or words 0 p).now (get_or words 1 q).now
    (counted_call (get_or words 1 q).now (get_or words 2 r).now (get_or words 3 s).now (get_or words 4 t).now) ≡ form_of_words version (contents_of words)
form_of_words-five version (a ∷ b ∷ c ∷ d ∷ e ∷ []) p q r s t five = refl
form_of_words-five version words p q r s t five = absurd (omega arith)

pub form_of_words-many : (version : Version) (words : List (List ℕ)) → 5 < length words → form_of_words version words ≡ None
form_of_words-many version (a ∷ b ∷ c ∷ d ∷ e ∷ f ∷ more) many = refl
form_of_words-many version words many = absurd (omega arith)
