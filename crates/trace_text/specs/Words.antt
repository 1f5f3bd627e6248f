-- The lines of a text, and the words of a line.
use Rattle.std.specs.Prelude.{ℕ, List, [], ◌∷◌}
use Rattle.certificate.specs.Words.{parts_of}

-- the list without its last element, where that is empty
abbrev pub without_empty_end : List (List ℕ) → List (List ℕ)
without_empty_end [] = []
without_empty_end ([] ∷ []) = []
without_empty_end ((b ∷ bs) ∷ []) = (b ∷ bs) ∷ []
without_empty_end (line ∷ next ∷ more) = line ∷ without_empty_end (next ∷ more)

-- what line feeds (10) part; a line feed at the end begins no line
abbrev pub lines_of : List ℕ → List (List ℕ)
lines_of text = without_empty_end (parts_of 10 text)

-- what spaces (32) part
abbrev pub words_of : List ℕ → List (List ℕ)
words_of line = parts_of 32 line
