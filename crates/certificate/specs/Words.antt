-- The lines of a text, and the words of a line.
use Rattle.std.specs.Prelude.{◌==◌, ℕ, List, map}
use Rattle.std.specs.Borrow.{Bor}
use Rattle.std.specs.List.{slice_split}

-- the bytes that each reference points to
abbrev pub contents_of : List (Bor (List ℕ)) → List (List ℕ)
contents_of slices = map (λ slice. slice.now) slices

-- what stands before, between and after the bytes that are the separator
abbrev pub parts_of : (separator : ℕ) → List ℕ → List (List ℕ)
parts_of separator bytes = slice_split (λ b. b == separator) bytes

-- the lines of a text, which line feeds (10) part
abbrev pub lines_of : List ℕ → List (List ℕ)
lines_of text = parts_of 10 text
