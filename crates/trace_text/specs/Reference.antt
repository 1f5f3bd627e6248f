-- References to keys: a name, or a name, a full stop and an index.
use Rattle.std.specs.Prelude.{ℕ, List, [], ◌∷◌, Option, Some, None, option_map, option_and_then, if◌then◌else◌}
use Rattle.trace_text.specs.Name.{is_name}
use Rattle.certificate.specs.Words.{parts_of}
use Rattle.certificate.specs.Number.{number_in, clip}
use Rattle.trace_text.specs.declared.name.Reference.{Reference}

-- the reference by this name, where the bytes are a name
abbrev pub named : List ℕ → Option ℕ → Option Reference
named name index = if is_name name then Some (record { name = name; index = index }) else None

-- what full stops part: a name alone, or a name and a number
abbrev pub reference_of_parts : List (List ℕ) → Option Reference
reference_of_parts (name ∷ []) = named name None
reference_of_parts (name ∷ index ∷ []) = option_and_then (λ i. named name (Some i))
    (number_in index)
reference_of_parts _ = None

-- the reference that a word is, by its full stops (46)
abbrev pub reference_in : List ℕ → Option Reference
reference_in word = reference_of_parts (parts_of 46 word)

-- an index that does not fit is kept as the greatest that does
abbrev pub clip_reference : Reference → Reference
clip_reference r = record { name = r.name; index = option_map clip r.index }

-- the same, where the word is a reference
abbrev pub clipped_reference : Option Reference → Option Reference
clipped_reference r = option_map clip_reference r
