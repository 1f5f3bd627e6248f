-- The name by which a line of a trace is at fault.
use Rattle.std.specs.Prelude.{◌-◌, ℕ, List, Option, None, option_map, option_and_then, slice_get}
use Rattle.arrayvec.specs.ArrayVec.{ArrayVec}
use Rattle.certificate.specs.Words.{parts_of}
use Rattle.trace_text.specs.Reference.{reference_in}
use Rattle.trace_text.specs.Words.{words_of}
use Rattle.trace_text.specs.declared.cause.Cause.{Cause}
use Rattle.trace_text.specs.declared.cause.Cause.TheVariants.{Bound, Unknown}

-- the name of the reference that the word is
abbrev pub name_in : List ℕ → Option (List ℕ)
name_in word = option_map (λ reference. reference.name) (reference_in word)

-- the name in the third word of the line of that number, from 1 on, of what line feeds (10) part
abbrev pub name_at : List ℕ → ℕ → Option (List ℕ)
name_at text line = option_and_then
    (λ bytes. option_and_then name_in (slice_get (words_of bytes) 2))
    (slice_get (parts_of 10 text) (line - 1))

-- a name as a fault keeps it
abbrev pub as_kept : List ℕ → ArrayVec ℕ
as_kept name = record { items = name }

-- the name by which the line is at fault, where the cause is about a name
abbrev pub name_by : Cause → List ℕ → ℕ → Option (ArrayVec ℕ)
name_by Bound text line = option_map as_kept (name_at text line)
name_by Unknown text line = option_map as_kept (name_at text line)
name_by _ text line = None
