-- Where the keys that a line reads stand among all keys that lines bind.
use Rattle.std.specs.Prelude.{ℕ, List, [], ◌∷◌, ◌++◌, Option, Some, None, Result, Ok, Err}
use Rattle.std.specs.Option.{option_map_or}
use Rattle.trace_text.specs.Causes.{binding_of, read_name}
use Rattle.trace_text.specs.declared.cause.Cause.{Cause}
use Rattle.trace_text.specs.declared.line.Binding.{Binding}
use Rattle.trace_text.specs.declared.line.Call.{Call}
use Rattle.trace_text.specs.declared.line.Line.{Line}
use Rattle.trace_text.specs.declared.line.Line.TheVariants as line

-- the place of the first key that the lines bind the name to, or 0 where they bind it to none
abbrev pub first_of : List Line → List ℕ → ℕ
first_of lines name = option_map_or (λ (b : Binding). b.first) (binding_of name lines) 0

-- the place of the first key of the name whose keys the call reads, sets, frees or sends off, or 0
-- where it names none
abbrev pub place_by : List Line → Call → ℕ
place_by before call = option_map_or (first_of before) (read_name call) 0

-- the same for a line
abbrev pub place_at : List Line → Line → ℕ
place_at before (line.Call thread call) = place_by before call
place_at before _ = 0

-- the places of the lines, in order, each after the lines above it
abbrev pub places_from : List Line → List Line → List ℕ
places_from before [] = []
places_from before (line ∷ lines) = place_at before line ∷ places_from (before ++ line ∷ []) lines

-- the place, unless a cause holds
abbrev pub unless : Option Cause → ℕ → Result ℕ Cause
unless None place = Ok place
unless (Some c) place = Err c
