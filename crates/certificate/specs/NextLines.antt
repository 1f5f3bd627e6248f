-- What a text that is being read says from its next line on. No public clause cites this module.
use Rattle.std.specs.Prelude.{ℕ, List, Result}
use Rattle.certificate.specs.Grammar.{Id, line_in, list_in}
use Rattle.certificate.specs.Words.{lines_of}
use Rattle.certificate.specs.declared.text.cause.Cause.{Cause}
use Rattle.certificate.specs.declared.text.cause.ReadError.{ReadError}
use Rattle.certificate.specs.declared.text.lines.Lines.{Lines}

-- the next line, as the function says it
abbrev pub next_line : {X : Type 0} → (List ℕ → Result X Cause) → Lines → Result X Cause
next_line parse lines = line_in parse (lines_of lines.text.now) lines.at

-- the next line is a title with a count, and that many items follow, by ascending ids
abbrev pub next_list : {X : Type 0} → List ℕ → (List ℕ → Result X Cause) → (X → Id) → Lines
    → Result (List X) ReadError
next_list title parse id_of lines = list_in title parse id_of (lines_of lines.text.now) lines.at
