-- The texts that are traces.
use Rattle.std.specs.Prelude.{◌≡◌, ◌⊎◌, ℕ, false, List, [], Result, Ok, Err}
use Rattle.trace_text.specs.Words.{lines_of}
use Rattle.trace_text.specs.Header.{HasHeader, IsHeaderFault}
use Rattle.trace_text.specs.Causes.{AreReadAs, IsFirstFault, awaits_mark}
use Rattle.trace_text.specs.declared.header.Header.{Header}
use Rattle.trace_text.specs.declared.line.Line.{Line}
use Rattle.trace_text.specs.declared.trace.Trace.{Trace}
use Rattle.trace_text.specs.declared.cause.Cause.{Cause}
use Rattle.trace_text.specs.declared.cause.ParseError.{ParseError}
use Rattle.trace_text.specs.declared.cause.ParseError.TheVariants.{OutOfMemory, BadTrace}

-- the text spells this header and, below it, these lines, and no adoption lacks its mark
pub record Spells (text : List ℕ) (header : Header) (lines : List Line) : Type 0 where
  pub below : List (List ℕ)
  pub head : HasHeader header (lines_of text) below
  pub body : AreReadAs header [] below lines
  pub settled : awaits_mark lines ≡ false

-- the text spells this trace
abbrev pub IsTrace : List ℕ → Trace → Type 0
IsTrace text trace = Spells text trace.header trace.lines.items

-- the first line at fault is this one, of the header or, below a header, of the further lines and
-- the end of the text
abbrev pub IsFaultAt : List ℕ → ℕ → Cause → Type 0
IsFaultAt text line c = IsHeaderFault (lines_of text) line c
    ⊎ ((header : Header) × (below : List (List ℕ)) × HasHeader header (lines_of text) below
    × IsFirstFault header below line c)

-- the refusal names the first line at fault and its first cause
abbrev pub IsFault : List ℕ → ParseError → Type 0
IsFault text OutOfMemory = Unit {0}
IsFault text (BadTrace line c) = IsFaultAt text line c

-- the same for the lines below a header
abbrev pub FailsAt : Header → List (List ℕ) → ParseError → Type 0
FailsAt h texts OutOfMemory = Unit {0}
FailsAt h texts (BadTrace number c) = IsFirstFault h texts number c

-- the text was read as this header and these lines, unless memory ran out
abbrev pub IsReadAs : Result Trace ParseError → Header → List Line → Type 0
IsReadAs (Ok trace) header lines = (trace.header ≡ header) × (trace.lines.items ≡ lines)
IsReadAs (Err OutOfMemory) header lines = Unit {0}
IsReadAs (Err (BadTrace line c)) header lines = ⊥
