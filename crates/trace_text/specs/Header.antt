-- The header: five lines, of which the first says the version, and each other one a word and a
-- number within its range.
use Rattle.std.specs.Prelude.{◌≡◌, ◌+◌, ◌⊎◌, ℕ, List, [], ◌∷◌, ◌++◌, length, Option, None, codes, if◌then◌else◌}
use Rattle.std.specs.Int.{IsInRange}
use Rattle.std.specs.Str.{bytes_eq}
use Rattle.certificate.specs.Number.{number_in}
use Rattle.trace_text.specs.Form.{AreWords, Number, Verb}
use Rattle.trace_text.specs.Words.{words_of}
use Rattle.trace_text.specs.declared.header.Header.{Header}
use Rattle.trace_text.specs.declared.header.Version.{Version}
use Rattle.trace_text.specs.declared.header.Version.TheVariants.{One, Two, Three, Four, Five, Six}
use Rattle.trace_text.specs.declared.cause.Cause.{Cause}
use Rattle.trace_text.specs.declared.cause.Cause.TheVariants as cause
use Rattle.trace_text.specs.declared.cause.ParseError.{ParseError}
use Rattle.trace_text.specs.declared.cause.ParseError.TheVariants.{BadTrace, OutOfMemory}
use Rattle.span.specs.declared.limits.TheConstants.{MOST_RING_KEYS, MOST_SHARDS}
use Rattle.trace_text.specs.declared.header.TheConstants.{TRACE_PAGES}

-- the line that a trace of each version begins with
abbrev pub opening_of : Version → List ℕ
opening_of One = codes "mesh 1"
opening_of Two = codes "mesh 2"
opening_of Three = codes "mesh 3"
opening_of Four = codes "mesh 4"
opening_of Five = codes "mesh 5"
opening_of Six = codes "mesh 6"

-- the number of each version
abbrev pub number_of : Version → ℕ
number_of One = 1
number_of Two = 2
number_of Three = 3
number_of Four = 4
number_of Five = 5
number_of Six = 6

-- what a line of the header says: that a trace begins, or a size, by its word and the greatest
-- number it may be
pub data Field : Type 0 where
  Opening : Field
  Size : (word : List ℕ) → (most : ℕ) → Field

-- the five lines, in their order
abbrev pub fields : List Field
fields = Opening ∷ Size (codes "shards") MOST_SHARDS ∷ Size (codes "pages") TRACE_PAGES
    ∷ Size (codes "ring") MOST_RING_KEYS ∷ Size (codes "gens") 4294967295 ∷ []

-- the line has this form and says this number, which may be of any size: the first says that of a
-- version, and each other line its word and the number
abbrev pub SaysNumber : Field → ℕ → List ℕ → Type 0
SaysNumber Opening n line = (version : Version) × (line ≡ opening_of version)
    × (n ≡ number_of version)
SaysNumber (Size word most) n line = AreWords (words_of line) (Verb word ∷ Number n ∷ [])

-- the number is in its range
abbrev pub IsWithin : Field → ℕ → Type 0
IsWithin Opening n = Unit {0}
IsWithin (Size word most) n = IsInRange 1 most n

-- the first lines are these, one each, and say these numbers, each in its range; the others are
-- those below
abbrev pub BeginWith : List Field → List ℕ → (lines below : List (List ℕ)) → Type 0
BeginWith [] [] lines below = lines ≡ below
BeginWith (field ∷ more) (n ∷ numbers) (line ∷ lines) below =
    (SaysNumber field n line × IsWithin field n) × BeginWith more numbers lines below
BeginWith _ _ _ _ = ⊥

-- the numbers that the lines of a header say
abbrev pub numbers_of : Header → List ℕ
numbers_of h = number_of h.version ∷ h.shards ∷ h.pages ∷ h.ring ∷ h.gens ∷ []

-- the lines begin with a header of this version and these sizes, and then come those below it
abbrev pub HasHeader : Header → (lines below : List (List ℕ)) → Type 0
HasHeader h lines below = BeginWith fields (numbers_of h) lines below

-- the first of the lines is at fault: it is missing or has not this form, or its number is outside
-- its range
abbrev pub IsAtFault : Field → List (List ℕ) → Cause → Type 0
IsAtFault field [] c = c ≡ cause.Header
IsAtFault field (line ∷ below) c =
    ((c ≡ cause.Header) × ((n : ℕ) → SaysNumber field n line → ⊥))
    ⊎ ((c ≡ cause.Limit) × (n : ℕ) × SaysNumber field n line × (IsWithin field n → ⊥))

-- the header's line of this number is at fault by this cause, and none above it is
pub record IsHeaderFault (lines : List (List ℕ)) (number : ℕ) (c : Cause) : Type 0 where
  pub above : List Field
  pub field : Field
  pub more : List Field
  pub split : fields ≡ above ++ field ∷ more
  pub place : number ≡ length above + 1
  pub numbers : List ℕ
  pub rest : List (List ℕ)
  pub fine : BeginWith above numbers lines rest
  pub fault : IsAtFault field rest c

-- each size is in its range
pub record IsWithinLimits (h : Header) : Type 0 where
  pub shards : IsInRange 1 MOST_SHARDS h.shards
  pub pages : IsInRange 1 TRACE_PAGES h.pages
  pub ring : IsInRange 1 MOST_RING_KEYS h.ring
  pub gens : IsInRange 1 4294967295 h.gens

-- ---- as the parser finds it

-- the number after the word, where the line has these two words
abbrev pub field_in : List ℕ → List (List ℕ) → Option ℕ
field_in word (first ∷ number ∷ []) = if bytes_eq first word then number_in number else None
field_in word _ = None

-- the refusal names the first of the lines, which has this number, and its cause
abbrev pub FailsField : Field → ℕ → List (List ℕ) → ParseError → Type 0
FailsField field number lines OutOfMemory = ⊥
FailsField field number lines (BadTrace line c) = (line ≡ number) × IsAtFault field lines c

-- the refusal names the first line of the header that is at fault, and its cause
abbrev pub FailsHeader : List (List ℕ) → ParseError → Type 0
FailsHeader lines OutOfMemory = ⊥
FailsHeader lines (BadTrace line c) = IsHeaderFault lines line c
