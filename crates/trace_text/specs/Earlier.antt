-- What is kept of the lines before a line. No public clause cites this module.
use Rattle.std.specs.Prelude.{◌≡◌, ◌≤◌, ◌&&◌, ◌||◌, ℕ, Bool, not, List, Option, Some, None, Result, nat_eq, if◌then◌else◌}
use Rattle.std.specs.HashMap as hash
use Rattle.std.specs.HashSet as bag
use Rattle.std.specs.Option.{option_or}
use Rattle.std.specs.Str.{bytes_eq}
use Rattle.std.specs.Cmp.Lexicographic.{pointwise}
use Rattle.trace_text.specs.Barrier.{is_barrier, open_lines}
use Rattle.trace_text.specs.Causes.{awaits_mark, begins, binding_at, binding_of, ends, has_ended, is_adopt, keys_in, marks, speaks}
use Rattle.trace_text.specs.Places.{place_at, unless}
use Rattle.trace_text.specs.Within.{cause_but_bound}
use Rattle.trace_text.specs.declared.cause.Cause.{Cause}
use Rattle.trace_text.specs.declared.header.Header.{Header}
use Rattle.trace_text.specs.declared.line.Line.{Line}
use Rattle.trace_text.specs.declared.line.Keys.{Keys}
use Rattle.trace_text.specs.declared.line.Keys.TheVariants.{One, Many}
use Rattle.trace_text.specs.declared.line.Binding.{Binding}
use Rattle.trace_text.specs.declared.earlier.Earlier.{Earlier}
use Rattle.trace_text.specs.declared.earlier.TheConstants.{MOST_KEYS}

-- what the table has for the name
abbrev pub bound_in : Earlier → List ℕ → Option Binding
bound_in e name = hash.get (λ s t. pointwise nat_eq s t) e.names name

-- the set has the thread
abbrev pub ended_in : Earlier → ℕ → Bool
ended_in e thread = bag.contains nat_eq e.ended thread

-- the set of those that leave has the thread
abbrev pub leaving_in : Earlier → ℕ → Bool
leaving_in e thread = bag.contains nat_eq e.leaving thread

-- how many keys these are
abbrev pub key_count : Keys → ℕ
key_count One = 1
key_count (Many count) = count

-- no more keys than a fill may have
abbrev pub IsFew : Keys → Type 0
IsFew keys = key_count keys ≤ MOST_KEYS

-- no name is bound to more keys than a fill may have
abbrev pub Few : List Line → Type 0
Few lines = (name : List ℕ) (b : Binding) → binding_of name lines ≡ Some b → IsFew b.keys

-- it has what those lines bind, which threads they end, and which of these below the last barrier,
-- how many marks they have, how many keys they bind, and whether a mark must follow
pub record Knows (lines : List Line) (e : Earlier) : Type 0 where
  pub names : (name : List ℕ) → bound_in e name ≡ binding_of name lines
  pub ended : (thread : ℕ) → ended_in e thread ≡ has_ended lines thread
  pub leaving : (thread : ℕ) → leaving_in e thread ≡ has_ended (open_lines lines) thread
  pub section : e.section ≡ marks lines
  pub keys : e.keys ≡ keys_in lines
  pub awaits : e.awaits_mark ≡ awaits_mark lines
  pub few : Few lines

-- the place of the first key that the line after those reads, 0 if it reads none; or what is wrong
-- with the line, but for a name that it binds again
abbrev pub place_or_cause : Header → List Line → Line → Result ℕ Cause
place_or_cause header before line =
    unless (cause_but_bound header before line) (place_at before line)

-- the new table has the binding of the name, and beside it what the old one had
abbrev pub BindsName : (old new : Earlier) → (name : List ℕ) → Binding → Type 0
BindsName old new name binding = (other : List ℕ) → bound_in new other
    ≡ option_or (if bytes_eq name other then Some binding else None) (bound_in old other)

-- the new table has what the line at that place binds, and beside it what the old one had
abbrev pub NotesNames : (old new : Earlier) (place : ℕ) → Line → Type 0
NotesNames old new place line = (name : List ℕ) → bound_in new name
    ≡ option_or (binding_at place old.section old.keys name line) (bound_in old name)

-- the new set has the thread that the line ends, and beside it those of the old one, but for that
-- which the line lets begin again
abbrev pub NotesEnd : (old new : Earlier) → Line → Type 0
NotesEnd old new line = (thread : ℕ) → ended_in new thread
    ≡ (not (begins thread line) && (ends thread line || ended_in old thread))

-- so has the set of those that leave, until a barrier comes
abbrev pub NotesLeaving : (old new : Earlier) → Line → Type 0
NotesLeaving old new line = (thread : ℕ) → leaving_in new thread
    ≡ (not (is_barrier line) && (not (begins thread line)
    && (ends thread line || leaving_in old thread)))

-- a line that is neither empty nor a remark decides whether a mark must follow
abbrev pub awaits_after : (old : Bool) → Line → Bool
awaits_after old line = if speaks line then is_adopt line else old
