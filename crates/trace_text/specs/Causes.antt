-- What is wrong with a line, from the header and the lines before it.
use Rattle.std.specs.Prelude.{◌≡◌, ◌+◌, ◌-◌, ◌^◌, ◌==◌, ◌&&◌, ◌||◌, ◌⊎◌, ℕ, Bool, true, false, not, nat_le, nat_lt, List, [], ◌∷◌, ◌++◌, length, take, reverse, slice_get, Option, Some, None, is_some, find, codes, if◌then◌else◌}
use Rattle.std.specs.Option.{option_map_or, option_or}
use Rattle.std.specs.Str.{bytes_eq}
use Rattle.trace_text.specs.Barrier.{open_lines}
use Rattle.trace_text.specs.Form.{HasForm}
use Rattle.trace_text.specs.Objects.{last_word}
use Rattle.span.specs.declared.class.Class.{Class}
use Rattle.span.specs.declared.class.Class.TheVariants.{C16}
use Rattle.trace_text.specs.declared.header.Version.{Version}
use Rattle.trace_text.specs.declared.name.Reference.{Reference}
use Rattle.trace_text.specs.declared.header.Header.{Header}
use Rattle.trace_text.specs.declared.line.Call.{Call}
use Rattle.trace_text.specs.declared.line.Call.TheVariants.{Put, Fill, Get, Set, Free, Sweep, Later, Retire, End, Begin}
use Rattle.trace_text.specs.declared.line.Line.{Line}
use Rattle.trace_text.specs.declared.line.Line.TheVariants as line
use Rattle.trace_text.specs.declared.line.Keys.{Keys}
use Rattle.trace_text.specs.declared.line.Keys.TheVariants.{One, Many}
use Rattle.trace_text.specs.declared.line.Binding.{Binding}
use Rattle.trace_text.specs.declared.cause.Cause.{Cause}
use Rattle.trace_text.specs.declared.cause.Cause.TheVariants as cause
use Rattle.trace_text.specs.declared.cause.Cause.TheVariants.{Form, Limit, Thread, Ended, Adopt, Bound, Unknown, Early}
use Rattle.trace_text.specs.declared.earlier.TheConstants.{MOST_KEYS, MOST_RETIRED}

-- ---- what a line says of threads and names

-- the thread that calls, or the one whose shard adopts
abbrev pub thread_of : Line → Option ℕ
thread_of (line.Call thread call) = Some thread
thread_of (line.Adopt shard) = Some shard
thread_of _ = None

-- the name that the call binds
abbrev pub bound_name : Call → Option (List ℕ)
bound_name (Put name class value) = Some name
bound_name (Fill name class count value) = Some name
bound_name _ = None

-- the name whose keys the call reads, sets, frees or sends off
abbrev pub read_name : Call → Option (List ℕ)
read_name (Get key) = Some key.name
read_name (Set key class value) = Some key.name
read_name (Free key) = Some key.name
read_name (Sweep name from to) = Some name
read_name (Later key) = Some key.name
read_name _ = None

-- a plain name needs a put, and an index a fill of more keys
abbrev pub has_key : Option ℕ → Keys → Bool
has_key None One = true
has_key (Some index) (Many count) = nat_lt index count
has_key _ _ = false

-- a sweep needs a fill, and lies within it
abbrev pub has_range : ℕ → ℕ → Keys → Bool
has_range from to One = false
has_range from to (Many count) = nat_le from to && nat_le to count

-- the keys that the call reads, sets, frees or sends off are among these
abbrev pub has_keys : Call → Keys → Bool
has_keys (Get key) keys = has_key key.index keys
has_keys (Set key class value) keys = has_key key.index keys
has_keys (Free key) keys = has_key key.index keys
has_keys (Sweep name from to) keys = has_range from to keys
has_keys (Later key) keys = has_key key.index keys
has_keys _ keys = true

-- ---- what the lines before it say

-- a mark is one
abbrev pub marks_at : Line → ℕ
marks_at line.Mark = 1
marks_at _ = 0

-- how many marks stand among the lines: the number of the section that follows them
abbrev pub marks : List Line → ℕ
marks [] = 0
marks (line ∷ lines) = marks_at line + marks lines

-- how many keys a call binds its name to
abbrev pub keys_by : Call → ℕ
keys_by (Put name class value) = 1
keys_by (Fill name class count value) = count
keys_by _ = 0

-- the same for a line
abbrev pub keys_at : Line → ℕ
keys_at (line.Call thread call) = keys_by call
keys_at _ = 0

-- how many keys the lines bind
abbrev pub keys_in : List Line → ℕ
keys_in [] = 0
keys_in (line ∷ lines) = keys_at line + keys_in lines

-- what a thread's call on the line at that place, in that section and after that many keys binds
-- the name to
abbrev pub call_binding : (place section first : ℕ) → List ℕ → ℕ → Call → Option Binding
call_binding place section first name thread (Put bound class value) =
    if bytes_eq bound name then Some
    (record {
      keys = One;
      class = class;
      thread = thread;
      section = section;
      line = place;
      first = first;
    }) else None
call_binding place section first name thread (Fill bound class count value) =
    if bytes_eq bound name then Some
    (record {
      keys = Many count;
      class = class;
      thread = thread;
      section = section;
      line = place;
      first = first;
    }) else None
call_binding place section first name thread _ = None

-- what the line at that place, in that section and after that many keys binds the name to
abbrev pub binding_at : (place section first : ℕ) → List ℕ → Line → Option Binding
binding_at place section first name (line.Call thread call) =
    call_binding place section first name thread call
binding_at place section first name _ = None

-- what the first line that binds the name binds it to, in lines of which the first stands at that
-- place, in that section and after that many keys
abbrev pub binding_from : (place section first : ℕ) → List ℕ → List Line → Option Binding
binding_from place section first name [] = None
binding_from place section first name (line ∷ lines) =
    option_or (binding_at place section first name line)
    (binding_from (place + 1) (section + marks_at line) (first + keys_at line) name lines)

-- what the lines below the header bind the name to
abbrev pub binding_of : List ℕ → List Line → Option Binding
binding_of name lines = binding_from 0 0 0 name lines

-- the keys are bound by a line of the reference's kind: by a put where it is a plain name, and by a
-- fill where it has an index
abbrev pub is_of_kind : Option ℕ → Keys → Bool
is_of_kind None One = true
is_of_kind (Some index) (Many count) = true
is_of_kind _ _ = false

-- the class that a line of its kind binds the reference with, or that of one word where none of the
-- lines does
abbrev pub class_named : List Line → Reference → Class
class_named lines key = option_map_or (λ (b : Binding). if is_of_kind key.index b.keys then
    b.class else C16) (binding_of key.name lines) C16

-- the call, where a set has the class that the lines bind its key with
abbrev pub classed_call : List Line → Call → Call
classed_call lines (Set key class value) = Set key (class_named lines key) value
classed_call lines call = call

-- the same for a line
abbrev pub classed : List Line → Line → Line
classed lines (line.Call thread call) = line.Call thread (classed_call lines call)
classed lines line = line

-- the line has the class that those lines bind its key with, where it is a set
abbrev pub HasClass : List Line → Line → Type 0
HasClass before line = line ≡ classed before line

-- the thread's call ends the thread that is asked for
abbrev pub call_ends : (asked thread : ℕ) → Call → Bool
call_ends asked thread End = thread == asked
call_ends asked thread _ = false

-- the line ends the thread that is asked for
abbrev pub ends : (asked : ℕ) → Line → Bool
ends asked (line.Call thread call) = call_ends asked thread call
ends asked _ = false

-- the call lets its thread begin again
abbrev pub begins_again : Call → Bool
begins_again Begin = true
begins_again _ = false

-- the line lets the thread that is asked for begin again
abbrev pub begins : (asked : ℕ) → Line → Bool
begins asked (line.Call thread call) = begins_again call && thread == asked
begins asked _ = false

-- the line ends the thread that is asked for, or lets it begin again
abbrev pub turns : (asked : ℕ) → Line → Bool
turns asked line = ends asked line || begins asked line

-- the last of those lines by which the thread ends or begins again ends it
abbrev pub has_ended : List Line → ℕ → Bool
has_ended before thread = option_map_or (ends thread) (find (turns thread) (reverse before)) false

-- so it is, and a barrier stands below that line: the thread's shard is abandoned
abbrev pub is_abandoned : List Line → ℕ → Bool
is_abandoned before thread = has_ended before thread && not (has_ended (open_lines before) thread)

-- the line is neither empty nor a remark
abbrev pub speaks : Line → Bool
speaks line.Silent = false
speaks _ = true

-- the line is an adoption
abbrev pub is_adopt : Line → Bool
is_adopt (line.Adopt shard) = true
is_adopt _ = false

-- the last of those lines that is neither empty nor a remark is an adoption, which waits for its
-- mark
abbrev pub awaits_mark : List Line → Bool
awaits_mark lines = option_map_or is_adopt (find speaks (reverse lines)) false

-- the line may follow an adoption
abbrev pub may_follow_adopt : Line → Bool
may_follow_adopt (line.Call thread call) = false
may_follow_adopt _ = true

-- ---- what is wrong with a line

-- after those lines a count, how many groups may go, or the last word of the last object that the
-- call puts or sets, is outside its range
abbrev pub is_call_over : List Line → Call → Bool
is_call_over before (Put name class value) = nat_le (2 ^ 128) (last_word class value)
is_call_over before (Fill name class count value) = not (nat_le 1 count && nat_le count MOST_KEYS)
    || nat_le (2 ^ 128) (last_word class (value + count - 1))
is_call_over before (Set key class value) = nat_le (2 ^ 128) (last_word class value)
is_call_over before (Retire most) = not (nat_le 1 most && nat_le most MOST_RETIRED)
is_call_over before _ = false

-- the call binds a name that those lines bind
abbrev pub binds_again : List Line → Call → Bool
binds_again before call = option_map_or (λ name. is_some (binding_of name before)) (bound_name call)
    false

-- the call reads, sets, frees or sends off keys of a name that those lines do not bind to such keys
abbrev pub reads_unknown : List Line → Call → Bool
reads_unknown before call = option_map_or (λ name. not
    (option_map_or (λ b. has_keys call b.keys) (binding_of name before) false)) (read_name call)
    false

-- the binding is another thread's, with no mark after it
abbrev pub is_early : (section thread : ℕ) → Binding → Bool
is_early section thread b = b.section == section && not (b.thread == thread)

-- the thread's call reads, sets, frees or sends off keys of a name that another thread binds in the
-- same section
abbrev pub reads_early : List Line → ℕ → Call → Bool
reads_early before thread call = option_map_or (λ name. option_map_or
    (is_early (marks before) thread) (binding_of name before) false) (read_name call) false

-- the call lets a thread begin again whose shard those lines do not abandon
abbrev pub begins_early : List Line → ℕ → Call → Bool
begins_early before thread call = begins_again call && not (is_abandoned before thread)

-- the thread's call comes before a mark that it needs
abbrev pub comes_early : List Line → ℕ → Call → Bool
comes_early before thread call = begins_early before thread call || reads_early before thread call

-- the line is a call that passes the test
abbrev pub is_call : (Call → Bool) → Line → Bool
is_call test (line.Call thread call) = test call
is_call test _ = false

-- the line is a thread's call, and the two pass the test
abbrev pub is_call_of : (ℕ → Call → Bool) → Line → Bool
is_call_of test (line.Call thread call) = test thread call
is_call_of test _ = false

-- the line is of a thread that passes the test, or of its shard
abbrev pub is_of : (ℕ → Bool) → Line → Bool
is_of test line = option_map_or test (thread_of line) false

-- whether the cause holds of a line that has a form
abbrev pub holds : Header → List Line → Line → Cause → Bool
holds h before line Limit = is_call (is_call_over before) line
holds h before line Thread = is_of (nat_le h.shards) line
holds h before line Ended = is_of (has_ended before) line && not (is_call begins_again line)
holds h before line Adopt = awaits_mark before && not (may_follow_adopt line)
holds h before line Bound = is_call (binds_again before) line
holds h before line Unknown = is_call (reads_unknown before) line
holds h before line Early = is_call_of (comes_early before) line
holds h before line _ = false

-- the first cause that holds of a line that has a form
abbrev pub first_cause : Header → List Line → Line → Option Cause
first_cause h before line = find (holds h before line) (Limit ∷ Thread ∷ Ended ∷ Adopt ∷ Bound
    ∷ Unknown ∷ Early ∷ [])

-- no cause holds of a line, after those above it
abbrev pub IsSound : Header → List Line → Type 0
IsSound h lines = (place : ℕ) (line : Line) → slice_get lines place ≡ Some line
    → first_cause h (take place lines) line ≡ None

-- after those lines the bytes say this line: they have its form, and a set has the class that those
-- lines bind its key with
abbrev pub SaysAfter : Version → List Line → List ℕ → Line → Type 0
SaysAfter version before bytes line = HasForm version line bytes × HasClass before line

-- after those lines the bytes are at fault: they have no form, or this cause is the first that
-- holds of them
abbrev pub HasCause : Header → List Line → List ℕ → Cause → Type 0
HasCause h before bytes c = ((c ≡ Form) × ((line : Line) → HasForm h.version line bytes → ⊥))
    ⊎ ((line : Line) × SaysAfter h.version before bytes line × (first_cause h before line ≡ Some c))

-- after those lines the bytes say this line, and no cause holds of it
abbrev pub IsNextLine : Header → List Line → List ℕ → Line → Type 0
IsNextLine h before bytes line = SaysAfter h.version before bytes line
    × (first_cause h before line ≡ None)

-- after those lines the texts are these lines, and none is at fault
abbrev pub AreReadAs : Header → List Line → List (List ℕ) → List Line → Type 0
AreReadAs h before [] [] = Unit {0}
AreReadAs h before (bytes ∷ texts) (line ∷ lines) = IsNextLine h before bytes line
    × AreReadAs h (before ++ line ∷ []) texts lines
AreReadAs h before [] (line ∷ lines) = ⊥
AreReadAs h before (bytes ∷ texts) [] = ⊥

-- after those lines the first of the texts is at fault by this cause; or the end, where no text is
-- left and an adoption waits for its mark
abbrev pub BeginsAtFault : Header → List Line → List (List ℕ) → Cause → Type 0
BeginsAtFault h before [] c = (c ≡ Adopt) × (awaits_mark before ≡ true)
BeginsAtFault h before (bytes ∷ texts) c = HasCause h before bytes c

-- of the texts below a header, the one of this line number, or their end, is at fault by this
-- cause, and none above it is
pub record IsFirstFault (h : Header) (texts : List (List ℕ)) (number : ℕ) (c : Cause) : Type 0 where
  pub above : List (List ℕ)
  pub rest : List (List ℕ)
  pub split : texts ≡ above ++ rest
  pub place : number ≡ length above + 6
  pub lines : List Line
  pub fine : AreReadAs h [] above lines
  pub fault : BeginsAtFault h lines rest c

-- the word that a refusal says
abbrev pub word_of : Cause → List ℕ
word_of cause.Header = codes "header"
word_of Form = codes "form"
word_of Limit = codes "limit"
word_of Thread = codes "thread"
word_of Ended = codes "ended"
word_of Adopt = codes "adopt"
word_of Bound = codes "bound"
word_of Unknown = codes "unknown"
word_of Early = codes "early"
