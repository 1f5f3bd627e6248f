-- Lines as the parser keeps them: a number that does not fit is clipped, and a value that does not
-- is refused before anything else is asked. No public clause cites this module.
use Rattle.std.specs.Prelude.{◌≡◌, ◌&&◌, ℕ, Bool, true, false, not, nat_le, ◌^◌, List, [], ◌∷◌, Option, Some, None, find, Result, Ok, Err, if◌then◌else◌}
use Rattle.certificate.specs.Number.{clip}
use Rattle.trace_text.specs.Reference.{clip_reference}
use Rattle.trace_text.specs.Causes.{HasCause, IsNextLine, begins_again, binds_again, comes_early, has_ended, holds, is_call, reads_unknown}
use Rattle.trace_text.specs.declared.header.Header.{Header}
use Rattle.trace_text.specs.declared.line.Call.{Call}
use Rattle.trace_text.specs.declared.line.Call.TheVariants.{Put, Fill, Get, Set, Free, Sweep, Later, Retire}
use Rattle.trace_text.specs.declared.line.Line.{Line}
use Rattle.trace_text.specs.declared.line.Line.TheVariants as line
use Rattle.trace_text.specs.declared.cause.Cause.{Cause}
use Rattle.trace_text.specs.declared.cause.Cause.TheVariants.{Form, Limit, Thread, Ended, Adopt, Bound, Unknown, Early}

-- an index or a count that does not fit is kept as the greatest that does
abbrev pub clip_call : Call → Call
clip_call (Get key) = Get (clip_reference key)
clip_call (Set key class value) = Set (clip_reference key) class value
clip_call (Free key) = Free (clip_reference key)
clip_call (Sweep name from to) = Sweep name (clip from) (clip to)
clip_call (Fill name class count value) = Fill name class (clip count) value
clip_call (Later key) = Later (clip_reference key)
clip_call (Retire most) = Retire (clip most)
clip_call call = call

-- so is the number of a thread or a shard
abbrev pub clip_line : Line → Line
clip_line (line.Call thread call) = line.Call (clip thread) (clip_call call)
clip_line (line.Adopt shard) = line.Adopt (clip shard)
clip_line line = line

-- the value is outside the range of all words
abbrev pub is_value_over : Call → Bool
is_value_over (Put name class value) = nat_le (2 ^ 128) value
is_value_over (Fill name class count value) = nat_le (2 ^ 128) value
is_value_over (Set key class value) = nat_le (2 ^ 128) value
is_value_over _ = false

-- the call as it is kept, or what its text alone shows to be wrong
abbrev pub within_call : Option Call → Result Call Cause
within_call None = Err Form
within_call (Some call) = if is_value_over call then Err Limit else Ok (clip_call call)

-- the line as it is kept, or what its text alone shows to be wrong
abbrev pub within : Option Line → Result Line Cause
within None = Err Form
within (Some line) = if is_call is_value_over line then Err Limit else Ok (clip_line line)

-- what is wrong with the number of a thread or a shard
abbrev pub thread_cause : Header → List Line → ℕ → Option Cause
thread_cause h before thread =
    if nat_le h.shards thread then Some Thread
    else (if has_ended before thread then Some Ended else None)

-- what is wrong with the number of the thread that makes the call
abbrev pub caller_cause : Header → List Line → ℕ → Call → Option Cause
caller_cause h before thread call =
    if nat_le h.shards thread then Some Thread
    else (if has_ended before thread && not (begins_again call) then Some Ended else None)

-- what is wrong with the name that a thread's call reads, or with when it comes
abbrev pub read_cause : List Line → ℕ → Call → Option Cause
read_cause before thread call =
    if reads_unknown before call then Some Unknown
    else (if comes_early before thread call then Some Early else None)

-- the first cause that holds of a line that has a form, where none is that it binds a name again
abbrev pub cause_but_bound : Header → List Line → Line → Option Cause
cause_but_bound h before line = find (holds h before line) (Limit ∷ Thread ∷ Ended ∷ Adopt ∷ Unknown
    ∷ Early ∷ [])

-- after those lines the bytes are this line, unless it binds a name again, and are then at fault by
-- that
abbrev pub IsNextUnlessBound : Header → List Line → List ℕ → Line → Type 0
IsNextUnlessBound h before bytes line =
    (is_call (binds_again before) line ≡ false → IsNextLine h before bytes line)
    × (is_call (binds_again before) line ≡ true → HasCause h before bytes Bound)
