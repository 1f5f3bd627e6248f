-- What receipts say, and where they stand.
use Rattle.std.specs.Prelude.{◌≡◌, ℕ, ◌+◌, Bool, true, false, if◌then◌else◌, Option, Some, IsSomeAnd, List, [], ◌∷◌, length, slice_get}
use Rattle.std.specs.List.{slice_index_or}
use Rattle.span.specs.declared.change.Change.{Change}
use Rattle.span.specs.declared.id.SpanId.{SpanId}
use Rattle.span.specs.declared.key.Key.{Key}
use Rattle.span.specs.declared.receipt.Call.{Call}
use Rattle.span.specs.declared.receipt.Receipt.{Receipt}
use Rattle.span.specs.KeptLogs.{kept_changes}
use Rattle.span.specs.Log.{Value, value_in}
use Rattle.span.specs.Ids.{same_span}
use Rattle.span.specs.declared.span_log.SpanLog.{SpanLog}

-- the call makes a change: a put does, and a set and a free that were done
abbrev pub is_change : Call → Bool
is_change (Call.Put value) = true
is_change (Call.Set value) = true
is_change Call.Freed = true
is_change _ = false

-- the receipt's call makes a change
abbrev pub makes_change : Receipt → Bool
makes_change receipt = is_change receipt.call

-- how many changes stood in the span's log after the call
abbrev pub changes_after : Receipt → ℕ
changes_after receipt = if makes_change receipt then receipt.at + 1 else receipt.at

-- the receipt at an index of a worker's list
abbrev pub IsAt : List (List Receipt) → ℕ → ℕ → Receipt → Type 0
IsAt lists worker index receipt = slice_get (slice_index_or lists worker []) index ≡ Some receipt

-- the changes of a span: those of the first log that is the span's, and none where there is no such
-- log
abbrev pub log_of : List SpanLog → SpanId → List Change
log_of [] span = []
log_of (log ∷ logs) span = if same_span log.span span then kept_changes log.log else
    log_of logs span

-- the value that a key has after the changes, if any
abbrev pub value_after : List Change → Key → Option Value
value_after changes key = value_in changes key.slot key.generation

-- a key with this value, if any, can be set to the new one: it has a value, and the new one is of
-- its class, since it has as many words
abbrev pub CanBeSet : Option Value → Value → Type 0
CanBeSet value new = IsSomeAnd value (λ old. length old ≡ length new)
