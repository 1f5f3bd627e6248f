-- When the receipts of all workers agree with the logs of all spans. The parts stand in the order
-- in which they are looked at.
use Rattle.std.specs.Prelude.{◌≡◌, ℕ, ◌<◌, ◌≤◌, true, Option, None, Some, is_some, List, [], length, take, slice_get, slice_index_or}
use Rattle.span.specs.declared.change.Change.{Change}
use Rattle.span.specs.declared.id.SpanId.{SpanId}
use Rattle.span.specs.declared.key.Key.{Key}
use Rattle.span.specs.declared.receipt.Call.{Call}
use Rattle.span.specs.declared.receipt.Receipt.{Receipt}
use Rattle.span.specs.KeptLogs.{kept_changes}
use Rattle.span.specs.Log.{IsLegal, IsOfClass, Value}
use Rattle.span.specs.declared.span_log.SpanLog.{SpanLog}
use Rattle.audit.specs.Receipts.{CanBeSet, IsAt, log_of, makes_change, changes_after, value_after}

-- no span has two logs
abbrev pub HaveOneSpanEach : List SpanLog → Type 0
HaveOneSpanEach logs = (i j : ℕ) (a b : SpanLog) → slice_get logs i ≡ Some a
    → slice_get logs j ≡ Some b → a.span ≡ b.span → i ≡ j

-- the log is legal for the greatest generation that it names, and each change is of the class that
-- it names
pub record IsLegalLog (log : SpanLog) : Type 0 where
  pub legal : IsLegal log.gens (kept_changes log.log)
  pub of_class : IsOfClass log.class (kept_changes log.log)

-- no span has two logs, and each log is legal
pub record LogsAreLegal (logs : List SpanLog) : Type 0 where
  pub one : HaveOneSpanEach logs
  pub legal : (i : ℕ) (log : SpanLog) → slice_get logs i ≡ Some log → IsLegalLog log

-- a put's receipt is of a Put, a set's of a Set and a free's of a Free, with the change's key and
-- value
abbrev pub CallMakes : Call → Key → Change → Type 0
CallMakes (Call.Put value) key (Change.Put slot generation put_value) = (key.slot ≡ slot)
    × (key.generation ≡ generation) × (value ≡ put_value)
CallMakes (Call.Set value) key (Change.Set slot generation set_value) = (key.slot ≡ slot)
    × (key.generation ≡ generation) × (value ≡ set_value)
CallMakes Call.Freed key (Change.Free slot generation) = (key.slot ≡ slot)
    × (key.generation ≡ generation)
CallMakes _ _ _ = ⊥

-- the receipt is that of the change at a place of the span's log
pub record IsOfChange (span : SpanId) (at : ℕ) (change : Change) (receipt : Receipt) : Type 0 where
  pub makes : makes_change receipt ≡ true
  pub same_span : receipt.key.span ≡ span
  pub same_place : receipt.at ≡ at
  pub same_change : CallMakes receipt.call receipt.key change

-- each change has exactly one receipt, and each receipt that makes a change is that of a change
pub record ChangesHaveReceipts (logs : List SpanLog) (lists : List (List Receipt)) : Type 0 where
  pub some : (span : SpanId) (at : ℕ) (change : Change) → slice_get (log_of logs span) at
      ≡ Some change
      → (worker index : ℕ) × (receipt : Receipt) × IsAt lists worker index receipt
      × IsOfChange span at change receipt
  pub once : (v i w j : ℕ) (a b : Receipt) → IsAt lists v i a → IsAt lists w j b
      → makes_change a ≡ true → makes_change b ≡ true
      → a.key.span ≡ b.key.span → a.at ≡ b.at → (v ≡ w) × (i ≡ j)
  pub known : (w i : ℕ) (receipt : Receipt) → IsAt lists w i receipt → makes_change receipt ≡ true
      → (change : Change) × (slice_get (log_of logs receipt.key.span) receipt.at ≡ Some change)
      × CallMakes receipt.call receipt.key change

-- the call was answered as a key with this value, if any, answers it: a look-up finds the value, a
-- set is done where there is one of its class, and a free where there is one
abbrev pub IsAnswered : Call → Option Value → Type 0
IsAnswered (Call.Put put_value) value = Unit {0}
IsAnswered (Call.Found found) value = value ≡ Some found
IsAnswered Call.NotFound value = value ≡ None
IsAnswered (Call.Set new) value = CanBeSet value new
IsAnswered (Call.NotSet new) value = ¬ CanBeSet value new
IsAnswered Call.Freed value = is_some value ≡ true
IsAnswered Call.NotFreed value = value ≡ None

-- the call stands at a place of its span's log, and was answered as the changes before this place
-- say
abbrev pub IsRightReply : List SpanLog → Receipt → Type 0
IsRightReply logs receipt =
    let changes = log_of logs receipt.key.span in
    (receipt.at ≤ length changes) × IsAnswered receipt.call
    (value_after (take receipt.at changes) receipt.key)

-- every call was answered so
abbrev pub RepliesAreRight : List SpanLog → List (List Receipt) → Type 0
RepliesAreRight logs lists = (w i : ℕ) (receipt : Receipt) → IsAt lists w i receipt
    → IsRightReply logs receipt

-- of two calls of a worker the later has no lower section, and on the same span it stands at no
-- place before the changes that the earlier left
abbrev pub IsInOrder : List Receipt → Type 0
IsInOrder list = (i j : ℕ) (a b : Receipt) → slice_get list i ≡ Some a → slice_get list j ≡ Some b
    → i < j →
    (a.section ≤ b.section) × (a.key.span ≡ b.key.span → changes_after a ≤ b.at)

-- the calls of each worker stand in the order of its list
abbrev pub WorkersAreInOrder : List (List Receipt) → Type 0
WorkersAreInOrder lists = (w : ℕ) → IsInOrder (slice_index_or lists w [])

-- a call stands at no place before the changes that any call on its span in a section of lower
-- number left
abbrev pub SectionsAreInOrder : List (List Receipt) → Type 0
SectionsAreInOrder lists = (v i w j : ℕ) (a b : Receipt) → IsAt lists v i a → IsAt lists w j b
    → a.key.span ≡ b.key.span →
    a.section < b.section → changes_after a ≤ b.at

-- the receipts, one list a worker, agree with the logs
pub record Agreement (logs : List SpanLog) (lists : List (List Receipt)) : Type 0 where
  pub log : LogsAreLegal logs
  pub change : ChangesHaveReceipts logs lists
  pub reply : RepliesAreRight logs lists
  pub order : WorkersAreInOrder lists
  pub barrier : SectionsAreInOrder lists
