-- What comes of the calls of each worker, and of all. No public clause cites this module.
use Rattle.std.specs.Prelude.{◌≡◌, ℕ, ◌<◌, Option, None, Some, List, [], length, map, slice_get, slice_index_or, vec_items}
use Rattle.span.specs.declared.receipt.Receipt.{Receipt}
use Rattle.span.specs.declared.span_log.SpanLog.{SpanLog}
use Rattle.audit.specs.declared.fault.AuditCause.{AuditCause}
use Rattle.audit.specs.declared.fault.AuditCause.TheVariants as Cause
use Rattle.audit.specs.declared.verdict.Verdict.{Verdict}
use Rattle.audit.specs.declared.verdict.Verdict.TheVariants as verdict
use Rattle.audit.specs.Agreement.{IsInOrder, IsRightReply}
use Rattle.audit.specs.Slots.{AreBySlot}
use Rattle.audit.specs.Tables.{IsKnown, IsTable, StandsBetween, full_row}
use Rattle.audit.specs.declared.log.LogPlaces.{LogPlaces}
use Rattle.audit.specs.declared.slot.SlotChange.{SlotChange}
use Rattle.audit.specs.declared.records.Records.{Records}

-- each call of a worker was answered as its span's log says
abbrev pub IsRightList : List SpanLog → List Receipt → Type 0
IsRightList logs list = (i : ℕ) (receipt : Receipt) → slice_get list i ≡ Some receipt
    → IsRightReply logs receipt

-- the section of each call of a worker stands between those of the changes at its place
abbrev pub StandBetween : List SpanLog → List (List (Option ℕ)) → List Receipt → Type 0
StandBetween logs rows list = (i : ℕ) (receipt : Receipt) → slice_get list i ≡ Some receipt
    → StandsBetween logs rows receipt

-- each call of a worker that makes a change makes that of its place
abbrev pub AreKnown : List SpanLog → List Receipt → Type 0
AreKnown logs list = (i : ℕ) (receipt : Receipt) → slice_get list i ≡ Some receipt
    → IsKnown logs receipt

-- the tables are those of the logs, with a row for each
pub record AreRecords (logs : List SpanLog) (table : LogPlaces) (rows : List (List (Option ℕ)))
    (orders : List (List SlotChange)) : Type 0 where
  pub table_is : IsTable logs table
  pub rows_len : length rows ≡ length logs
  pub orders_len : length orders ≡ length logs
  pub orders_are : AreBySlot logs orders

-- the tables that the records carry are those of their logs
abbrev pub CarryTables : Records → Type 0
CarryTables records = AreRecords records.logs.now records.table.now
    (map full_row records.sections.now) (map vec_items records.orders.now)

-- what a verdict says of a worker's calls: which part they fail first; nothing where memory ran out
abbrev pub IsVerdict : List SpanLog → List (List (Option ℕ)) → List Receipt → Verdict → Type 0
IsVerdict logs rows list verdict.Passed = IsRightList logs list × IsInOrder list
    × StandBetween logs rows list
IsVerdict logs rows list verdict.Reply = ¬ IsRightList logs list
IsVerdict logs rows list verdict.Order = IsRightList logs list × (¬ IsInOrder list)
IsVerdict logs rows list verdict.Barrier = IsRightList logs list × IsInOrder list
    × (¬ StandBetween logs rows list)
IsVerdict logs rows list verdict.OutOfMemory = Unit {0}

-- what a verdict says of a worker's calls, held against the records
abbrev pub IsVerdictBy : Records → List Receipt → Verdict → Type 0
IsVerdictBy records list verdict = IsVerdict records.logs.now (map full_row records.sections.now)
    list verdict

-- a verdict for each list
pub record AreVerdicts (logs : List SpanLog) (rows : List (List (Option ℕ)))
    (lists : List (List Receipt)) (verdicts : List Verdict) : Type 0 where
  pub len : length verdicts ≡ length lists
  pub each : (w : ℕ) → w < length lists → IsVerdict logs rows (slice_index_or lists w [])
      (slice_index_or verdicts w verdict.OutOfMemory)

-- some worker's calls came to this
abbrev pub HasVerdict : List Verdict → Verdict → Type 0
HasVerdict verdicts v = (w : ℕ) × (w < length verdicts)
    × (slice_index_or verdicts w verdict.OutOfMemory ≡ v)

-- the first part that fails in the calls of any worker; memory ran out for none
abbrev pub IsFirstCause : List Verdict → Option AuditCause → Type 0
IsFirstCause verdicts None = (¬ HasVerdict verdicts verdict.OutOfMemory)
    × (¬ HasVerdict verdicts verdict.Reply) × (¬ HasVerdict verdicts verdict.Order)
    × (¬ HasVerdict verdicts verdict.Barrier)
IsFirstCause verdicts (Some Cause.Reply) = HasVerdict verdicts verdict.Reply
IsFirstCause verdicts (Some Cause.Order) = HasVerdict verdicts verdict.Order
    × (¬ HasVerdict verdicts verdict.OutOfMemory) × (¬ HasVerdict verdicts verdict.Reply)
IsFirstCause verdicts (Some Cause.Barrier) =
    HasVerdict verdicts verdict.Barrier × (¬ HasVerdict verdicts verdict.OutOfMemory)
    × (¬ HasVerdict verdicts verdict.Reply) × (¬ HasVerdict verdicts verdict.Order)
IsFirstCause verdicts (Some _) = ⊥
