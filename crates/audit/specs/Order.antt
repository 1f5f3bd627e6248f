-- What the walk over a worker's calls keeps. No public clause cites this module.
use Rattle.std.specs.Prelude.{◌≡◌, ℕ, ◌+◌, ◌<◌, ◌≤◌, ◌⊎◌, Some, List, [], slice_get, slice_index_or}
use Rattle.span.specs.declared.receipt.Receipt.{Receipt}
use Rattle.span.specs.declared.span_log.SpanLog.{SpanLog}
use Rattle.audit.specs.Receipts.{changes_after, log_of}
use Rattle.audit.specs.Tables.{place_in}

-- the call at the index has a lower section than the one before it
abbrev pub GoesBack : List Receipt → ℕ → Type 0
GoesBack list i = (k : ℕ) × (a b : Receipt) × (k + 1 ≡ i) × (slice_get list k ≡ Some a)
    × (slice_get list i ≡ Some b) × (b.section < a.section)

-- for each span, by the place of its log, the table has no less than what any call before the index
-- left, and no more than what one of them left
pub record IsLeftBelow (logs : List SpanLog) (list : List Receipt) (n : ℕ) (left : List ℕ) :
    Type 0 where
  pub most : (k : ℕ) (r : Receipt) → k < n → slice_get list k ≡ Some r
      → changes_after r ≤ slice_index_or left (place_in logs r.key.span) 0
  pub from : (q : ℕ) → (slice_index_or left q 0 ≡ 0)
      ⊎ ((k : ℕ) × (r : Receipt) × (k < n) × (slice_get list k ≡ Some r)
      × (place_in logs r.key.span ≡ q) × (changes_after r ≡ slice_index_or left q 0))

-- what stands in the table at a place is nothing, or a call from the index on is on the span of
-- that place
abbrev pub IsLeftFrom : List SpanLog → List Receipt → ℕ → List ℕ → Type 0
IsLeftFrom logs list n left = (q : ℕ) → (slice_index_or left q 0 ≡ 0)
    ⊎ ((k : ℕ) × (r : Receipt) × (n ≤ k) × (slice_get list k ≡ Some r)
    × (place_in logs r.key.span ≡ q))

-- nothing stands in the table
abbrev pub IsClear : List ℕ → Type 0
IsClear left = (q : ℕ) → slice_index_or left q 0 ≡ 0

-- a call on a span that has no log, or an empty one, leaves no change
abbrev pub LeavesNothing : List SpanLog → Receipt → Type 0
LeavesNothing logs receipt = log_of logs receipt.key.span ≡ [] → changes_after receipt ≡ 0

-- the same of each call of a worker
abbrev pub LeaveNothing : List SpanLog → List Receipt → Type 0
LeaveNothing logs list = (i : ℕ) (receipt : Receipt) → slice_get list i ≡ Some receipt
    → LeavesNothing logs receipt
