-- The tables of an audit: where each span's log stands, and which section made each change. No
-- public clause cites this module.
use Rattle.std.specs.Prelude.{◌≡◌, MatchOption, Vec, ℕ, ◌+◌, ◌-◌, ◌<◌, ◌≤◌, Bool, slice_set, true, false, Option, Some, None, List, [], ◌∷◌, length, map, replicate, suc, if◌then◌else◌, slice_get, slice_index_or, ◌++◌}
use Rattle.span.specs.declared.change.Change.{Change}
use Rattle.span.specs.declared.id.SpanId.{SpanId}
use Rattle.span.specs.declared.receipt.Receipt.{Receipt}
use Rattle.span.specs.Ids.{rank, same_span}
use Rattle.std.specs.List.Sorted.{IsNonDecreasingBy, IsPermutation}
use Rattle.span.specs.KeptLogs.{kept_changes}
use Rattle.span.specs.declared.span_log.SpanLog.{SpanLog}
use Rattle.audit.specs.Receipts.{log_of, makes_change}
use Rattle.audit.specs.Agreement.{CallMakes, ChangesHaveReceipts}
use Rattle.audit.specs.declared.log.LogPlace.{LogPlace}
use Rattle.audit.specs.declared.log.LogPlaces.{LogPlaces}
use Rattle.audit.specs.declared.row.Row.{Row}
use Rattle.audit.specs.declared.row.Sections.{Sections}
use Rattle.audit.specs.declared.row.Sections.TheVariants.{Same, Each}
use Rattle.std.specs.List.{flat_map}
use Rattle.std.specs.declared.alloc.Global.{Global}
use Rattle.span.specs.ReceiptLists.{kept_receipts}
use Rattle.span.specs.declared.receipt_list.ReceiptList.{ReceiptList}

-- each place is that of a span's log, and each log has its place
pub record ArePlaces (logs : List SpanLog) (places : List LogPlace) : Type 0 where
  pub only : (k : ℕ) (place : LogPlace) → slice_get places k ≡ Some place → (log : SpanLog)
      × (slice_get logs place.log ≡ Some log) × (log.span ≡ place.span)
  pub all : (j : ℕ) (log : SpanLog) → slice_get logs j ≡ Some log → (k : ℕ) × (place : LogPlace)
      × (slice_get places k ≡ Some place) × (place.log ≡ j)
  pub once : (i j : ℕ) (d : LogPlace) → i < j → j < length places → (slice_index_or places i d).log
      ≡ (slice_index_or places j d).log → ⊥

-- the same places, by the ranks of their spans
pub record AreSortedFrom (old new : List LogPlace) : Type 0 where
  pub permutation : IsPermutation old new
  pub sorted : IsNonDecreasingBy (λ place. rank place.span) new

-- each span comes after the one before it
abbrev pub AreByRank : List LogPlace → Type 0
AreByRank places = (i j : ℕ) (d : LogPlace) → i < j → j < length places
    → rank (slice_index_or places i d).span < rank (slice_index_or places j d).span

-- a span stands at two places, one behind the other
abbrev pub HasTwice : List LogPlace → Type 0
HasTwice places = (k : ℕ) × (k + 1 < length places)
    × ((d : LogPlace) → same_span (slice_index_or places k d).span
    (slice_index_or places (k + 1) d).span ≡ true)

-- no span stands at two places, one behind the other
abbrev pub HasNoneTwice : List LogPlace → Type 0
HasNoneTwice places = (k : ℕ) (d : LogPlace) → k + 1 < length places
    → same_span (slice_index_or places k d).span (slice_index_or places (k + 1) d).span ≡ false

-- the places of all logs, by the ranks of their spans
pub record IsTable (logs : List SpanLog) (table : LogPlaces) : Type 0 where
  pub places_are : ArePlaces logs table.by_rank.items
  pub sorted : AreByRank table.by_rank.items

-- where the span's log stands, or how many logs there are, if it has none
abbrev pub place_in : List SpanLog → SpanId → ℕ
place_in [] span = 0
place_in (log ∷ logs) span = if same_span log.span span then 0 else suc (place_in logs span)

-- no log is the span's
abbrev pub HasNoLog : List SpanLog → SpanId → Type 0
HasNoLog logs span = (log_of logs span ≡ []) × ((j : ℕ) (log : SpanLog)
    → slice_get logs j ≡ Some log → log.span ≡ span → ⊥)

-- the log at the index is the span's
abbrev pub IsLogAt : List SpanLog → SpanId → ℕ → Type 0
IsLogAt logs span j = (log : SpanLog) × (slice_get logs j ≡ Some log) × (log.span ≡ span)
    × (log_of logs span ≡ kept_changes log.log)

-- the call makes the change at its place of these
abbrev pub HasMade : List Change → Receipt → Type 0
HasMade changes receipt = (change : Change) × (slice_get changes receipt.at ≡ Some change)
    × CallMakes receipt.call receipt.key change

-- the call makes no change, or it makes the one at its place of its span's log
abbrev pub IsKnown : List SpanLog → Receipt → Type 0
IsKnown logs receipt = makes_change receipt ≡ true → HasMade (log_of logs receipt.key.span) receipt

-- the log at the index is that of the call's span, and has the call's change at its place
abbrev pub HasChangeOf : List SpanLog → Receipt → ℕ → Type 0
HasChangeOf logs receipt j = IsLogAt logs receipt.key.span j × IsKnown logs receipt
    × (receipt.at < length (log_of logs receipt.key.span))

-- the call makes a change of the span at this place
pub record MakesAt (span : SpanId) (at : ℕ) (receipt : Receipt) : Type 0 where
  pub makes : makes_change receipt ≡ true
  pub same_span : receipt.key.span ≡ span
  pub same_place : receipt.at ≡ at

-- each call that makes a change makes that of its place, and no two of them make the same
pub record MakeChanges (logs : List SpanLog) (calls : List Receipt) : Type 0 where
  pub known : (k : ℕ) (receipt : Receipt) → slice_get calls k ≡ Some receipt → IsKnown logs receipt
  pub once : (k l : ℕ) (a b : Receipt) → slice_get calls k ≡ Some a → slice_get calls l ≡ Some b
      → makes_change a ≡ true → makes_change b ≡ true
      → a.key.span ≡ b.key.span → a.at ≡ b.at → k ≡ l

-- the row has the section of the call that makes each change of the span, where one of the calls
-- does, and nothing elsewhere
pub record IsRowOf (calls : List Receipt) (log : SpanLog) (row : List (Option ℕ)) : Type 0 where
  pub len : length row ≡ length (kept_changes log.log)
  pub marked : (k at : ℕ) (receipt : Receipt) → slice_get calls k ≡ Some receipt
      → MakesAt log.span at receipt → slice_index_or row at None ≡ Some receipt.section
  pub made : (at section : ℕ) → slice_index_or row at None ≡ Some section
      → (k : ℕ) × (receipt : Receipt) × (slice_get calls k ≡ Some receipt)
      × MakesAt log.span at receipt × (receipt.section ≡ section)

-- a row for each log
pub record AreRowsOf (calls : List Receipt) (logs : List SpanLog) (rows : List (List (Option ℕ))) :
    Type 0 where
  pub len : length rows ≡ length logs
  pub each : (j : ℕ) (log : SpanLog) (row : List (Option ℕ)) → slice_get logs j ≡ Some log
      → slice_get rows j ≡ Some row → IsRowOf calls log row

-- the calls make changes, no two the same, and are entered in the rows
pub record AreEntered (logs : List SpanLog) (calls : List Receipt) (rows : List (List (Option ℕ))) :
    Type 0 where
  pub good : MakeChanges logs calls
  pub rows_are : AreRowsOf calls logs rows

-- the calls were entered; or they were not, since some call makes another change than that of its
-- place, or two make the same
abbrev pub WereEntered : List SpanLog → List Receipt → List (List (Option ℕ)) → Bool → Type 0
WereEntered logs calls rows true = AreEntered logs calls rows
WereEntered logs calls rows false = MakeChanges logs calls → ⊥

-- the sections of a row, where they were told
abbrev pub told_sections : List ℕ → List Bool → List (Option ℕ)
told_sections (section ∷ sections) (told ∷ more) =
    (if told then Some section else None) ∷ told_sections sections more
told_sections sections told = []

-- a row that fills: the section of each change that has one
abbrev pub filled_row : Row → List (Option ℕ)
filled_row row = told_sections row.sections.items row.told.items

-- the place of the row has had no section, and has this one
abbrev pub IsMarked : List (Option ℕ) → ℕ → ℕ → List (Option ℕ) → Type 0
IsMarked old at section new = (at < length old) × (slice_index_or old at None ≡ None)
    × (new ≡ slice_set old at (Some section))

-- rows in which some calls are entered have these calls entered too; or not, since some call makes
-- another change than that of its place, or two make the same
abbrev pub WereEnteredToo : List SpanLog → List Receipt → List Row → List Row → Bool → Type 0
WereEnteredToo logs calls old new done = (before : List Receipt)
    → AreEntered logs before (map filled_row old)
    → WereEntered logs (before ++ calls) (map filled_row new) done

-- the sections of a log's changes
abbrev pub sections_in : Sections → List ℕ
sections_in (Same section changes) = replicate changes section
sections_in (Each sections) = sections.items

-- a row that is full: each change has its section
abbrev pub full_row : Sections → List (Option ℕ)
full_row row = map Some (sections_in row)

-- each place of the row has a section
abbrev pub IsFull : List (Option ℕ) → Type 0
IsFull row = (at : ℕ) → at < length row → slice_index_or row at None ≡ None → ⊥

-- each place of each row has a section
abbrev pub AreFull : List (List (Option ℕ)) → Type 0
AreFull rows = (j : ℕ) (row : List (Option ℕ)) → slice_get rows j ≡ Some row → IsFull row

-- the changes have their receipts, and the rows their sections; or they have not, and there are no
-- rows
abbrev pub GiveSections : List SpanLog → List ReceiptList → Option (Vec Sections Global) → Type 0
GiveSections logs lists rows = MatchOption rows
    (ChangesHaveReceipts logs (map kept_receipts lists) → ⊥)
    (λ rows. ChangesHaveReceipts logs (map kept_receipts lists)
    × AreEntered logs (flat_map kept_receipts lists) (map full_row rows.items)
    × AreFull (map full_row rows.items))

-- the section is none lower than that of the change before the place, and none higher than that of
-- the change at it
pub record IsBetween (row : List (Option ℕ)) (at section : ℕ) : Type 0 where
  pub after : (s : ℕ) → 1 ≤ at → slice_index_or row (at - 1) None ≡ Some s → s ≤ section
  pub before : (s : ℕ) → slice_index_or row at None ≡ Some s → section ≤ s

-- the call's section stands between those of the changes at its place
abbrev pub StandsBetween : List SpanLog → List (List (Option ℕ)) → Receipt → Type 0
StandsBetween logs rows receipt = (j : ℕ) (log : SpanLog) (row : List (Option ℕ))
    → slice_get logs j ≡ Some log → log.span ≡ receipt.key.span
    → slice_get rows j ≡ Some row → IsBetween row receipt.at receipt.section
