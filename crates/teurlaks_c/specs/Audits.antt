-- The end of a recorded arena, and its audit.
use Rattle.std.specs.Prelude.{◌≡◌, ◌⊎◌, ℕ, List, Option, Some, Result, Err, IsOk, MatchResult, map, vec_len}
use Rattle.std.specs.Arc.{arc_value}
use Rattle.span.specs.ReceiptLists.{kept_receipts}
use Rattle.span.specs.SpanLogs.{AreLegal}
use Rattle.span.specs.declared.receipt.Receipt.{Receipt}
use Rattle.audit.specs.Agreement.{Agreement}
use Rattle.audit.specs.Faults.{FailsFirst}
use Rattle.audit.specs.History.{HaveHistories}
use Rattle.audit.specs.declared.fault.AuditCause.{AuditCause}
use Rattle.teurlaks_c.specs.declared.recorded.RecordedRun.{RecordedRun}
use Rattle.teurlaks_c.specs.declared.recorded.RecordedSteward.{RecordedSteward as Recorder}
use Rattle.teurlaks_c.specs.declared.share.Share.{Share}
use Rattle.teurlaks_c.specs.declared.share.Share.TheVariants.{RecordedSteward, Run}
use Rattle.teurlaks_c.specs.Recorded.{receipts_of}
use Rattle.teurlaks_c.specs.Status.{busy, cause_status, done, no_core, out_of_memory, unfinished}

-- the receipts of a run, a list for each seat
abbrev pub lists_of : RecordedRun → List (List Receipt)
lists_of run = map kept_receipts run.lists.items

-- each seat of the arena is with its steward
abbrev pub HasAllSeats : Recorder → Type 0
HasAllSeats steward = vec_len steward.seats ≡ (arc_value steward.arena).limits.shards

-- the run is that of the arena, whose seats are all back: its logs are legal, and its receipts are
-- those that the seats have kept
pub record IsRunOf (steward : Recorder) (run : RecordedRun) : Type 0 where
  pub all : HasAllSeats steward
  pub legal : AreLegal run.logs.items
  pub receipts : lists_of run ≡ map receipts_of steward.seats.items

-- the arena goes on: a seat is not back; or all are, but somebody else has a share of the arena, or
-- memory is refused
pub record GoesOn (before : Recorder) (says : ℕ) (after : Recorder) : Type 0 where
  pub arena_is : after.arena ≡ before.arena
  pub inner_is : after.inner ≡ before.inner
  pub seats_are : after.seats.items ≡ before.seats.items
  pub cause : ((says ≡ unfinished) × (HasAllSeats before → ⊥))
      ⊎ (HasAllSeats before × ((says ≡ busy) ⊎ (says ≡ out_of_memory)))

-- what C reads of the audit of a run: done only where its receipts agree with its logs, and so each
-- span has one history; else the part that fails first, or that memory was refused
abbrev pub SaysAudited : RecordedRun → ℕ → Type 0
SaysAudited run says =
    ((says ≡ done) × Agreement run.logs.items (lists_of run) × HaveHistories (lists_of run))
    ⊎ (((cause : AuditCause) × (says ≡ cause_status cause)
    × FailsFirst run.logs.items (lists_of run) cause) ⊎ (says ≡ out_of_memory))

-- the recorded arena of the handle ends and is audited, or goes on; one that has ended is audited
-- anew
abbrev pub AuditsRun : Option Share → ℕ → Option Share → Type 0
AuditsRun (Some (RecordedSteward steward)) says new =
    ((run : RecordedRun) × (new ≡ Some (Run run)) × IsRunOf steward run × SaysAudited run says)
    ⊎ ((after : Recorder) × (new ≡ Some (RecordedSteward after)) × GoesOn steward says after)
AuditsRun (Some (Run run)) says new = (new ≡ Some (Run run)) × SaysAudited run says
AuditsRun held says new = (says ≡ no_core) × (new ≡ held)

-- the arena leaves a run, or goes on; no public clause cites this, nor what comes below
abbrev pub Ends : Recorder → Result RecordedRun ℕ → Recorder → Type 0
Ends before answer after = MatchResult answer (IsRunOf before) (λ says. GoesOn before says after)

-- the same of what a handle has
abbrev pub EndsRun : Share → Result (Unit {0}) ℕ → Share → Type 0
EndsRun (RecordedSteward steward) answer new = MatchResult answer
    (λ ended. (run : RecordedRun) × (new ≡ Run run) × IsRunOf steward run)
    (λ says. (after : Recorder) × (new ≡ RecordedSteward after) × GoesOn steward says after)
EndsRun (Run run) answer new = IsOk answer × (new ≡ Run run)
EndsRun other answer new = MatchResult answer (λ ended. ⊥) (λ says. (says ≡ no_core)
    × (new ≡ other))

-- the run is held in place of what there was; where there is none, what there was stays
abbrev pub Holds : Share → Result RecordedRun ℕ → Result (Unit {0}) ℕ → Share → Type 0
Holds old ended answer new = MatchResult ended (λ run. IsOk answer
    × (new ≡ Run run)) (λ says. (answer ≡ Err says) × (new ≡ old))

-- what C reads of the audit of what a handle has
abbrev pub SaysAuditedShare : Share → ℕ → Type 0
SaysAuditedShare (Run run) says = SaysAudited run says
SaysAuditedShare other says = says ≡ no_core
