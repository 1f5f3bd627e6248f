-- What the threads and the steward of a run do in its sections, by what each keeps. No public
-- clause cites this module.
use Rattle.std.specs.Prelude.{◌≡◌, ◌+◌, ℕ, Bool, true, List, None, take}
use Rattle.std.specs.List.{AllByRecursion}
use Rattle.arena.specs.Seats.{SeatState, Table}
use Rattle.trace_text.specs.Causes.{keys_in}
use Rattle.trace_text.specs.Places.{place_by}
use Rattle.trace_text.specs.declared.line.Call.{Call}
use Rattle.trace_text.specs.declared.line.Line.{Line}
use Rattle.thread_runner.specs.Asked.{Asked, GivenKeys, asked_at}
use Rattle.thread_runner.specs.Followed.{carried_by}
use Rattle.thread_runner.specs.Grown.{HaveNothing, Rests, Tells, TellsTending}
use Rattle.thread_runner.specs.Known.{AreKnown}
use Rattle.thread_runner.specs.Marked.{barrier_from, is_mark_at, marks_above}
use Rattle.thread_runner.specs.Noted.{HaveCome, plan_pairs}
use Rattle.thread_runner.specs.declared.caller.Caller.{Caller}
use Rattle.thread_runner.specs.declared.caller.Spot.{Spot}
use Rattle.thread_runner.specs.declared.keys.Given.{Given}
use Rattle.thread_runner.specs.declared.layout.Text.{Text}
use Rattle.thread_runner.specs.declared.plans.Plans.{Plans}
use Rattle.thread_runner.specs.declared.worker.Resting.{Resting}

-- ---- a thread at its lines

-- the spot has the places of the keys that the call below those lines binds and reads
abbrev pub IsSpotOf : List Line → Call → Spot → Type 0
IsSpotOf above call spot = (spot.binds ≡ keys_in above) × (spot.reads ≡ place_by above call)

-- the thread goes on by what came of all that the line of that number asks it for, where that is
-- kept of the puts of earlier sections
abbrev pub TellsFrom : {G : Type 0} → (number : ℕ) → List Asked → (kept : List Given)
    → (old new : Caller G) → Type 0
TellsFrom number asked kept old new =
    Tells old.seat.section old.seat.worker number asked (AreKnown kept old.fresh.items)
    (AreKnown kept new.fresh.items) old.diary new.diary (carried_by old.seat) (carried_by new.seat)

-- so it goes on at the line at that place of the text
abbrev pub TellsLine : {G : Type 0} → Text → (place : ℕ) → Line → (kept : List Given)
    → (old new : Caller G) → Type 0
TellsLine text place line kept old new =
    TellsFrom (place + 6) (asked_at (take place text.trace.now.lines.items) line) kept old new

-- the thread goes on by the frees of so many keys that had come in on its rings
abbrev pub TellsTaken : {G : Type 0} → (count : ℕ) → (old new : Caller G) → Type 0
TellsTaken count old new =
    TellsTending old.seat.section old.seat.worker count old.diary new.diary
    (carried_by old.seat) (carried_by new.seat)

-- ---- a thread between two sections

-- no section was run in the seat, and its rings have carried nothing
abbrev pub IsUnused : SeatState → Type 0
IsUnused seat = (seat.section ≡ 0) × HaveNothing (carried_by seat)

-- the thread rests below the section of that number, where so much is known of the keys that puts
-- gave
abbrev pub IsResting : {G : Type 0} → List Line → (shown : Bool) → Table
    → (knows : GivenKeys → Type 0) → (section : ℕ) → Resting G → Type 0
IsResting lines shown table knows section one =
    Rests lines shown table knows section one.caller.seat one.done one.caller.diary

-- so do all these threads
abbrev pub AreResting : {G : Type 0} → List Line → (shown : Bool) → Table
    → (knows : GivenKeys → Type 0) → (section : ℕ) → List (Resting G) → Type 0
AreResting {G} lines shown table knows section threads =
    AllByRecursion (λ (one : Resting G). IsResting lines shown table knows section one) threads

-- ---- the steward's notes

-- all marks above that place are noted, and the plan of the last may be open
abbrev pub NotesTo : {G : Type 0} → List Line → (above : ℕ) → Plans G → Type 0
NotesTo lines above plans = HaveCome lines above (plan_pairs plans.steward.plan) plans.minutes

-- all marks above that place are noted, and the plan of the last is closed
abbrev pub NotesAll : {G : Type 0} → List Line → (above : ℕ) → Plans G → Type 0
NotesAll lines above plans = HaveCome lines above None plans.minutes

-- a section begins at the first place, its barrier at the second, and it ends with the mark at the
-- third, above which it has no other
abbrev pub IsSection : List Line → (from barrier end : ℕ) → Type 0
IsSection lines from barrier end = (barrier ≡ barrier_from lines from)
    × (marks_above lines end ≡ marks_above lines from) × (is_mark_at lines end ≡ true)
