-- What the calls of a seat do in a session, in which it keeps its shard.
use Rattle.std.specs.Prelude.{◌≡◌, ℕ, Bool, true, false, None, Ok, Err, OnErr, OnOk, Option, Result, Some, length}
use Rattle.std.specs.declared.alloc.AllocError.{AllocError}
use Rattle.groups.specs.Group.{IsElsewhere}
use Rattle.span.specs.Classes.{width_of}
use Rattle.span.specs.Log.{Value}
use Rattle.span.specs.PlainMap as plain
use Rattle.span.specs.declared.class.Class.{Class}
use Rattle.span.specs.declared.key.Key.{Key}
use Rattle.shard.specs.Calls.{Gets, IsSpent, Puts}
use Rattle.shard.specs.Shown.{shown}
use Rattle.shard.specs.State.{ShardState}
use Rattle.shard.specs.declared.error.PutError.{PutError}
use Rattle.shard.specs.declared.error.PutError.TheVariants.{Ended, OutOfMemory, PagesSpent}
use Rattle.shard.specs.declared.shard.Found.{Found}
use Rattle.latch.specs.declared.latch.Busy.{Busy}
use Rattle.arena.specs.Delays.{CountsCall}
use Rattle.arena.specs.Seats.{SeatState}
use Rattle.arena.specs.Sessions.{FreesFirstIn, IsSpentRunning, MaySetHere, SetsFirstIn}
use Rattle.arena.specs.KeyAnswers.{changes_at}
use Rattle.teurlaks_c.specs.declared.share.Share.{Share}
use Rattle.teurlaks_c.specs.declared.share.Share.TheVariants.{Seat, Session}
use Rattle.teurlaks_c.specs.declared.share.SharedSeat.{SharedSeat}
use Rattle.teurlaks_c.specs.declared.share.SharedSession.{SharedSession}

-- a session: the seat, and the shard that it keeps
pub record Held : Type 0 where
  pub seat : SeatState
  pub shard : ShardState

abbrev pub held : SharedSession → Held
held shared = record { seat = shared.session.seat; shard = shared.session.shard.value.value }

-- the session of the handle, where it has one, is over: its seat stays, at the same arena; what has
-- no session stays as it was
abbrev pub IsPaused : Option Share → Option Share → Type 0
IsPaused (Some (Session before)) new =
    (after : SharedSeat) × (new ≡ Some (Seat after)) × (after.arena ≡ before.session.arena)
    × (after.seat ≡ before.session.seat)
IsPaused old new = new ≡ old

-- the seat of the handle keeps its shard, at the same arena; where it did so before it stays as it
-- was
abbrev pub IsHeld : Option Share → Option Share → Type 0
IsHeld (Some (Seat before)) new =
    (after : SharedSession) × (new ≡ Some (Session after)) × (after.session.arena ≡ before.arena)
    × (after.session.seat ≡ before.seat)
IsHeld (Some (Session before)) new = new ≡ Some (Session before)
IsHeld old new = ⊥

-- the seat of the handle, which keeps no shard, stays as it was, at the same arena
abbrev pub StaysSeat : Option Share → Option Share → Type 0
StaysSeat (Some (Seat before)) new = (after : SharedSeat) × (new ≡ Some (Seat after))
    × (after.arena ≡ before.arena) × (after.seat ≡ before.seat)
StaysSeat old new = ⊥

-- the handle has a session
abbrev pub HasSession : Option Share → Type 0
HasSession (Some (Session shared)) = Unit {0}
HasSession share = ⊥

-- the seat of the handle does this in its session and answers that, at the same arena, and the
-- session goes on
pub record InSession {Answer : Type 0} (does : Held → Answer → Held
    → Type 0) (old : Option Share) (answer : Answer) (new : Option Share) : Type 0 where
  pub before : SharedSession
  pub after : SharedSession
  pub before_is : old ≡ Some (Session before)
  pub after_is : new ≡ Some (Session after)
  pub arena_is : after.session.arena ≡ before.session.arena
  pub did : does (held before) answer (held after)

-- the seat of the handle gives its shard back, does this without a session and answers that, at the
-- same arena
pub record AtPaused {Answer : Type 0} (does : SeatState → Answer → SeatState → Type 0)
    (old : Option Share) (answer : Answer) (new : Option Share) : Type 0 where
  pub before : SharedSession
  pub after : SharedSeat
  pub before_is : old ≡ Some (Session before)
  pub after_is : new ≡ Some (Seat after)
  pub arena_is : after.arena ≡ before.session.arena
  pub did : does before.session.seat answer after.seat

-- a put of an object of the class is refused for just this cause
abbrev pub IsRefused : Class → ShardState → PutError → Type 0
IsRefused class shard Ended = shard.ended ≡ true
IsRefused class shard PagesSpent = IsSpentRunning class shard
IsRefused class shard OutOfMemory = (shard.ended ≡ false) × (IsSpent class shard → ⊥)

-- an object of the class is put into the session's shard, or refused for its cause, with the shard
-- as it was; no other thread is ever in the way
abbrev pub PutsOf : Class → Value → Held → Result (Result (Key × ℕ) PutError) Busy → Held → Type 0
PutsOf class words before (Ok (Ok put)) after = Puts before.shard class words put.0 put.1
    after.shard
PutsOf class words before (Ok (Err error)) after = IsRefused class before.shard error
    × (after.shard ≡ before.shard)
PutsOf class words before (Err busy) after = ⊥

-- the object of these words is put so, and it is one call of the seat more
abbrev pub PutsHeld : Value → Held → Result (Result (Key × ℕ) PutError) Busy → Held → Type 0
PutsHeld words before answer after =
    ((class : Class) × (length words ≡ width_of class) × PutsOf class words before answer after)
    × CountsCall before.seat after.seat

-- what a look-up answers of a key whose span the session's shard has: its value there, and how many
-- changes the span's log has
abbrev pub AnswersOwn : Option ℕ → Option Value → Result (Option Value × ℕ) Busy → Type 0
AnswersOwn (Some at) value answer = answer ≡ Ok (value, at)
AnswersOwn None value answer = Unit {0}

-- the key is looked up in the session's shard, and elsewhere only where that does not have its span
abbrev pub GetsHeld : Key → Held → Result (Option Value × ℕ) Busy → Held → Type 0
GetsHeld key before answer after =
    ((what : Found) × Gets before.shard key what × AnswersOwn (changes_at what)
    ((shown before.shard).value_of key) answer)
    × (after.shard ≡ before.shard) × OnOk answer (CountsCall before.seat after.seat)
    × OnErr answer (after.seat ≡ before.seat)

-- the key is set in the session's shard, and elsewhere only where that does not have its span;
-- where memory is refused or another thread is in the way, nothing changes here
abbrev pub SetsHeld : Key → Value → Held → Result (Result (Key × Bool × ℕ) AllocError) Busy → Held
    → Type 0
SetsHeld key words before (Ok (Ok told)) after = (told.0 ≡ key)
    × SetsFirstIn before.shard key words told after.shard × CountsCall before.seat after.seat
SetsHeld key words before (Ok (Err error)) after =
    MaySetHere before.shard key words × (after.shard ≡ before.shard)
    × CountsCall before.seat after.seat
SetsHeld key words before (Err busy) after = IsElsewhere before.shard.groups key.span
    × (after.seat ≡ before.seat) × (after.shard ≡ before.shard)

-- the key is freed in the session's shard, and elsewhere only where that does not have its span
abbrev pub FreesHeld : Key → Held → Result (Key × Bool × ℕ) Busy → Held → Type 0
FreesHeld key before (Ok told) after = (told.0 ≡ key)
    × FreesFirstIn before.shard key told after.shard × CountsCall before.seat after.seat
FreesHeld key before (Err busy) after = IsElsewhere before.shard.groups key.span
    × (after.seat ≡ before.seat) × (after.shard ≡ before.shard)

-- what a call does that asks the seat alone, whose shard stays
abbrev pub AtHeldSeat : {Answer : Type 0} → (SeatState → Answer → SeatState → Type 0) → Held
    → Answer → Held → Type 0
AtHeldSeat does before answer after = does before.seat answer after.seat
    × (after.shard ≡ before.shard)
