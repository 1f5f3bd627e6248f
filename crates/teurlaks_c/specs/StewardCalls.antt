-- What the calls on the steward of an arena do.
use Rattle.std.specs.Prelude.{◌≡◌, ◌≤◌, ℕ, All, List, Bool, true, false, Option, Some, None, Result, Ok, Err, IfOk, IsErr, IsSome, ◌↔◌, OnErr, OnOk, MatchOption, MatchResult, is_some, ◌++◌, ◌∷◌, [], ◌⊎◌, vec_len}
use Rattle.std.specs.declared.alloc.AllocError.{AllocError}
use Rattle.std.specs.declared.alloc.Global.{Global}
use Rattle.std.specs.declared.boxed.Box.{Box}
use Rattle.certificate.specs.declared.certificate.Certificate.{Certificate}
use Rattle.latch.specs.declared.latch.Busy.{Busy}
use Rattle.arena_core.specs.declared.reply.Refusal.TheVariants.{PlanOpen as PlanIsOpen}
use Rattle.marks.specs.declared.error.MarkError.{MarkError}
use Rattle.marks.specs.declared.totals.Totals.{Totals}
use Rattle.marks.specs.Numbers.{Limits}
use Rattle.marks.specs.Seen.{IsShown}
use Rattle.arena.specs.Stewards.{Steps, begun, new_steward}
use Rattle.arena.specs.declared.arena.Stepped.{Stepped}
use Rattle.arena.specs.declared.error.PlanOpen.{PlanOpen}
use Rattle.arena.specs.declared.arena.Stepped.TheVariants.{NoPairLeft, NoPlan, Taken}
use Rattle.teurlaks_c.specs.declared.replies.CertificateReply.{CertificateReply}
use Rattle.teurlaks_c.specs.declared.replies.ForgetReply.{ForgetReply}
use Rattle.teurlaks_c.specs.declared.replies.MarkReply.{MarkReply}
use Rattle.teurlaks_c.specs.declared.replies.StepReply.{StepReply}
use Rattle.teurlaks_c.specs.declared.replies.ArenaTotalsReply.{ArenaTotalsReply}
use Rattle.teurlaks_c.specs.declared.share.Share.{Share}
use Rattle.teurlaks_c.specs.declared.share.Share.TheVariants.{Seat, Steward, RecordedSeat, RecordedSteward}
use Rattle.teurlaks_c.specs.declared.share.StewardAndMark.{StewardAndMark}
use Rattle.teurlaks_c.specs.declared.share.SharedSteward.{SharedSteward}
use Rattle.teurlaks_c.specs.declared.recorded.KeptSeat.{KeptSeat}
use Rattle.teurlaks_c.specs.declared.recorded.RecordedSteward.{RecordedSteward as Recorder}
use Rattle.std.specs.Arc.{arc_value}
use Rattle.teurlaks_c.specs.Calls.{CountsOf, Tells, kept}
use Rattle.teurlaks_c.specs.Keys.{IsIdOf}
use Rattle.teurlaks_c.specs.Recorded.{receipts_of}
use Rattle.teurlaks_c.specs.Status.{busy, done, has_core, no_core, no_pair_left, no_plan, out_of_memory, mark_status, refusal_status, status_of_outcome, none, recorded}

-- the handle has no steward
abbrev pub HasNoSteward : Option Share → Type 0
HasNoSteward (Some (Steward steward)) = ⊥
HasNoSteward (Some (RecordedSteward steward)) = ⊥
HasNoSteward held = Unit {0}

-- a steward of a new arena of these numbers, with a seat for each shard, no plan and no certificate
pub record HasNewArena (limits : Limits) (new : Option Share) : Type 0 where
  pub steward : SharedSteward
  pub is : new ≡ Some (Steward steward)
  pub state : steward.inner.steward ≡ new_steward limits
  pub last : steward.inner.last ≡ None
  pub seats : vec_len steward.seats ≡ limits.shards

-- none of the seats has kept a receipt
abbrev pub HaveNoReceipt : List KeptSeat → Type 0
HaveNoReceipt seats = All (λ kept. receipts_of kept ≡ []) seats

-- the same of an arena whose run is recorded, of which nothing is recorded yet
pub record HasNewRecord (limits : Limits) (new : Option Share) : Type 0 where
  pub steward : Recorder
  pub is : new ≡ Some (RecordedSteward steward)
  pub state : steward.inner.steward ≡ new_steward limits
  pub last : steward.inner.last ≡ None
  pub seats : vec_len steward.seats ≡ limits.shards
  pub none : HaveNoReceipt steward.seats.items

-- a seat is handed out, which leaves the steward's list; or there is none left; or memory is
-- refused, and the list is as it was
abbrev pub HandsOutOf : SharedSteward → ℕ → SharedSteward → Option Share → Type 0
HandsOutOf before says after (Some (Seat seat)) =
    (says ≡ done) × (arc_value seat.arena ≡ arc_value before.arena)
    × (before.seats.items ≡ after.seats.items ++ seat.seat ∷ [])
HandsOutOf before says after None =
    (((says ≡ none) × (vec_len before.seats ≡ 0)) ⊎ (says ≡ out_of_memory))
    × (after.seats.items ≡ before.seats.items)
HandsOutOf before says after (Some other) = ⊥

-- the same of a seat with its receipts
abbrev pub HandsOutKept : Recorder → ℕ → Recorder → Option Share → Type 0
HandsOutKept before says after (Some (RecordedSeat seat)) =
    (says ≡ done) × (arc_value seat.arena ≡ arc_value before.arena)
    × (before.seats.items ≡ after.seats.items ++ seat.kept ∷ [])
HandsOutKept before says after None =
    (((says ≡ none) × (vec_len before.seats ≡ 0)) ⊎ (says ≡ out_of_memory))
    × (after.seats.items ≡ before.seats.items)
HandsOutKept before says after (Some other) = ⊥

-- the steward of the handle hands out a seat, or has none left, or is refused memory; its arena,
-- plan and certificate stay
pub record HandsOutSeat (old : Option Share) (says : ℕ) (new out : Option Share) : Type 0 where
  pub before : SharedSteward
  pub after : SharedSteward
  pub before_is : old ≡ Some (Steward before)
  pub after_is : new ≡ Some (Steward after)
  pub arena_is : after.arena ≡ before.arena
  pub inner_is : after.inner ≡ before.inner
  pub handed : HandsOutOf before says after out

-- the same of the steward of a recorded arena
pub record HandsOutRecorded (old : Option Share) (says : ℕ) (new out : Option Share) : Type 0 where
  pub before : Recorder
  pub after : Recorder
  pub before_is : old ≡ Some (RecordedSteward before)
  pub after_is : new ≡ Some (RecordedSteward after)
  pub arena_is : after.arena ≡ before.arena
  pub inner_is : after.inner ≡ before.inner
  pub handed : HandsOutKept before says after out

-- the handle's steward does so
abbrev pub HandsOut : (old : Option Share) → ℕ → (new out : Option Share) → Type 0
HandsOut old says new out = HandsOutSeat old says new out ⊎ HandsOutRecorded old says new out

-- a seat of the handle's steward is left to another handle, where that has nothing and the first
-- one has a steward
abbrev pub LeavesSeat : (old out : Option Share) → ℕ → (new out_new : Option Share) → Type 0
LeavesSeat old (Some taken) says new out_new = (says ≡ has_core) × (new ≡ old)
    × (out_new ≡ Some taken)
LeavesSeat old None says new out_new = (HasNoSteward old × (says ≡ no_core) × (new ≡ old)
    × (out_new ≡ None)) ⊎ HandsOut old says new out_new

-- a seat is handed out so in a box of its own, or none is, for the cause that the status says
abbrev pub HandsBoxed : (ℕ → Option Share → Type 0) → Result (Box Share Global) ℕ → Type 0
HandsBoxed hands answer = MatchResult answer (λ seat. hands done (Some seat.value))
    (λ status. hands status None)

-- a seat of the handle's steward is handed out in a box of its own; or none is left to another
-- handle, for the cause that the status says
abbrev pub HandsOutBoxed : Option Share → Result (Box Share Global) ℕ → Option Share → Type 0
HandsOutBoxed old answer new = MatchResult answer
    (λ seat. HandsOut old done new (Some seat.value))
    (λ status. LeavesSeat old None status new None)

-- the steward of the handle does this and answers that, at the same arena and with the same seats
-- to give out
pub record AtSteward {Answer : Type 0} (does : StewardAndMark → Answer → StewardAndMark
    → Type 0) (old : Option Share) (answer : Answer) (new : Option Share) : Type 0 where
  pub before : SharedSteward
  pub after : SharedSteward
  pub before_is : old ≡ Some (Steward before)
  pub after_is : new ≡ Some (Steward after)
  pub arena_is : after.arena ≡ before.arena
  pub seats_are : after.seats ≡ before.seats
  pub did : does before.inner answer after.inner

-- the same of the steward of a recorded arena
pub record AtRecordedSteward {Answer : Type 0} (does : StewardAndMark → Answer → StewardAndMark
    → Type 0) (old : Option Share) (answer : Answer) (new : Option Share) : Type 0 where
  pub before : Recorder
  pub after : Recorder
  pub before_is : old ≡ Some (RecordedSteward before)
  pub after_is : new ≡ Some (RecordedSteward after)
  pub arena_is : after.arena ≡ before.arena
  pub seats_are : after.seats ≡ before.seats
  pub did : does before.inner answer after.inner

-- the handle's steward is asked, where it has one
abbrev pub Asks : {Answer : Type 0} → (StewardAndMark → Answer → StewardAndMark → Type 0)
    → Option Share → Option Answer → Option Share → Type 0
Asks does old answer new = MatchOption answer (HasNoSteward old
    × (new ≡ old)) (λ answer. AtSteward does old answer new ⊎ AtRecordedSteward does old answer new)

-- a largest plan of what was seen is opened and its certificate kept
pub record MarksPlan (before : StewardAndMark) (says : MarkReply)
    (after : StewardAndMark) : Type 0 where
  pub found : Certificate
  pub shown : IsShown found
  pub counts : CountsOf says found
  pub keeps : kept after.last ≡ Some found
  pub none : before.steward.plan ≡ None
  pub begins : after.steward ≡ begun before.steward found.plan

-- a plan is opened, or the mark is refused or meets another thread's lock, and then plan and
-- certificate are as they were
abbrev pub Marks : StewardAndMark → Result (Result MarkReply MarkError) Busy → StewardAndMark
    → Type 0
Marks before answer after =
    IfOk answer (λ made. IfOk made (λ says. MarksPlan before says after)
    × OnErr made ((after.steward ≡ before.steward) × (after.last ≡ before.last)))
    × OnErr answer ((after.steward ≡ before.steward) × (after.last ≡ before.last))

-- the next pair is carried out, or there is none, or memory is refused, or another thread has a
-- lock
abbrev pub TakesStep : StewardAndMark → Result (Result Stepped AllocError) Busy → StewardAndMark
    → Type 0
TakesStep before answer after =
    IfOk answer (λ step. IfOk step (λ stepped. Steps before.steward.plan stepped after.steward.plan)
    × OnErr step (after.steward ≡ before.steward))
    × OnErr answer (after.steward ≡ before.steward) × (after.last ≡ before.last)

-- the plan is closed, or there is none, or another thread has a lock
abbrev pub Closes : StewardAndMark → Result Bool Busy → StewardAndMark → Type 0
Closes before answer after =
    IfOk answer (λ closed. closed ≡ is_some before.steward.plan)
    × OnOk answer (after.steward ≡ record before.steward { plan = None })
    × OnErr answer (after.steward ≡ before.steward) × (after.last ≡ before.last)

-- nothing of the steward changes
abbrev pub Keeps : {Answer : Type 0} → StewardAndMark → Answer → StewardAndMark → Type 0
Keeps before answer after = (after.steward ≡ before.steward) × (after.last ≡ before.last)

-- as many groups as it says were gathered, up to so many, or a block was refused
abbrev pub GathersPooled : ℕ → StewardAndMark → Result (Result ℕ AllocError) Busy
    → StewardAndMark → Type 0
GathersPooled most before answer after =
    IfOk answer (λ gathered. IfOk gathered (λ count. count ≤ most)) × Keeps before answer after

-- the text of the certificate that is kept is written into the room, where the handle has a steward
abbrev pub WritesLast : Option Share → List ℕ → CertificateReply → List ℕ → Type 0
WritesLast (Some (Steward steward)) room says room_new =
    Tells steward.inner.last room says room_new
WritesLast (Some (RecordedSteward steward)) room says room_new =
    Tells steward.inner.last room says room_new
WritesLast held room says room_new = (says.status ≡ no_core) × (says.len ≡ 0) × (room_new ≡ room)

-- what C reads of a mark
abbrev pub SaysMarked : MarkReply → Option (Result (Result MarkReply MarkError) Busy) → Type 0
SaysMarked says None = says.status ≡ no_core
SaysMarked says (Some (Err b)) = says.status ≡ busy
SaysMarked says (Some (Ok (Ok made))) = says ≡ made
SaysMarked says (Some (Ok (Err error))) = says.status ≡ mark_status error

-- what C reads of a step
abbrev pub SaysStepped : StepReply → Option (Result (Result Stepped AllocError) Busy) → Type 0
SaysStepped says None = says.status ≡ no_core
SaysStepped says (Some (Err b)) = says.status ≡ busy
SaysStepped says (Some (Ok (Err error))) = says.status ≡ out_of_memory
SaysStepped says (Some (Ok (Ok (Taken abandoned owned outcome)))) =
    (says.status ≡ status_of_outcome outcome) × IsIdOf says.abandoned abandoned
    × IsIdOf says.owned owned
SaysStepped says (Some (Ok (Ok NoPairLeft))) = says.status ≡ no_pair_left
SaysStepped says (Some (Ok (Ok NoPlan))) = says.status ≡ no_plan

-- what C reads of a close
abbrev pub SaysClosed : ℕ → Option (Result Bool Busy) → Type 0
SaysClosed says None = says ≡ no_core
SaysClosed says (Some (Err b)) = says ≡ busy
SaysClosed says (Some (Ok true)) = says ≡ done
SaysClosed says (Some (Ok false)) = says ≡ no_plan

-- what C reads of a forgetting
abbrev pub SaysForgotten : ForgetReply → Result (Result ℕ PlanOpen) Busy → Type 0
SaysForgotten says (Err b) = (says.status ≡ busy) × (says.count ≡ 0)
SaysForgotten says (Ok (Ok count)) = (says.status ≡ done) × (says.count ≡ count)
SaysForgotten says (Ok (Err refused)) = (says.status ≡ refusal_status PlanIsOpen) × (says.count ≡ 0)

-- guests are forgotten, but while a plan is open, or where another thread has a lock; never where
-- the run is recorded
abbrev pub ForgetsAll : Option Share → ForgetReply → Type 0
ForgetsAll (Some (Steward steward)) says =
    (answer : Result (Result ℕ PlanOpen) Busy) × IfOk answer (λ forgotten. IsErr forgotten
    ↔ IsSome steward.inner.steward.plan) × SaysForgotten says answer
ForgetsAll (Some (RecordedSteward steward)) says = (says.status ≡ recorded) × (says.count ≡ 0)
ForgetsAll held says = (says.status ≡ no_core) × (says.count ≡ 0)

-- what C reads of totals
abbrev pub SaysTotals : ArenaTotalsReply → Option (Result Totals Busy) → Type 0
SaysTotals says None = (says.status ≡ no_core) × (says.pages ≡ 0) × (says.live ≡ 0)
SaysTotals says (Some (Err b)) = (says.status ≡ busy) × (says.pages ≡ 0) × (says.live ≡ 0)
SaysTotals says (Some (Ok totals)) = (says.status ≡ done) × (says.pages ≡ totals.pages)
    × (says.live ≡ totals.live)
