-- What the lines of a trace do.
use Rattle.std.specs.Prelude.{◌≡◌, ◌+◌, ◌-◌, ℕ, Bool, nat_lt, List, [], ◌∷◌, ◌++◌, length, map, replicate, take, slice_get, Option, Some, None, option_and_then, unwrap_or, if◌then◌else◌}
use Rattle.std.specs.List.{AllByRecursion, range_with_len}
use Rattle.span.specs.declared.class.Class.{Class}
use Rattle.span.specs.declared.key.Key.{Key}
use Rattle.trace_runner.specs.Barrier.{leavers}
use Rattle.trace_text.specs.Barrier.{is_barrier}
use Rattle.trace_runner.specs.Made.{Asked, Calls, Keyless, Leaves, Tends, CalledEvent, Called, Made, Did, IsAsAsked, all_called, all_made, asked_of, core_after, core_called, events_of, replies_of}
use Rattle.trace_runner.specs.News.{News, all_news}
use Rattle.trace_text.specs.Causes.{binding_of}
use Rattle.trace_text.specs.Objects.{counted_from}
use Rattle.arena_core.specs.State.{CoreState, shown}
use Rattle.marks.specs.Plans.{OpenPlan}
use Rattle.arena_core.specs.Step.{CoreRun, CoreStep}
use Rattle.arena_core.specs.Plain.{PlainRun, erased}
use Rattle.arena_core.specs.declared.event.Event.{Event}
use Rattle.arena_core.specs.declared.event.Event.TheVariants as event
use Rattle.arena_core.specs.declared.reply.Refusal.TheVariants.{PagesSpent, PlanOpen, TooMany, NothingToAdopt, RingFull}
use Rattle.arena_core.specs.declared.reply.Reply.{Reply}
use Rattle.arena_core.specs.declared.reply.Reply.TheVariants.{Issued, NoPairLeft, NoPlan, Refused}
use Rattle.trace_text.specs.declared.line.Binding.{Binding}
use Rattle.trace_text.specs.declared.line.Call.{Call}
use Rattle.trace_text.specs.declared.line.Call.TheVariants.{Put, Fill, Get, Set, Free, Sweep, Later, Tend, Trim, Retire, End, Begin}
use Rattle.trace_text.specs.declared.line.Line.{Line}
use Rattle.trace_text.specs.declared.line.Line.TheVariants as line
use Rattle.trace_text.specs.declared.name.Reference.{Reference}

-- ---- what a line asks for

-- the key that an event gave out, where it was a put and is the first
abbrev pub key_given : List CalledEvent → Option Key
key_given (Called event (Issued key) core ∷ called) = Some key
key_given called = None

-- the key that a put gave out
abbrev pub key_made : Made → Option Key
key_made made = key_given made.called

-- what the put at a place of the line that binds a name gave out
abbrev pub key_bound : List Did → ℕ → Binding → Option Key
key_bound done place binding = option_and_then (λ did. option_and_then key_made
    (slice_get did.calls place)) (slice_get done binding.line)

-- the key of a name and a place
abbrev pub key_at : List Line → List Did → List ℕ → ℕ → Option Key
key_at lines done name place = option_and_then (λ binding. key_bound done place binding)
    (binding_of name lines)

-- the key that a reference names; a plain name is that of its only put
abbrev pub key_of : List Line → List Did → Reference → Option Key
key_of lines done reference = key_at lines done reference.name (unwrap_or reference.index 0)

-- the event with the key, where it was given out
abbrev pub on_key : (Key → Event) → Option Key → Asked
on_key event None = Keyless
on_key event (Some key) = Calls (event key)

-- the puts of so many objects of the class, which count up from the value, from the next and so on
abbrev pub puts_asked : (thread : ℕ) → Class → (count value : ℕ) → List Asked
puts_asked thread class count value =
    map (λ i. Calls (event.Put thread (counted_from class (value + i)))) (range_with_len 0 count)

-- the frees of the keys of a name from one place up to, and without, another
abbrev pub frees_asked : List Line → List Did → (name : List ℕ) → (from to : ℕ) → List Asked
frees_asked lines done name from to =
    map (λ place. on_key event.Free (key_at lines done name place))
    (range_with_len from (to - from))

-- what a thread's call asks for, in order, after what the lines above it have done
abbrev pub asked_by_call : (shards : ℕ) → List Line → List Did → ℕ → Call → List Asked
asked_by_call shards lines done thread (Put name class value) =
    Calls (event.Put thread (counted_from class value)) ∷ []
asked_by_call shards lines done thread (Fill name class count value) =
    puts_asked thread class count value
asked_by_call shards lines done thread (Get key) = on_key event.Get (key_of lines done key) ∷ []
asked_by_call shards lines done thread (Set key class value) =
    on_key (λ k. event.Set k (counted_from class value)) (key_of lines done key) ∷ []
asked_by_call shards lines done thread (Free key) = on_key event.Free (key_of lines done key) ∷ []
asked_by_call shards lines done thread (Sweep name from to) = frees_asked lines done name from to
asked_by_call shards lines done thread (Later key) =
    on_key (event.Later thread) (key_of lines done key) ∷ []
asked_by_call shards lines done thread Tend = Tends shards thread ∷ []
asked_by_call shards lines done thread Trim = Calls (event.Trim thread) ∷ []
asked_by_call shards lines done thread (Retire most) = Calls (event.Retire thread most) ∷ []
asked_by_call shards lines done thread End = Leaves ∷ []
asked_by_call shards lines done thread Begin = Calls (event.Begin thread) ∷ []

-- the same for a line; an adoption is made at the barrier that it begins or goes on with
abbrev pub asked_by : (shards : ℕ) → List Line → List Did → Line → List Asked
asked_by shards lines done (line.Call thread call) = asked_by_call shards lines done thread call
asked_by shards lines done (line.Adopt shard) = Calls (event.Adopt shard) ∷ []
asked_by shards lines done _ = []

-- how many pairs of the plan are not done with
abbrev pub pairs_left_of : OpenPlan → ℕ
pairs_left_of plan = length plan.pairs - plan.done

-- how many pairs of the open plan are left, and none where no plan is open
abbrev pub pairs_left : Option OpenPlan → ℕ
pairs_left None = 0
pairs_left (Some plan) = pairs_left_of plan

-- a step for each pair that is left of the open plan, and its close
abbrev pub plan_end_asked : Option OpenPlan → List Asked
plan_end_asked None = []
plan_end_asked (Some plan) =
    replicate (pairs_left_of plan) (Calls event.Step) ++ Calls event.Close ∷ []

-- the ends of these shards
abbrev pub ends_asked : List ℕ → List Asked
ends_asked threads = map (λ thread. Calls (event.End thread)) threads

-- the keys that wait on all rings, by shard, then by worker
abbrev pub rings_asked : (shards : ℕ) → List Asked
rings_asked shards = map (λ shard. Tends shards shard) (range_with_len 0 shards)

-- what a barrier or the end of the text begins with: the end of the open plan, then those of the
-- shards of the threads that ended in the section, ascending, and then the keys of all rings
abbrev pub settling : (shards : ℕ) → List Line → CoreState → List Asked
settling shards above core = plan_end_asked core.plan ++ (ends_asked (leavers shards above)
    ++ rings_asked shards)

-- the same where a barrier begins at a line; after its first line nothing is left of it
abbrev pub settling_at : (shards : ℕ) → List Line → CoreState → Line → List Asked
settling_at shards above core line = if is_barrier line then settling shards above core else []

-- a step, where a pair of the open plan is left
abbrev pub stepping : Option OpenPlan → List Asked
stepping plan = if nat_lt 0 (pairs_left plan) then Calls event.Step ∷ [] else []

-- what follows the calls of a line: a step after a thread's, and the mark
abbrev pub planning_at : CoreState → Line → List Asked
planning_at core (line.Call thread call) = stepping core.plan
planning_at core line.Mark = Calls event.Mark ∷ []
planning_at core _ = []

-- ---- what a line did

-- an open plan may be in the way of the event: of a retirement alone
abbrev pub MayMeetPlan : Event → Type 0
MayMeetPlan (event.Retire shard most) = Unit {0}
MayMeetPlan event = ⊥

-- no refused allocation, no shard that is not there, has ended where it is to run or runs where it
-- is to begin, and no plan that is missed or in the way of more than a retirement: of the refusals,
-- only those of a page, of an adoption that finds nothing, of a mark that sees too much, of a ring
-- that is full and of a retirement while a plan is open come
abbrev pub IsTold : Event → Reply → Type 0
IsTold event (Refused PagesSpent) = Unit {0}
IsTold event (Refused TooMany) = Unit {0}
IsTold event (Refused NothingToAdopt) = Unit {0}
IsTold event (Refused RingFull) = Unit {0}
IsTold event (Refused PlanOpen) = MayMeetPlan event
IsTold event (Refused cause) = ⊥
IsTold event NoPairLeft = ⊥
IsTold event NoPlan = ⊥
IsTold event reply = Unit {0}

-- the same of an event that was called
abbrev pub IsCallTold : CalledEvent → Type 0
IsCallTold (Called event reply core) = IsTold event reply

-- each event was a step of the core, which left it as it says
abbrev pub Happens : CoreState → List CalledEvent → Type 0
Happens core [] = Unit {0}
Happens core (Called event reply after ∷ called) = CoreStep core event reply after
    × Happens after called

-- the core answers the events so, which without ends, begins, retirements, trims, adoptions and
-- what is done with plans is a run of the plain map that it shows
pub record AreSteps (old : CoreState) (called : List CalledEvent) (new : CoreState) : Type 0 where
  pub each : Happens old called
  pub last : new ≡ core_called old called
  pub core : CoreRun old (events_of called) (replies_of called) new
  pub plain : PlainRun old.limits (shown old) (erased (events_of called) (replies_of called))
      (shown new)
  pub told : AllByRecursion IsCallTold called

-- for all that was asked the core was called as often as its replies decide, and answered so
pub record IsAnswered (old : CoreState) (made : List Made) (new : CoreState) : Type 0 where
  pub steps : AreSteps old (all_called made) new
  pub asked : AllByRecursion IsAsAsked made

-- after what was done from the core on, the line did this
pub record Does (shards : ℕ) (lines : List Line) (start : CoreState) (done : List Did) (line : Line)
    (did : Did) : Type 0 where
  pub settled : map asked_of did.settled ≡ settling_at shards (take (length done) lines)
      (core_after start (all_made done)) line
  pub calls : map asked_of did.calls ≡ asked_by shards lines done line
  pub plans : map asked_of did.plans ≡ planning_at
      (core_after start (all_made done ++ (did.settled ++ did.calls))) line

-- after what was done, the lines do this one after another
abbrev pub DoLines : (shards : ℕ) → List Line → CoreState → List Line → List Did → List Did → Type 0
DoLines shards all start [] done after = after ≡ done
DoLines shards all start (line ∷ lines) done after = (did : Did)
    × Does shards all start done line did × DoLines shards all start lines (done ++ did ∷ []) after

-- ---- how many replies there are

-- how many replies a line has, where it is a thread's
abbrev pub calls_at : Line → Did → ℕ
calls_at (line.Call thread call) did = length did.calls
calls_at _ did = 0

-- how many replies the threads' lines have
abbrev pub calls_in : List Line → List Did → ℕ
calls_in (line ∷ lines) (did ∷ done) = calls_at line did + calls_in lines done
calls_in _ _ = 0

-- the lines of a trace were run, from one core to the other, with that many replies to threads'
-- lines, and this was told of it
pub record IsRun (shards : ℕ) (replies : Bool) (lines : List Line) (old new : CoreState) (calls : ℕ)
    (news : News) : Type 0 where
  pub done : List Did
  -- what is done at the end of the text
  pub last : List Made
  pub lines_do : DoLines shards lines old lines [] done
  pub settled : map asked_of last ≡ settling shards lines (core_after old (all_made done))
  pub answered : IsAnswered old (all_made done ++ last) new
  pub calls_are : calls ≡ calls_in lines done
  pub news_are : news ≡ all_news replies done last
