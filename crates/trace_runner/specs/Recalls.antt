-- What a run keeps of what its lines did. No public clause cites this module.
use Rattle.std.specs.Prelude.{◌≡◌, ◌<◌, ◌≤◌, ◌++◌, ◌&&◌, ◌||◌, ◌==◌, nat_eq, nat_lt, ℕ, Bool, true, false, not, List, [], ◌∷◌, length, map, take, slice_get, if◌then◌else◌, Some, None, Result, Ok, Err}
use Rattle.std.specs.HashSet as bag
use Rattle.std.specs.HashSet.{HashSet}
use Rattle.std.specs.Option.{option_map, option_map_or}
use Rattle.span.specs.declared.key.Key.{Key}
use Rattle.trace_text.specs.Barrier.{is_barrier, open_lines}
use Rattle.trace_text.specs.Causes.{begins_again, has_ended, is_call, is_call_over, keys_in, thread_of}
use Rattle.arena_core.specs.State.{CoreState}
use Rattle.trace_runner.specs.Made.{Asked, AreAsRequested, CalledEvent, Called, Did, Made, Request, all_made, asked_of, keys_taken}
use Rattle.trace_runner.specs.Kept.{AreHome, Kept, Recalls, keeping, kept_in, kept_of}
use Rattle.trace_runner.specs.News.{News, news_of, with_all_made}
use Rattle.trace_runner.specs.Runs.{AreSteps, DoLines, IsAnswered, MayMeetPlan, ends_asked, plan_end_asked, pairs_left_of, planning_at, rings_asked}
use Rattle.trace_runner.specs.declared.plans.Plans.{Plans}
use Rattle.trace_runner.specs.declared.replies.Replies.{Replies}
use Rattle.arena_core.specs.declared.event.Event.{Event}
use Rattle.arena_core.specs.declared.event.Event.TheVariants.{Put, Later, Settle, End, Begin, Retire, Trim, Adopt, Mark, MarkSome, Step, Close}
use Rattle.arena_core.specs.declared.reply.Reply.{Reply}
use Rattle.arena_core.specs.declared.reply.Reply.TheVariants.{Issued, Settled, Marked, Stepped, NoPairLeft, Closed, NoPlan, Refused}
use Rattle.arena_core.specs.declared.reply.Refusal.{Refusal}
use Rattle.arena_core.specs.declared.reply.Refusal.TheVariants.{OutOfMemory, PagesSpent, Ended, Running, PlanOpen, TooMany, Config}
use Rattle.trace_text.specs.declared.line.Line.{Line}

-- ---- what is done at a line

-- what the line of that number asks for was done, from one core to the other, and is kept after
-- what was
abbrev pub Makes : ℕ → List Asked → CoreState → Kept → CoreState → Kept → Type 0
Makes number asked old before new after = (made : List Made) × (map asked_of made ≡ asked)
    × IsAnswered old made new × (after ≡ keeping number before made)

-- these were asked and done, from one core to the other, and what they tell of plans stands after
-- the earlier news
abbrev pub Carries : List Asked → CoreState → News → CoreState → News → Type 0
Carries asked old before new after = (made : List Made) × (map asked_of made ≡ asked)
    × IsAnswered old made new × (after ≡ with_all_made before made)

-- what a line asks for was done and told: first what settles the section, then its calls, and then
-- what follows them
pub record MakesLine (number : ℕ) (settled asked : List Asked) (line : Line) (old : CoreState)
    (before : Kept) (news_before : News) (new : CoreState) (after : Kept) (news_after : News) :
    Type 0 where
  pub settled_core : CoreState
  pub called_core : CoreState
  pub news : News
  pub called : Kept
  pub settles : Carries settled old news_before settled_core news
  pub makes : Makes number asked settled_core (record before { text = news.text }) called_core
      called
  pub plans : Carries (planning_at called_core line) called_core
      (record news { replies = called.asked; text = called.text }) new news_after
  pub rest : after ≡ record called { text = after.text }

-- the oldest key of the ring from the worker to the shard was freed, or none waited there
abbrev pub SettlesNext : (worker shard : ℕ) → CoreState → Bool → CoreState → Type 0
SettlesNext worker shard old true new = (key : Key)
    × AreSteps old (Called (Settle worker shard) (Settled (Some key)) new ∷ []) new
SettlesNext worker shard old false new = AreSteps old
    (Called (Settle worker shard) (Settled None) new ∷ []) new

-- what was requested was called, as often as the replies decide, and that many keys were freed by
-- it
pub record Drains (requests : List Request) (old new : CoreState) (count : ℕ) : Type 0 where
  pub called : List CalledEvent
  pub asked : AreAsRequested requests called
  pub steps : AreSteps old called new
  pub count_is : count ≡ keys_taken called

-- what settles the section, where a barrier begins at the line and the threads leave
abbrev pub settling_with : (shards : ℕ) → List ℕ → CoreState → Line → List Asked
settling_with shards threads core line = if is_barrier line then plan_end_asked core.plan
    ++ (ends_asked threads ++ rings_asked shards) else []

-- ---- the shards that have ended, and the open plan

-- the shard of this number is there and has ended
abbrev pub ended_at : CoreState → ℕ → Bool
ended_at core number = option_map_or (λ shard. shard.ended) (slice_get core.shards number) false

-- the shard of this number is one of the core's, and has not ended
pub record IsOpen (core : CoreState) (number : ℕ) : Type 0 where
  pub within : number < core.limits.shards
  pub running : ended_at core number ≡ false

-- the shard of this number is one of the core's, and has ended
pub record IsAtRest (core : CoreState) (number : ℕ) : Type 0 where
  pub within : number < core.limits.shards
  pub ended : ended_at core number ≡ true

-- no shard came and none ended
pub record KeepsShards (old new : CoreState) : Type 0 where
  pub limits : new.limits ≡ old.limits
  pub ended : (number : ℕ) → ended_at new number ≡ ended_at old number

-- nor did the plan change
pub record KeepsPlan (old new : CoreState) : Type 0 where
  pub shards : KeepsShards old new
  pub plan : new.plan ≡ old.plan

-- of the shards, that of this number ended
pub record EndsOne (old : CoreState) (ending : ℕ) (new : CoreState) : Type 0 where
  pub limits : new.limits ≡ old.limits
  pub ended : (number : ℕ) → ended_at new number ≡ (ending == number || ended_at old number)

-- of the shards below a number, those that pass the test ended
pub record EndsBelow (old : CoreState) (bound : ℕ) (test : ℕ
    → Bool) (new : CoreState) : Type 0 where
  pub limits : new.limits ≡ old.limits
  pub ended : (number : ℕ) → ended_at new number ≡ ((nat_lt number bound && test number)
      || ended_at old number)

-- no shard came, none ended and the plan did not change, but those that pass the test run
pub record Resumes (old : CoreState) (test : ℕ → Bool) (new : CoreState) : Type 0 where
  pub limits : new.limits ≡ old.limits
  pub ended : (number : ℕ) → ended_at new number ≡ (not (test number) && ended_at old number)
  pub plan : new.plan ≡ old.plan

-- of the shards below a number, those that pass the first test ended, but those that pass the
-- second run
pub record TurnsBelow (old : CoreState) (bound : ℕ) (ends begins : ℕ
    → Bool) (new : CoreState) : Type 0 where
  pub limits : new.limits ≡ old.limits
  pub ended : (number : ℕ) → ended_at new number ≡ (not (begins number)
      && ((nat_lt number bound && ends number) || ended_at old number))

-- the event may be called for a line and leaves what has ended: its shard is open, or its worker
-- and shard are there, and no plan is where it would be in the way of an adoption; the barrier
-- alone ends shards, steps and closes
abbrev pub MayCall : CoreState → Event → Type 0
MayCall core (Put shard value) = IsOpen core shard
MayCall core (Trim shard) = IsOpen core shard
MayCall core (Adopt shard) = IsOpen core shard × (core.plan ≡ None)
MayCall core (Later worker key) = (worker < core.limits.shards)
    × (key.span.shard < core.limits.shards)
MayCall core (Settle worker shard) = ⊥
MayCall core (End shard) = ⊥
MayCall core (Begin shard) = ⊥
MayCall core (Retire shard most) = IsOpen core shard
MayCall core Mark = ⊥
MayCall core MarkSome = ⊥
MayCall core Step = ⊥
MayCall core Close = ⊥
MayCall core event = Unit {0}

-- the reply that the core's own call of a put stands for
abbrev pub reply_to_put : Result Key Refusal → Reply
reply_to_put (Ok key) = Issued key
reply_to_put (Err refusal) = Refused refusal

-- a put gave a key out, or its shard may have no further page, or an allocation was refused
abbrev pub IsPutServed : Result Key Refusal → Type 0
IsPutServed (Ok key) = Unit {0}
IsPutServed (Err PagesSpent) = Unit {0}
IsPutServed (Err OutOfMemory) = Unit {0}
IsPutServed (Err cause) = ⊥

-- a set said whether it was done, or an allocation was refused
abbrev pub IsSetServed : Result Bool Refusal → Type 0
IsSetServed (Ok done) = Unit {0}
IsSetServed (Err OutOfMemory) = Unit {0}
IsSetServed (Err cause) = ⊥

-- the shard that was asked for is there and has not ended, and of a plan only that it is in the way
abbrev pub IsServed : Reply → Type 0
IsServed (Refused Ended) = ⊥
IsServed (Refused Running) = ⊥
IsServed (Refused TooMany) = ⊥
IsServed (Refused Config) = ⊥
IsServed (Settled key) = ⊥
IsServed (Marked certificate) = ⊥
IsServed (Stepped abandoned owned step) = ⊥
IsServed NoPairLeft = ⊥
IsServed Closed = ⊥
IsServed NoPlan = ⊥
IsServed reply = Unit {0}

-- that an open plan is in the way is said where it may be
abbrev pub MeetsPlan : Event → Reply → Type 0
MeetsPlan event (Refused PlanOpen) = MayMeetPlan event
MeetsPlan event reply = Unit {0}

-- the news of a run
abbrev pub news_at : Kept → Plans → News
news_at kept plans =
    record {
      replies = kept.asked;
      marks = plans.marks;
      taken = plans.taken;
      text = kept.text;
      certificate = plans.certificate.items;
    }

abbrev pub news_in : Replies → Plans → News
news_in replies plans = news_at (kept_in replies) plans

-- the run knows how many pairs of the open plan are left, and where none is open
abbrev pub KnowsPlan : Plans → CoreState → Type 0
KnowsPlan plans core = plans.left ≡ option_map pairs_left_of core.plan

-- ---- the threads that leave

-- the set has the thread
abbrev pub has : {S : Type 0} → HashSet ℕ S → ℕ → Bool
has set thread = bag.contains nat_eq set thread

-- the shards of the threads that leave are open
abbrev pub CanLeave : (shards : ℕ) → CoreState → (leaving : ℕ → Bool) → Type 0
CanLeave shards core leaving = (thread : ℕ) → thread < shards → leaving thread ≡ true
    → IsOpen core thread

-- the line may be run: its numbers are within their ranges, its thread or shard is open, or has
-- ended where it begins again, and does not leave, and the core has all shards
pub record IsReady (shards : ℕ) (core : CoreState) (leaving : ℕ → Bool) (line : Line) : Type 0 where
  pub within : (above : List Line) × (is_call (is_call_over above) line ≡ false)
  pub running : (thread : ℕ) → thread_of line ≡ Some thread → is_call begins_again line ≡ false
      → IsOpen core thread
  pub resting : (thread : ℕ) → thread_of line ≡ Some thread → is_call begins_again line ≡ true
      → IsAtRest core thread
  pub stays : (thread : ℕ) → thread_of line ≡ Some thread → leaving thread ≡ false
  pub leavers : CanLeave shards core leaving
  pub enough : shards ≤ core.limits.shards

-- ---- how far a run has come

-- that many lines of the trace were run to their end
pub record HasCome (replies : Bool) (shards : ℕ) (lines : List Line) (count : ℕ)
    (old core : CoreState) (kept : Kept) (leaving : ℕ → Bool) (plans : Plans) : Type 0 where
  pub done : List Did
  pub count_is : length done ≡ count
  pub lines_do : DoLines shards lines old (take count lines) [] done
  pub answered : IsAnswered old (all_made done) core
  pub kept_is : kept ≡ kept_of replies done
  pub recalls : Recalls (take count lines) done kept.keys
  pub long : length kept.keys ≡ keys_in (take count lines)
  pub enough : shards ≤ core.limits.shards
  pub home : AreHome core.limits.shards kept.keys
  -- the threads that leave are those that ended after the last barrier, and the shards of those
  -- that ended above it have ended, but where they began again
  pub leaving_are : (thread : ℕ) → leaving thread ≡ has_ended (open_lines (take count lines)) thread
  pub ended_are : (thread : ℕ) → thread < shards → ended_at core thread
      ≡ (has_ended (take count lines) thread && not
      (has_ended (open_lines (take count lines)) thread))
  -- the news is that of the lines, and the open plan is known
  pub news_are : news_at kept plans ≡ news_of replies done
  pub knows : KnowsPlan plans core
  pub marks : plans.marks ≤ count

-- the core has that many shards, none of them has ended, and no plan is open
pub record Serves (shards : ℕ) (core : CoreState) : Type 0 where
  pub unplanned : core.plan ≡ None
  pub enough : shards ≤ core.limits.shards
  pub running : (number : ℕ) → number < shards → ended_at core number ≡ false
