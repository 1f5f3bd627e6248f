-- What is asked of the core and what comes of it.
use Rattle.std.specs.Prelude.{◌≡◌, ℕ, Bool, true, false, filter, length, List, [], ◌∷◌, ◌++◌, Some, None, map}
use Rattle.std.specs.List.{flat_map, range_with_len}
use Rattle.arena_core.specs.State.{CoreState}
use Rattle.arena_core.specs.declared.event.Event.{Event}
use Rattle.arena_core.specs.declared.event.Event.TheVariants.{Settle}
use Rattle.arena_core.specs.declared.reply.Reply.{Reply}
use Rattle.arena_core.specs.declared.reply.Reply.TheVariants.{Settled}

-- ---- what is asked for

-- an event that the core is asked for
pub data Request : Type 0 where
  -- once
  Once : Event → Request
  -- again and again, up to the reply that no key waited
  UntilNone : Event → Request

-- one thing that a line asks for; it has one reply
pub data Asked : Type 0 where
  -- an event of the core
  Calls : Event → Asked
  -- no event, since the key that the line names was never given out
  Keyless : Asked
  -- no event yet: the thread ends, and its shard is abandoned at the barrier
  Leaves : Asked
  -- the keys that wait on the rings from that many workers to a shard are freed, by worker
  Tends : (workers shard : ℕ) → Asked

-- the events that it takes, in order
abbrev pub requests_of : Asked → List Request
requests_of (Calls event) = Once event ∷ []
requests_of Keyless = []
requests_of Leaves = []
requests_of (Tends workers shard) = map (λ worker. UntilNone (Settle worker shard))
    (range_with_len 0 workers)

-- ---- what came of it

-- an event that was called, its reply, and the core that it left
pub data CalledEvent : Type 0 where
  Called : Event → Reply → CoreState → CalledEvent

-- what came of one thing that was asked for: the events that were called, in order
pub record Made : Type 0 where
  pub asked : Asked
  pub called : List CalledEvent

-- the events were called as requested, each as often as the replies decide
abbrev pub AreAsRequested : List Request → List CalledEvent → Type 0
AreAsRequested [] [] = Unit {0}
AreAsRequested (Once event ∷ requests) (Called done reply core ∷ more) = (done ≡ event)
    × AreAsRequested requests more
AreAsRequested (UntilNone event ∷ requests) (Called done (Settled None) core ∷ more) =
    (done ≡ event) × AreAsRequested requests more
AreAsRequested (UntilNone event ∷ requests) (Called done (Settled (Some key)) core ∷ more) =
    (done ≡ event) × AreAsRequested (UntilNone event ∷ requests) more
AreAsRequested requests called = ⊥

-- the events that were called are those that were asked for
abbrev pub IsAsAsked : Made → Type 0
IsAsAsked made = AreAsRequested (requests_of made.asked) made.called

-- one event was asked for and called
abbrev pub one_call : Event → Reply → CoreState → Made
one_call event reply core = record { asked = Calls event; called = Called event reply core ∷ [] }

-- no event was called
abbrev pub no_call : Asked → Made
no_call asked = record { asked = asked; called = [] }

-- what was done at a line
pub record Did : Type 0 where
  -- where a barrier begins: the end of the open plan, the shards that were abandoned, and the keys
  -- that were freed from the rings
  pub settled : List Made
  -- what the line asks for, with a reply each
  pub calls : List Made
  -- after them: the step of the open plan that follows a thread's line, or the mark
  pub plans : List Made

-- ---- the events of it all

-- the events that were called, in order
abbrev pub all_called : List Made → List CalledEvent
all_called made = flat_map (λ m. m.called) made

-- the core that these leave
abbrev pub core_called : CoreState → List CalledEvent → CoreState
core_called core [] = core
core_called core (Called event reply after ∷ called) = core_called after called

abbrev pub core_after : CoreState → List Made → CoreState
core_after core made = core_called core (all_called made)

abbrev pub asked_of : Made → Asked
asked_of made = made.asked

abbrev pub event_called : CalledEvent → Event
event_called (Called event reply core) = event

abbrev pub reply_called : CalledEvent → Reply
reply_called (Called event reply core) = reply

-- a key that waited was freed from its ring
abbrev pub takes_key : CalledEvent → Bool
takes_key (Called event (Settled (Some key)) core) = true
takes_key called = false

-- how many were
abbrev pub keys_taken : List CalledEvent → ℕ
keys_taken called = length (filter takes_key called)

-- the events, and their replies
abbrev pub events_of : List CalledEvent → List Event
events_of called = map event_called called

abbrev pub replies_of : List CalledEvent → List Reply
replies_of called = map reply_called called

-- all that was done at a line
abbrev pub made_by : Did → List Made
made_by did = did.settled ++ did.calls ++ did.plans

-- all that was done, in order
abbrev pub all_made : List Did → List Made
all_made done = flat_map made_by done
