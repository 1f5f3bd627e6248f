-- What the lines of a thread ask it for, and what may come of it.
use Rattle.std.specs.Prelude.{◌≡◌, ◌≤◌, ℕ, ◌+◌, ◌-◌, ◌==◌, Bool, true, false, List, [], ◌∷◌, map, slice_get, Option, None, Some, unwrap_or, if◌then◌else◌}
use Rattle.std.specs.List.{AllByRecursion, range_with_len}
use Rattle.std.specs.Option.{option_map_or}
use Rattle.span.specs.declared.class.Class.{Class}
use Rattle.span.specs.declared.key.Key.{Key}
use Rattle.span.specs.declared.receipt.Call.{Call}
use Rattle.span.specs.declared.receipt.Call.TheVariants as call
use Rattle.span.specs.declared.receipt.Receipt.{Receipt}
use Rattle.span.specs.Log.{Value}
use Rattle.trace_text.specs.Causes.{keys_in}
use Rattle.trace_text.specs.Objects.{counted_from}
use Rattle.trace_text.specs.Places.{first_of}
use Rattle.trace_text.specs.declared.line.Call.{Call as LineCall}
use Rattle.trace_text.specs.declared.line.Call.TheVariants.{Put, Fill, Get, Set, Free, Sweep, Later, Tend, Trim, Retire, End, Begin}
use Rattle.trace_text.specs.declared.line.Line.{Line}
use Rattle.trace_text.specs.declared.line.Line.TheVariants as line
use Rattle.trace_text.specs.declared.name.Reference.{Reference}
use Rattle.thread_runner.specs.Told.{is_free}
use Rattle.trace_runner.specs.declared.report.Other.{Other}
use Rattle.trace_runner.specs.declared.report.Other.TheVariants as other

-- ---- what lines ask for

-- one thing that a line asks its thread for; it has one reply. A key goes by its place among all
-- keys that the lines bind
pub data Asked : Type 0 where
  -- a put of the object, which gives the key of that place
  Puts : (place : ℕ) → Value → Asked
  -- a look-up of the key of that place
  Gets : ℕ → Asked
  -- a set of it to the object
  Sets : ℕ → Value → Asked
  -- a free of it
  Frees : ℕ → Asked
  -- that it be left to be freed later
  Leaves : ℕ → Asked
  -- that the keys be taken and freed that have come in on the rings
  Tends : Asked
  -- that its shard give back the pages on which nothing is live
  Trims : Asked
  -- that its shard let up to so many groups go to the pool
  Retires : (most : ℕ) → Asked
  -- the end of the thread
  Ends : Asked
  -- that its shard, which has ended, run again
  Begins : Asked
  -- that its shard adopt a group
  Adopts : Asked

-- the place of the key that a reference names, by the lines above; a plain name is that of its only
-- put
abbrev pub place_named : List Line → Reference → ℕ
place_named above reference = first_of above reference.name + unwrap_or reference.index 0

-- the puts of so many objects of the class, which count up from the value, from the next and so on,
-- and which give the keys of the places from the first on
abbrev pub puts_from : (first : ℕ) → Class → (count value : ℕ) → List Asked
puts_from first class count value =
    map (λ i. Puts (first + i) (counted_from class (value + i))) (range_with_len 0 count)

-- the frees of the keys of a name, whose first has that place, from one index up to, and without,
-- another
abbrev pub frees_from : (first from to : ℕ) → List Asked
frees_from first from to = map (λ i. Frees (first + i)) (range_with_len from (to - from))

-- what a thread's call below those lines asks for, in order; the keys that it binds have the next
-- places
abbrev pub asked_by : List Line → LineCall → List Asked
asked_by above (Put name class value) = Puts (keys_in above) (counted_from class value) ∷ []
asked_by above (Fill name class count value) = puts_from (keys_in above) class count value
asked_by above (Get key) = Gets (place_named above key) ∷ []
asked_by above (Set key class value) = Sets (place_named above key) (counted_from class value) ∷ []
asked_by above (Free key) = Frees (place_named above key) ∷ []
asked_by above (Sweep name from to) = frees_from (first_of above name) from to
asked_by above (Later key) = Leaves (place_named above key) ∷ []
asked_by above Tend = Tends ∷ []
asked_by above Trim = Trims ∷ []
asked_by above (Retire most) = Retires most ∷ []
asked_by above End = Ends ∷ []
asked_by above Begin = Begins ∷ []

-- what a line below those asks for, of the thread that calls or whose shard adopts
abbrev pub asked_at : List Line → Line → List Asked
asked_at above (line.Call thread call) = asked_by above call
asked_at above (line.Adopt shard) = Adopts ∷ []
asked_at above _ = []

-- how many replies a call has
abbrev pub replies_by : LineCall → ℕ
replies_by (Fill name class count value) = count
replies_by (Sweep name from to) = to - from
replies_by call = 1

-- how many replies to calls a line has; an adoption is no call
abbrev pub replies_at : Line → ℕ
replies_at (line.Call thread call) = replies_by call
replies_at _ = 0

-- how many replies to calls the lines have
abbrev pub replies_in : List Line → ℕ
replies_in [] = 0
replies_in (line ∷ lines) = replies_at line + replies_in lines

-- how many replies to calls the line at that place has
abbrev pub replies_on : List Line → ℕ → ℕ
replies_on lines place = option_map_or replies_at (slice_get lines place) 0

-- the line is a call of that thread, or an adoption by its shard
abbrev pub is_line_of : ℕ → Line → Bool
is_line_of thread (line.Call caller call) = caller == thread
is_line_of thread (line.Adopt shard) = shard == thread
is_line_of thread _ = false

-- the places of the thread's lines, among lines of which the first has that place
abbrev pub places_from : (thread place : ℕ) → List Line → List ℕ
places_from thread place [] = []
places_from thread place (line ∷ lines) =
    if is_line_of thread line then place ∷ places_from thread (place + 1) lines else
    places_from thread (place + 1) lines

-- the places of the thread's lines below the header, in order
abbrev pub places_of : (thread : ℕ) → List Line → List ℕ
places_of thread lines = places_from thread 0 lines

-- ---- what comes of it

-- what came of one thing that was asked for
pub data Outcome : Type 0 where
  -- a call on a key, which left this receipt
  Called : Receipt → Outcome
  -- the key was sent off to the thread of its shard, which frees it later
  Left : Key → Outcome
  -- keys that had come in on the rings were taken and freed, which left these receipts
  Took : List Receipt → Outcome
  -- something else
  Said : Other → Outcome

-- the call was a look-up
abbrev pub is_look_up : Call → Bool
is_look_up (call.Found value) = true
is_look_up call.NotFound = true
is_look_up call = false

-- the call was a set to the object
abbrev pub IsSetTo : Value → Call → Type 0
IsSetTo value (call.Set to) = to ≡ value
IsSetTo value (call.NotSet to) = to ≡ value
IsSetTo value call = ⊥

-- so many pages went
abbrev pub is_trim : Other → Bool
is_trim (other.Trimmed count) = true
is_trim other = false

-- no more groups went than were to, or none did, since a plan was open
abbrev pub IsRetirement : (most : ℕ) → Other → Type 0
IsRetirement most (other.Retired count) = count ≤ most
IsRetirement most other.PlanOpen = Unit {0}
IsRetirement most other = ⊥

-- a group was adopted, or the adoption was refused: its shard had as many groups as it may have
-- pages, or there was none to adopt
abbrev pub is_adoption : Other → Bool
is_adoption (other.Adopted head) = true
is_adoption other.PagesSpent = true
is_adoption other.NothingToAdopt = true
is_adoption other = false

-- the receipt is of a free by that thread in that section
pub record IsFreeBy (section thread : ℕ) (receipt : Receipt) : Type 0 where
  pub by : receipt.worker ≡ thread
  pub in_section : receipt.section ≡ section
  pub frees : is_free receipt.call ≡ true

-- the key that the put of each key gave, by the key's place among all keys that the lines bind;
-- none where the put was refused
abbrev pub GivenKeys : Type 0
GivenKeys = ℕ → Option Key

-- the receipt is of a call by that thread, in that section, on the key that was given for that
-- place
pub record IsCallOn (given : GivenKeys) (section thread place : ℕ) (receipt : Receipt) :
    Type 0 where
  pub by : receipt.worker ≡ thread
  pub in_section : receipt.section ≡ section
  pub of_key : given place ≡ Some receipt.key

-- a key that was to be freed later was not sent off: its ring had no room, or it was never given
-- out
abbrev pub IsKeptBack : Option Key → Other → Type 0
IsKeptBack None what = what ≡ other.Unbound
IsKeptBack (Some key) what = what ≡ other.RingFull

-- this may come of what a line asks the thread for in that section, where those keys were given:
-- the receipt of that call, on the key of that place; of a put that no page was left; of a free
-- that is left for later that the key of that place was sent off, or that its ring had no room; and
-- of a call on a key that it was never given out
abbrev pub Answers : GivenKeys → (section thread : ℕ) → Asked → Outcome → Type 0
Answers given section thread (Puts place value) (Called receipt) =
    IsCallOn given section thread place receipt × (receipt.call ≡ call.Put value)
Answers given section thread (Puts place value) (Said what) = (given place ≡ None)
    × (what ≡ other.PagesSpent)
Answers given section thread (Gets place) (Called receipt) =
    IsCallOn given section thread place receipt × (is_look_up receipt.call ≡ true)
Answers given section thread (Gets place) (Said what) = (given place ≡ None)
    × (what ≡ other.Unbound)
Answers given section thread (Sets place value) (Called receipt) =
    IsCallOn given section thread place receipt × IsSetTo value receipt.call
Answers given section thread (Sets place value) (Said what) = (given place ≡ None)
    × (what ≡ other.Unbound)
Answers given section thread (Frees place) (Called receipt) =
    IsCallOn given section thread place receipt × (is_free receipt.call ≡ true)
Answers given section thread (Frees place) (Said what) = (given place ≡ None)
    × (what ≡ other.Unbound)
Answers given section thread (Leaves place) (Left key) = given place ≡ Some key
Answers given section thread (Leaves place) (Said what) = IsKeptBack (given place) what
Answers given section thread Tends (Took receipts) =
    AllByRecursion (IsFreeBy section thread) receipts
Answers given section thread Trims (Said what) = is_trim what ≡ true
Answers given section thread (Retires most) (Said what) = IsRetirement most what
Answers given section thread Ends (Said what) = what ≡ other.Ended
Answers given section thread Begins (Said what) = what ≡ other.Begun
Answers given section thread Adopts (Said what) = is_adoption what ≡ true
Answers given section thread asked outcome = ⊥

-- these came of all that a line asks the thread for, in order
abbrev pub AreAnswers : GivenKeys → (section thread : ℕ) → List Asked → List Outcome → Type 0
AreAnswers given section thread [] [] = Unit {0}
AreAnswers given section thread (asked ∷ more) (outcome ∷ outcomes) =
    Answers given section thread asked outcome × AreAnswers given section thread more outcomes
AreAnswers given section thread asked outcomes = ⊥
