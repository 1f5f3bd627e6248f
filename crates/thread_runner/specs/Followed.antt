-- How what a thread was told follows its lines.
use Rattle.std.specs.Prelude.{◌≡◌, ◌==◌, ℕ, ◌+◌, Bool, true, List, [], ◌∷◌, Some, filter, length, map, slice_get, slice_index_or, take}
use Rattle.std.specs.List.{AllByRecursion, flat_map}
use Rattle.std.specs.List.Sorted.{IsPermutation}
use Rattle.span.specs.declared.key.Key.{Key}
use Rattle.span.specs.declared.receipt.Receipt.{Receipt}
use Rattle.arena.specs.Receipts.{joined}
use Rattle.arena.specs.Seats.{SeatState, sent_lists, taken_lists}
use Rattle.trace_text.specs.Causes.{marks}
use Rattle.trace_text.specs.declared.line.Line.{Line}
use Rattle.trace_text.specs.declared.line.Line.TheVariants as line
use Rattle.trace_text.specs.declared.trace.Trace.{Trace}
use Rattle.thread_runner.specs.Asked.{AreAnswers, GivenKeys, IsFreeBy, Outcome, Called, Left, Took, Said, asked_at, is_line_of, places_of}
use Rattle.thread_runner.specs.Told.{Voice}
use Rattle.thread_runner.specs.declared.diary.Entry.{Entry}
use Rattle.thread_runner.specs.declared.diary.Entry.TheVariants as entry
use Rattle.trace_runner.specs.declared.report.Other.TheVariants as other

-- the entries of what came of one thing that the line of that number asked for
abbrev pub entries_on : ℕ → Outcome → List Entry
entries_on number (Called receipt) = entry.Called number ∷ []
entries_on number (Left key) = entry.Said (record { line = number; other = other.Sent }) ∷ []
entries_on number (Took receipts) = entry.Incoming (length receipts)
    ∷ entry.Said (record { line = number; other = other.Settled (length receipts) }) ∷ []
entries_on number (Said what) = entry.Said (record { line = number; other = what }) ∷ []

-- its receipts
abbrev pub receipts_from : Outcome → List Receipt
receipts_from (Called receipt) = receipt ∷ []
receipts_from (Left key) = []
receipts_from (Took receipts) = receipts
receipts_from (Said what) = []

-- the key that was sent off
abbrev pub sent_by : Outcome → List Key
sent_by (Left key) = key ∷ []
sent_by outcome = []

-- the keys of these receipts
abbrev pub keys_of : List Receipt → List Key
keys_of receipts = map (λ receipt. receipt.key) receipts

-- the keys that were taken from the rings
abbrev pub taken_by : Outcome → List Key
taken_by (Took receipts) = keys_of receipts
taken_by outcome = []

-- what a thread was told at one time
pub data Passage : Type 0 where
  -- what came of its line at that place, below the header
  AtLine : ℕ → List Outcome → Passage
  -- at the barrier that ends a section the keys were taken and freed that had come in on the rings,
  -- with these receipts
  AtBarrier : List Receipt → Passage

-- the place of the line
abbrev pub places_in : Passage → List ℕ
places_in (AtLine place outcomes) = place ∷ []
places_in (AtBarrier receipts) = []

-- the entries; a line's number is its place and the header's five lines, from 1 on
abbrev pub entries_in : Passage → List Entry
entries_in (AtLine place outcomes) = flat_map (entries_on (place + 6)) outcomes
entries_in (AtBarrier receipts) = entry.Incoming (length receipts) ∷ []

-- the receipts
abbrev pub receipts_in : Passage → List Receipt
receipts_in (AtLine place outcomes) = flat_map receipts_from outcomes
receipts_in (AtBarrier receipts) = receipts

-- the keys that were sent off
abbrev pub sent_in : Passage → List Key
sent_in (AtLine place outcomes) = flat_map sent_by outcomes
sent_in (AtBarrier receipts) = []

-- the keys that were taken from the rings, and freed
abbrev pub taken_in : Passage → List Key
taken_in (AtLine place outcomes) = flat_map taken_by outcomes
taken_in (AtBarrier receipts) = keys_of receipts

-- what the ends of a thread's rings had carried: by shard the keys that it sent there, and by
-- thread those that it took from there, each in order
pub record Carried : Type 0 where
  pub sent : List (List Key)
  pub taken : List (List Key)

abbrev pub carried_by : SeatState → Carried
carried_by seat = record { sent = sent_lists seat; taken = taken_lists seat.inboxes }

-- the key's span was opened by that shard
abbrev pub is_of_shard : ℕ → Key → Bool
is_of_shard shard key = key.span.shard == shard

-- how many barriers a thread has come to at the line of that place: those of the marks above it,
-- and for an adoption that which it is made at
abbrev pub barriers_to : List Line → ℕ → Line → ℕ
barriers_to lines place (line.Adopt shard) = marks (take place lines) + 1
barriers_to lines place _ = marks (take place lines)

-- at that place stands a line of the thread, to which it comes after so many barriers, and these
-- came of what it asks for, where those keys were given; its section is the number of marks above
-- it
pub record AnswersLine (lines : List Line) (given : GivenKeys) (thread barriers place : ℕ)
    (outcomes : List Outcome) : Type 0 where
  pub line : Line
  pub here : slice_get lines place ≡ Some line
  pub of_thread : is_line_of thread line ≡ true
  pub after_barriers : barriers ≡ barriers_to lines place line
  pub answered : AreAnswers given (marks (take place lines)) thread
      (asked_at (take place lines) line) outcomes

-- after so many barriers the thread was told this of its line; or at the barrier that ends the
-- section of that number, of frees of its own in that section alone
abbrev pub IsPassage : List Line → GivenKeys → (thread barriers : ℕ) → Passage → Type 0
IsPassage lines given thread barriers (AtLine place outcomes) =
    AnswersLine lines given thread barriers place outcomes
IsPassage lines given thread barriers (AtBarrier receipts) =
    AllByRecursion (IsFreeBy barriers thread) receipts

-- how many barriers the thread has come to after a passage
abbrev pub barriers_after : ℕ → Passage → ℕ
barriers_after barriers (AtLine place outcomes) = barriers
barriers_after barriers (AtBarrier receipts) = barriers + 1

-- the thread was told this, passage by passage, from so many barriers up to so many
abbrev pub ArePassages : List Line → GivenKeys → (thread from to : ℕ) → List Passage → Type 0
ArePassages lines given thread from to [] = from ≡ to
ArePassages lines given thread from to (passage ∷ passages) =
    IsPassage lines given thread from passage × ArePassages lines given thread
    (barriers_after from passage) to passages

-- passage by passage the voice tells what came of the thread's lines at these places, in this
-- order, where those keys were given, and what it took at each of so many barriers, and nothing
-- else; it has entries where they are shown. Its rings carried to each shard the keys of that shard
-- that it sent off, in order, and no others; and the keys that it took are those that they carried
-- to it
pub record FollowsLines (lines : List Line) (given : GivenKeys) (thread : ℕ) (places : List ℕ)
    (barriers : ℕ) (shown : Bool) (voice : Voice) (carried : Carried) : Type 0 where
  pub passages : List Passage
  pub in_order : flat_map places_in passages ≡ places
  pub each : ArePassages lines given thread 0 barriers passages
  pub receipts_are : voice.receipts ≡ flat_map receipts_in passages
  pub entries_are : shown ≡ true → voice.entries ≡ flat_map entries_in passages
  pub sends : (shard : ℕ) → slice_index_or carried.sent shard []
      ≡ filter (is_of_shard shard) (flat_map sent_in passages)
  pub takes : IsPermutation (joined carried.taken) (flat_map taken_in passages)

-- one a thread, in order, with a ring to each and from each: what a thread took from another's is
-- what that sent to it, in the order sent
pub record AreDelivered (threads : ℕ) (carried : List Carried) : Type 0 where
  pub each_thread : length carried ≡ threads
  pub each_ring : (thread : ℕ) (its : Carried) → slice_get carried thread ≡ Some its
      → (length its.sent ≡ threads) × (length its.taken ≡ threads)
  pub whole : (from to : ℕ) (sender taker : Carried) → slice_get carried from ≡ Some sender
      → slice_get carried to ≡ Some taker → slice_index_or taker.taken from []
      ≡ slice_index_or sender.sent to []

-- one voice a thread, in order; each follows all lines of its thread, each once, and all barriers:
-- those of the marks, and the end of the text. One table has the key that each put gave, and each
-- call on a name is on the key which that has for it. And each key that was sent off was taken by
-- the thread of its shard, once, and freed
pub record AreVoices (trace : Trace) (shown : Bool) (voices : List Voice) : Type 0 where
  pub given : GivenKeys
  pub carried : List Carried
  pub each_thread : length voices ≡ trace.header.shards
  pub delivered : AreDelivered trace.header.shards carried
  pub follows : (thread : ℕ) (voice : Voice) (its : Carried) → slice_get voices thread ≡ Some voice
      → slice_get carried thread ≡ Some its
      → ∥ FollowsLines trace.lines.items given thread (places_of thread trace.lines.items)
      (marks trace.lines.items + 1) shown voice its ∥₁
