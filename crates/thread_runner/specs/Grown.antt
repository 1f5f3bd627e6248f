-- How a diary goes on. No public clause cites this module.
use Rattle.span.specs.ReceiptLists.{kept_receipts}
use Rattle.std.specs.Prelude.{◌≡◌, ℕ, ◌+◌, ◌++◌, Bool, true, List, [], ◌∷◌, Some, filter, length, slice_get, slice_index_or, take}
use Rattle.std.specs.List.{AllByRecursion, flat_map, sum_by}
use Rattle.std.specs.List.Sorted.{IsPermutation}
use Rattle.arena.specs.Receipts.{joined}
use Rattle.arena.specs.Seats.{SeatState, Table}
use Rattle.span.specs.declared.key.Key.{Key}
use Rattle.span.specs.declared.receipt.Receipt.{Receipt}
use Rattle.trace_text.specs.Causes.{marks}
use Rattle.trace_text.specs.declared.line.Line.{Line}
use Rattle.thread_runner.specs.Asked.{AreAnswers, Asked, GivenKeys, IsFreeBy, Outcome, is_adoption, places_of, replies_on}
use Rattle.thread_runner.specs.Followed.{Carried, FollowsLines, carried_by, entries_on, is_of_shard, keys_of, receipts_from, sent_by, taken_by}
use Rattle.thread_runner.specs.Told.{voice_of}
use Rattle.thread_runner.specs.declared.diary.Diary.{Diary}
use Rattle.thread_runner.specs.declared.diary.Entry.{Entry}
use Rattle.thread_runner.specs.declared.diary.Entry.TheVariants as entry
use Rattle.trace_runner.specs.declared.report.Other.{Other}

-- a diary has these entries, where it keeps them, these receipts and that many replies more
pub record Grows (entries : List Entry) (receipts : List Receipt) (replies : ℕ) (old new : Diary) :
    Type 0 where
  pub shown_is : new.replies ≡ old.replies
  pub receipts_are : (kept_receipts new.receipts) ≡ (kept_receipts old.receipts) ++ receipts
  pub entries_are : old.replies ≡ true → new.entries.items ≡ old.entries.items ++ entries
  pub calls_is : new.calls ≡ old.calls + replies

-- whose a seat is, by which rings, and in which section
pub record Seated : Type 0 where
  pub worker : ℕ
  pub table : Table
  pub section : ℕ

abbrev pub seated : SeatState → Seated
seated seat = record { worker = seat.worker; table = seat.table; section = seat.section }

-- the rings carry on by these keys sent, and these taken
pub record Carries (sent taken : List Key) (before after : Carried) : Type 0 where
  pub sends : (shard : ℕ) → slice_index_or after.sent shard [] ≡ slice_index_or before.sent shard []
      ++ filter (is_of_shard shard) sent
  pub takes : IsPermutation (joined after.taken) (joined before.taken ++ taken)

-- a diary goes on by what came of all that the line of that number asks the thread for in that
-- section, as do the thread's rings, and no less is known than before of the keys that puts gave
pub record Tells (section thread number : ℕ) (asked : List Asked) (knew knows : GivenKeys
    → Type 0) (old new : Diary) (before after : Carried) : Type 0 where
  pub outcomes : List Outcome
  pub answered : (given : GivenKeys) → knows given → AreAnswers given section thread asked outcomes
  pub known : (given : GivenKeys) → knows given → knew given
  pub grows : Grows (flat_map (entries_on number) outcomes) (flat_map receipts_from outcomes)
      (length asked) old new
  pub carries : Carries (flat_map sent_by outcomes) (flat_map taken_by outcomes) before after

-- a diary goes on by that many frees by the thread in that section, of keys that had come in on the
-- rings
pub record TellsTending (section thread count : ℕ) (old new : Diary) (before after : Carried) :
    Type 0 where
  pub receipts : List Receipt
  pub count_is : count ≡ length receipts
  pub are_frees : AllByRecursion (IsFreeBy section thread) receipts
  pub grows : Grows (entry.Incoming count ∷ []) receipts 0 old new
  pub carries : Carries [] (keys_of receipts) before after

-- a diary goes on by what the adoption of the line of that number came to, which is no reply to a
-- call
pub record TellsAdoption (number : ℕ) (old new : Diary) : Type 0 where
  pub what : Other
  pub adoption : is_adoption what ≡ true
  pub grows : Grows (entry.Said (record { line = number; other = what }) ∷ []) [] 0 old new

-- the diary of a thread that was told nothing yet
pub record IsEmptyDiary (shown : Bool) (diary : Diary) : Type 0 where
  pub shown_is : diary.replies ≡ shown
  pub receipts_are : (kept_receipts diary.receipts) ≡ []
  pub entries_are : diary.entries.items ≡ []
  pub calls_is : diary.calls ≡ 0

-- the rings of a thread that has sent and taken nothing
pub record HaveNothing (carried : Carried) : Type 0 where
  pub none_sent : (shard : ℕ) → slice_index_or carried.sent shard [] ≡ []
  pub none_taken : joined carried.taken ≡ []

-- the diary of a thread that was told what came of that many of its lines and barriers, where so
-- much is known of the keys that puts gave, and what its rings carried
pub record Tracks (lines : List Line) (shown : Bool) (knows : GivenKeys
    → Type 0) (thread done barriers : ℕ) (diary : Diary) (carried : Carried) : Type 0 where
  pub shown_is : diary.replies ≡ shown
  pub follows : (given : GivenKeys) → knows given → ∥ FollowsLines lines given thread
      (take done (places_of thread lines)) barriers shown (voice_of diary) carried ∥₁
  pub counted : diary.calls ≡ sum_by (replies_on lines) (take done (places_of thread lines))

-- the diary of a thread that was told what came of all its lines and barriers, where those keys
-- were given, and what its rings carried
pub record IsDiaryOf (lines : List Line) (shown : Bool) (given : GivenKeys) (thread : ℕ)
    (diary : Diary) (carried : Carried) : Type 0 where
  pub follows : ∥ FollowsLines lines given thread (places_of thread lines) (marks lines
      + 1) shown (voice_of diary) carried ∥₁
  pub counted : diary.calls ≡ sum_by (replies_on lines) (places_of thread lines)

-- one such diary a thread, in order, beside its seat
pub record AreDiaries (lines : List Line) (shown : Bool) (given : GivenKeys) (threads : ℕ)
    (seats : List SeatState) (diaries : List Diary) : Type 0 where
  pub each_thread : length diaries ≡ threads
  pub each_seat : length seats ≡ threads
  pub follow : (thread : ℕ) (seat : SeatState) (diary : Diary) → slice_get seats thread ≡ Some seat
      → slice_get diaries thread ≡ Some diary → IsDiaryOf lines shown given thread diary
      (carried_by seat)

-- a thread between two sections: its seat is of that table, and the next section has that number,
-- as many as it has come to barriers
pub record Rests (lines : List Line) (shown : Bool) (table : Table) (knows : GivenKeys
    → Type 0) (section : ℕ) (seat : SeatState) (done : ℕ) (diary : Diary) : Type 0 where
  pub rows_are : seat.table.rows ≡ table.rows
  pub columns_are : seat.table.columns ≡ table.columns
  pub section_is : seat.section ≡ section
  pub tracks : Tracks lines shown knows seat.worker done section diary (carried_by seat)
