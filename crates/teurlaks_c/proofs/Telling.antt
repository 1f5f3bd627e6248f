-- Answers of a seat, with the receipts that they stand for.
use mathlib.Core.Logic.{inl, inr}
use Rattle.std.proofs.Common.{◌≡◌, ◌∙◌, ℕ, Bool, true, false, List, ap, arith, length}
use Rattle.std.specs.Prelude.{◌⊎◌, IfOk, Option, Result, Ok, Err, OnErr, OnOk, Some, None}
use Rattle.std.specs.declared.alloc.AllocError.{AllocError}
use Rattle.span.specs.Log.{Value}
use Rattle.span.specs.declared.key.Key.{Key}
use Rattle.span.specs.declared.receipt.Receipt.{Receipt}
use Rattle.shard.specs.declared.error.PutError.{PutError}
use Rattle.latch.specs.declared.latch.Busy.{Busy}
use Rattle.arena.specs.Delays.{CountsCall}
use Rattle.arena.specs.Receipts.{get_receipt}
use Rattle.arena.specs.Seats.{SeatState}
use Rattle.arena.specs.Sessions.{LooksUpOwn}
use Rattle.arena.specs.KeyAnswers.{LooksUp, WritesFound}
use Rattle.teurlaks_c.specs.declared.replies.PutReply.{PutReply}
use Rattle.teurlaks_c.specs.declared.replies.RawWord.{RawWord}
use Rattle.teurlaks_c.specs.declared.replies.WordsReply.{WordsReply}
use Rattle.teurlaks_c.specs.declared.share.Share.{Share}
use Rattle.teurlaks_c.specs.Calls.{SaysWords}
use Rattle.teurlaks_c.specs.Recorded.{AtRecorded, asked_of}
use Rattle.teurlaks_c.specs.SeatCalls.{Asks, AsksTold, Gets, OrNoRoom, SaysFreed, SaysGot, SaysLooked, SaysPut, SaysSet, free_told, put_told, set_told}
use Rattle.teurlaks_c.specs.SessionCalls.{AnswersOwn, Held, InSession}
use Rattle.teurlaks_c.specs.Words.{word_of}

-- what a seat answers with no receipt, it answers with the one that this stands for, and a recorded seat keeps that; in a session there is none
pub AsksTold-told : {A B : Type 0} (tell : SeatState → A → B) (does : SeatState → B → SeatState → Type 0) (does_held : Held → A → Held → Type 0)
    (keep : SeatState → B → List Receipt) (status : ℕ) (Says : Option A → Type 0) (SaysTold : Option B → Type 0)
    → (Says None → SaysTold None) → ((seat : SeatState) (a : A) → Says (Some a) → SaysTold (Some (tell seat a)))
    → (old new : Option Share) (answer : Result (Option A) AllocError)
    → AsksTold (λ before a after. does before (tell before a) after) does_held (λ seat a. keep seat (tell seat a)) old answer new → OrNoRoom status Says answer
    → ((told : Option B) × Asks does old told new × SaysTold told)
    ⊎ (((a : A) × InSession does_held old a new × Says (Some a))
    ⊎ ((told : Result B AllocError) × AtRecorded does keep old told new × OrNoRoom status SaysTold (asked_of told)))
AsksTold-told tell does does_held keep status Says SaysTold none some old new (Ok None) asked says = inl (None, asked, none says)
AsksTold-told tell does does_held keep status Says SaysTold none some old new (Ok (Some a)) (inl asked) says = inl (
  Some (tell asked.before.seat a),
  record { before = asked.before; after = asked.after; before_is = asked.before_is; after_is = asked.after_is; arena_is = asked.arena_is; did = asked.did },
  some asked.before.seat a says,
)
AsksTold-told tell does does_held keep status Says SaysTold none some old new (Ok (Some a)) (inr (inl asked)) says = inr (inl (a, asked, says))
AsksTold-told tell does does_held keep status Says SaysTold none some old new (Ok (Some a)) (inr (inr asked)) says = inr (inr (
  Ok (tell asked.before.kept.seat a),
  record { before = asked.before; after = asked.after; before_is = asked.before_is; after_is = asked.after_is; arena_is = asked.arena_is; did = asked.did },
  some asked.before.kept.seat a says,
))
AsksTold-told tell does does_held keep status Says SaysTold none some old new (Err error) asked says = inr (inr (
  Err error,
  record { before = asked.before; after = asked.after; before_is = asked.before_is; after_is = asked.after_is; arena_is = asked.arena_is; did = asked.did },
  says,
))

-- what C reads of a put, of a set and of a free says nothing of the receipt
pub SaysPut-told : (value : Value) (says : PutReply) (seat : SeatState) (answer : Result (Result (Key × ℕ) PutError) Busy)
    → SaysPut says (Some answer) → SaysPut says (Some (put_told value seat answer))
SaysPut-told value says seat (Err b) is = is
SaysPut-told value says seat (Ok (Err error)) is = is
SaysPut-told value says seat (Ok (Ok put)) is = is

pub SaysSet-told : (value : Value) (says : ℕ) (seat : SeatState) (answer : Result (Result (Key × Bool × ℕ) AllocError) Busy)
    → SaysSet says (Some answer) → SaysSet says (Some (set_told value seat answer))
SaysSet-told value says seat (Err b) is = is
SaysSet-told value says seat (Ok (Err error)) is = is
SaysSet-told value says seat (Ok (Ok (key, true, at))) is = is
SaysSet-told value says seat (Ok (Ok (key, false, at))) is = is

pub SaysFreed-told : (says : ℕ) (seat : SeatState) (answer : Result (Key × Bool × ℕ) Busy)
    → SaysFreed says (Some answer) → SaysFreed says (Some (free_told seat answer))
SaysFreed-told says seat (Err b) is = is
SaysFreed-told says seat (Ok (key, true, at)) is = is
SaysFreed-told says seat (Ok (key, false, at)) is = is

-- what C reads of a look-up that found this, whose words stand in the room
pub SaysWords-looked : (room room_new : List RawWord) (says : WordsReply) (found : Option Value) (key : Key) (told : Option ℕ) (at : ℕ)
    → WritesFound word_of found room told room_new → SaysLooked (length room) says (Ok (key, told, at)) → SaysWords room says room_new found
SaysWords-looked room room_new says None key None at (told, same) (len, status) = (len, status, same)
SaysWords-looked room room_new says (Some words) key None at (told, writes) looked = absurd cc
SaysWords-looked room room_new says None key (Some count) at (told, same) looked = absurd cc
SaysWords-looked room room_new says (Some words) key (Some count) at (told, inl (fits, is)) (len, inl (most, status)) =
    let counts : count ≡ length words = cc in
    (len ∙ counts, inl (fits, status, is))
SaysWords-looked room room_new says (Some words) key (Some count) at (told, inl (fits, is)) (len, inr (most, status)) =
    let counts : count ≡ length words = cc in
    absurd (omega (arith, counts, fits, most))
SaysWords-looked room room_new says (Some words) key (Some count) at (told, inr (narrow, same)) (len, inl (most, status)) =
    let counts : count ≡ length words = cc in
    absurd (omega (arith, counts, narrow, most))
SaysWords-looked room room_new says (Some words) key (Some count) at (told, inr (narrow, same)) (len, inr (most, status)) =
    let counts : count ≡ length words = cc in
    (len ∙ counts, inr (narrow, status, same))

-- what a look-up by words tells is what C reads of the look-up that found this, with its receipt
pub SaysGot-looked : (key : Key) (before after : SeatState) (room room_new : List RawWord) (says : WordsReply) (answer : Result (Key × Option ℕ × ℕ) Busy)
    → IfOk answer (λ got. got.0 ≡ key) → IfOk answer (λ got. LooksUp word_of room got.1 room_new)
    → OnOk answer (CountsCall before after) → OnErr answer ((after ≡ before) × (room_new ≡ room)) → SaysLooked (length room) says answer
    → (told : Result (Option Value × Receipt) Busy) × Gets key before told after × SaysGot room says room_new (Some told)
SaysGot-looked key before after room room_new says (Err b) about wrote ok (same, room_same) (status, len) = (Err b, (tt, (tt, same)), (status, len, room_same))
SaysGot-looked key before after room room_new says (Ok (asked, told, at)) about (found, object, wrote) ok err looked = (
  Ok (found, get_receipt before.worker before.section asked found at),
  (ap (λ asked. get_receipt before.worker before.section asked found at) about, (ok, tt)),
  SaysWords-looked room room_new says found asked told at wrote looked,
)

-- the same in a session, whose own shard shows this value of the key
pub SaysGot-held : (own : Option ℕ) (value : Option Value) (Counts Stays : Type 0)
    (room room_new : List RawWord) (says : WordsReply) (answer : Result (Key × Option ℕ × ℕ) Busy)
    → LooksUpOwn word_of own value room answer room_new → OnOk answer Counts → OnErr answer Stays → SaysLooked (length room) says answer
    → (told : Result (Option Value × ℕ) Busy) × (AnswersOwn own value told × OnOk told Counts × OnErr told Stays) × SaysGot room says room_new (Some told)
SaysGot-held (Some at) value Counts Stays room room_new says (Err b) looks counts stays looked = absurd looks
SaysGot-held None value Counts Stays room room_new says (Err b) same counts stays (status, len) = (Err b, (tt, tt, stays), (status, len, same))
SaysGot-held (Some own) value Counts Stays room room_new says (Ok (asked, told, at)) (is, wrote) counts stays looked =
    (Ok (value, at), (ap (λ at. Ok (value, at)) is, counts, tt), SaysWords-looked room room_new says value asked told at wrote looked)
SaysGot-held None value Counts Stays room room_new says (Ok (asked, told, at)) (found, object, wrote) counts stays looked =
    (Ok (found, at), (tt, counts, tt), SaysWords-looked room room_new says found asked told at wrote looked)
