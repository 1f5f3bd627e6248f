-- What the calls on the seats of an arena do.
use Rattle.std.specs.Prelude.{◌≡◌, ◌⊎◌, ◌≤◌, ◌<◌, ◌++◌, ℕ, Bool, true, false, List, Option, Some, None, Result, Ok, Err, IfOk, IsOk, OnErr, OnOk, MatchOption, MatchResult, [], ◌∷◌, if◌then◌else◌, slice_index_or, slice_set}
use Rattle.std.specs.declared.alloc.AllocError.{AllocError}
use Rattle.span.specs.Classes.{IsObject}
use Rattle.span.specs.Log.{Value}
use Rattle.span.specs.declared.id.SpanId.{SpanId}
use Rattle.span.specs.declared.key.Key.{Key}
use Rattle.span.specs.declared.receipt.Receipt.{Receipt}
use Rattle.shard.specs.declared.error.PutError.{PutError}
use Rattle.pool.specs.declared.error.ReceiveError.{ReceiveError}
use Rattle.pool.specs.declared.error.AdoptError.{AdoptError}
use Rattle.latch.specs.declared.latch.Busy.{Busy}
use Rattle.arena.specs.Delays.{CountsCall, HandsOver as HandsOverKeys, HasNoneWaiting, delay_begun}
use Rattle.arena.specs.Receipts.{get_receipt, put_receipt, set_receipt, free_receipt}
use Rattle.arena.specs.Seats.{KeepsEnds, SeatState, free_places_to, sending_side, sent_lists}
use Rattle.arena.specs.Tended.{IsTended}
use Rattle.arena.specs.declared.seat.trying.Tended.{Tended}
use Rattle.teurlaks_c.specs.declared.replies.PutReply.{PutReply}
use Rattle.teurlaks_c.specs.declared.replies.WordsReply.{WordsReply}
use Rattle.teurlaks_c.specs.declared.replies.RetireReply.{RetireReply}
use Rattle.teurlaks_c.specs.declared.replies.TrimReply.{TrimReply}
use Rattle.teurlaks_c.specs.declared.replies.GatherReply.{GatherReply}
use Rattle.teurlaks_c.specs.declared.replies.AdoptReply.{AdoptReply}
use Rattle.teurlaks_c.specs.declared.replies.TendReply.{TendReply}
use Rattle.teurlaks_c.specs.declared.replies.RawKey.{RawKey}
use Rattle.teurlaks_c.specs.declared.replies.RawWord.{RawWord}
use Rattle.teurlaks_c.specs.declared.share.Share.{Share}
use Rattle.teurlaks_c.specs.declared.share.Share.TheVariants.{Seat, Session, RecordedSeat}
use Rattle.teurlaks_c.specs.declared.recorded.RecordedSeat.{RecordedSeat as Recorded}
use Rattle.teurlaks_c.specs.declared.share.SharedSeat.{SharedSeat}
use Rattle.teurlaks_c.specs.Calls.{SaysWords}
use Rattle.teurlaks_c.specs.Recorded.{AtRecorded, asked_of, receipts_of}
use Rattle.teurlaks_c.specs.SessionCalls.{AtHeldSeat, AtPaused, FreesHeld, GetsHeld, Held, InSession, IsHeld, IsPaused, PutsHeld, SetsHeld, StaysSeat}
use Rattle.teurlaks_c.specs.Keys.{IsKeyOf, IsNoKey, IsIdOf}
use Rattle.teurlaks_c.specs.Status.{busy, config, done, no_core, none, out_of_memory, ring_full, still_running, too_small, adopt_status, put_status, receive_status}

-- the handle has no seat
abbrev pub HasNoSeat : Option Share → Type 0
HasNoSeat (Some (Seat seat)) = ⊥
HasNoSeat (Some (Session session)) = ⊥
HasNoSeat (Some (RecordedSeat seat)) = ⊥
HasNoSeat held = Unit {0}

-- the seat of the handle is recorded
abbrev pub HasRecordedSeat : Option Share → Type 0
HasRecordedSeat (Some (RecordedSeat seat)) = Unit {0}
HasRecordedSeat held = ⊥

-- the seat of the handle does this and answers that, at the same arena
pub record AtSeat {Answer : Type 0} (does : SeatState → Answer → SeatState
    → Type 0) (old : Option Share) (answer : Answer) (new : Option Share) : Type 0 where
  pub before : SharedSeat
  pub after : SharedSeat
  pub before_is : old ≡ Some (Seat before)
  pub after_is : new ≡ Some (Seat after)
  pub arena_is : after.arena ≡ before.arena
  pub did : does before.seat answer after.seat

-- no receipt is made
abbrev pub no_receipts : {Answer : Type 0} → SeatState → Answer → List Receipt
no_receipts seat answer = []

-- the handle's seat is asked, where it has one
abbrev pub Asks : {Answer : Type 0} → (SeatState → Answer → SeatState → Type 0) → Option Share
    → Option Answer → Option Share → Type 0
Asks does old answer new = MatchOption answer (HasNoSeat old
    × (new ≡ old)) (λ answer. AtSeat does old answer new)

-- the handle's seat is asked, where it has one: where it keeps its shard it gives that back before,
-- and keeps it no more; a recorded seat makes no receipt
abbrev pub AsksPaused : {Answer : Type 0} → (SeatState → Answer → SeatState → Type 0) → Option Share
    → Option Answer → Option Share → Type 0
AsksPaused does old answer new = MatchOption answer (HasNoSeat old × (new ≡ old))
    (λ answer. AtSeat does old answer new ⊎ (AtPaused does old answer new
    ⊎ AtRecorded does no_receipts old (Ok answer) new))

-- the handle's seat is asked, where it has one: where it keeps no shard it does this, and in a
-- session that; a recorded seat makes no receipt
abbrev pub AsksEither : {Answer : Type 0} → (SeatState → Answer → SeatState → Type 0)
    → (Held → Answer → Held → Type 0)
    → Option Share → Option Answer → Option Share → Type 0
AsksEither does does_held old answer new = MatchOption answer (HasNoSeat old × (new ≡ old))
    (λ answer. AtSeat does old answer new ⊎ (InSession does_held old answer new
    ⊎ AtRecorded does no_receipts old (Ok answer) new))

-- the handle's seat is asked, where it has one: where it keeps no shard it does this, and in a
-- session that; a recorded seat keeps these receipts, or asks nothing where there is no room for
-- one; no public clause cites this
abbrev pub AsksTold : {Answer : Type 0} → (SeatState → Answer → SeatState → Type 0)
    → (Held → Answer → Held → Type 0) → (SeatState → Answer → List Receipt)
    → Option Share → Result (Option Answer) AllocError → Option Share → Type 0
AsksTold does does_held told old (Ok None) new = HasNoSeat old × (new ≡ old)
AsksTold does does_held told old (Ok (Some answer)) new =
    AtSeat does old answer new ⊎ (InSession does_held old answer new
    ⊎ AtRecorded does told old (Ok answer) new)
AsksTold does does_held told old (Err error) new = AtRecorded does told old (Err error) new

-- what C reads of an answer; or that there was no room for a receipt
abbrev pub OrNoRoom : {Answer : Type 0} → ℕ → (Option Answer → Type 0)
    → Result (Option Answer) AllocError → Type 0
OrNoRoom status says (Ok answer) = says answer
OrNoRoom status says (Err error) = status ≡ out_of_memory

-- a call that needs a lock which another thread has changes nothing; else it is one call of the
-- seat more
abbrev pub IsOneCall : {Answer : Type 0} → SeatState → Result Answer Busy → SeatState → Type 0
IsOneCall before answer after = OnOk answer (CountsCall before after)
    × OnErr answer (after ≡ before)

-- the object is put, with the receipt of just that put; or the put is refused
abbrev pub Puts : Value → SeatState → Result (Result (Key × Receipt) PutError) Busy → SeatState
    → Type 0
Puts value before answer after =
    IfOk answer (λ made. IfOk made (λ put. put.1 ≡ put_receipt before.worker before.section value
    put.0 put.1.at)) × IsOneCall before answer after

-- the key is looked up, with the receipt of just that look-up
abbrev pub Gets : Key → SeatState → Result (Option Value × Receipt) Busy → SeatState → Type 0
Gets key before answer after = IfOk answer (λ got. got.1
    ≡ get_receipt before.worker before.section key got.0 got.1.at) × IsOneCall before answer after

-- the key is set to the object, or is not, with the receipt of just that set; or the set is refused
abbrev pub Sets : Key → Value → SeatState → Result (Result (Key × Bool × Receipt) AllocError) Busy
    → SeatState → Type 0
Sets key value before answer after =
    IfOk answer (λ made. IfOk made (λ set. (set.0 ≡ key) × (set.2
    ≡ set_receipt before.worker before.section key value set.1 set.2.at)))
    × IsOneCall before answer after

-- the key is freed, or is not live, with the receipt of just that free
abbrev pub Frees : Key → SeatState → Result (Key × Bool × Receipt) Busy → SeatState → Type 0
Frees key before answer after = IfOk answer (λ freed. (freed.0 ≡ key) × (freed.2
    ≡ free_receipt before.worker before.section key freed.1 freed.2.at))
    × IsOneCall before answer after

-- a put's answer, with the receipt that it stands for in place of how many changes stood in the
-- span's log
abbrev pub put_told : Value → SeatState → Result (Result (Key × ℕ) PutError) Busy
    → Result (Result (Key × Receipt) PutError) Busy
put_told value seat (Err b) = Err b
put_told value seat (Ok (Err error)) = Ok (Err error)
put_told value seat (Ok (Ok put)) = Ok (Ok (
  put.0,
  put_receipt seat.worker seat.section value put.0 put.1,
))

-- a put that answers so
abbrev pub PutsWithoutReceipt : Value → SeatState → Result (Result (Key × ℕ) PutError) Busy
    → SeatState → Type 0
PutsWithoutReceipt value before answer after =
    Puts value before (put_told value before answer) after

-- the same of a set
abbrev pub set_told : Value → SeatState → Result (Result (Key × Bool × ℕ) AllocError) Busy
    → Result (Result (Key × Bool × Receipt) AllocError) Busy
set_told value seat (Err b) = Err b
set_told value seat (Ok (Err error)) = Ok (Err error)
set_told value seat (Ok (Ok set)) = Ok (Ok (
  set.0,
  set.1,
  set_receipt seat.worker seat.section set.0 value set.1 set.2,
))

-- the same of a free
abbrev pub free_told : SeatState → Result (Key × Bool × ℕ) Busy
    → Result (Key × Bool × Receipt) Busy
free_told seat (Err b) = Err b
free_told seat (Ok freed) = Ok (
  freed.0,
  freed.1,
  free_receipt seat.worker seat.section freed.0 freed.1 freed.2,
)

-- the receipt of a put that was not refused
abbrev pub put_kept : SeatState → Result (Result (Key × Receipt) PutError) Busy → List Receipt
put_kept seat (Ok (Ok put)) = put.1 ∷ []
put_kept seat answer = []

-- that of a put that answers so
abbrev pub puts_kept : Value → SeatState → Result (Result (Key × ℕ) PutError) Busy → List Receipt
puts_kept value seat answer = put_kept seat (put_told value seat answer)

-- that of a look-up
abbrev pub got_kept : SeatState → Result (Option Value × Receipt) Busy → List Receipt
got_kept seat (Ok got) = got.1 ∷ []
got_kept seat (Err b) = []

-- that of a set that was not refused, whether it was done or not
abbrev pub set_kept : SeatState → Result (Result (Key × Bool × Receipt) AllocError) Busy
    → List Receipt
set_kept seat (Ok (Ok set)) = set.2 ∷ []
set_kept seat answer = []

-- that of a set that answers so
abbrev pub sets_kept : Value → SeatState → Result (Result (Key × Bool × ℕ) AllocError) Busy
    → List Receipt
sets_kept value seat answer = set_kept seat (set_told value seat answer)

-- that of a free, whether it was done or not
abbrev pub freed_kept : SeatState → Result (Key × Bool × Receipt) Busy → List Receipt
freed_kept seat (Ok freed) = freed.2 ∷ []
freed_kept seat (Err b) = []

-- that of a free that answers so
abbrev pub frees_kept : SeatState → Result (Key × Bool × ℕ) Busy → List Receipt
frees_kept seat answer = freed_kept seat (free_told seat answer)

-- at most that many groups go
abbrev pub Retires : ℕ → SeatState → Result (Result ℕ ReceiveError) Busy → SeatState → Type 0
Retires most before answer after = IfOk answer (λ retired. IfOk retired (λ count. count ≤ most))
    × IsOneCall before answer after

-- as many groups as it says were gathered, up to so many, or a block was refused
abbrev pub Gathers : ℕ → SeatState → Result (Result ℕ AllocError) Busy → SeatState → Type 0
Gathers most before answer after = IfOk answer (λ gathered. IfOk gathered (λ count. count ≤ most))
    × IsOneCall before answer after

-- the shard ends, and what the seat has left to others is handed over
abbrev pub Ends : SeatState → Result (Result (Unit {0}) ReceiveError) Busy → SeatState → Type 0
Ends before answer after = OnOk answer (HandsOverKeys before after) × OnErr answer (after ≡ before)

-- the key is left to the thread of the shard that opened its span, or the ring is full, which it is
-- where no place is known to be free; or the arena has no such shard
abbrev pub FreesLater : Key → SeatState → Option (Result (Unit {0}) Key) → SeatState → Type 0
FreesLater key before answer after = MatchOption answer
    ((key.span.shard < before.limits.shards → ⊥) × (after ≡ before))
    (λ sent. (key.span.shard < before.limits.shards) × KeepsEnds before after
    × (after.section ≡ before.section) × (after.inboxes ≡ before.inboxes)
    × (0 < free_places_to before.outboxes key.span.shard → IsOk sent)
    × MatchResult sent
    (λ left. (after.delay ≡ delay_begun before.delay)
    × (sent_lists after ≡ slice_set (sent_lists before) key.span.shard
    (slice_index_or (sent_lists before) key.span.shard [] ++ key ∷ [])))
    (λ back. (back ≡ key) × HasNoneWaiting after × (sent_lists after ≡ sent_lists before)))

-- keys were taken from the seat's rings, in order, and each was freed; what the seat has left to
-- others is handed over
abbrev pub Tends : SeatState → Result Tended AllocError → SeatState → Type 0
Tends before answer after =
    IfOk answer (λ tended. (told : List Receipt) × IsTended before.limits.ring_capacity before after
    [] told tended.count)
    × HasNoneWaiting after × KeepsEnds before after × (sending_side after ≡ sending_side before)

-- the same, and to these receipts those of the frees were added
abbrev pub TendsInto : List Receipt → SeatState → Result Tended AllocError → SeatState
    → List Receipt → Type 0
TendsInto kept before answer after kept_after =
    IfOk answer (λ tended. IsTended before.limits.ring_capacity before after kept kept_after
    tended.count) × OnErr answer (kept_after ≡ kept)
    × HasNoneWaiting after × KeepsEnds before after × (sending_side after ≡ sending_side before)

-- the recorded seat of the handle tends its rings, at the same arena, and keeps the receipts
pub record TendsRecorded (old : Option Share) (answer : Result Tended AllocError)
    (new : Option Share) : Type 0 where
  pub before : Recorded
  pub after : Recorded
  pub before_is : old ≡ Some (RecordedSeat before)
  pub after_is : new ≡ Some (RecordedSeat after)
  pub arena_is : after.arena ≡ before.arena
  pub did : TendsInto (receipts_of before.kept) before.kept.seat answer after.kept.seat
      (receipts_of after.kept)

-- the handle's seat tends its rings, where it has one: where it keeps its shard it gives that back
-- before, and keeps it no more
abbrev pub AsksTend : Option Share → Option (Result Tended AllocError) → Option Share → Type 0
AsksTend old answer new = MatchOption answer (HasNoSeat old × (new ≡ old))
    (λ answer. AtSeat Tends old answer new ⊎ (AtPaused Tends old answer new
    ⊎ TendsRecorded old answer new))

-- nothing is asked of the seat
abbrev pub Stays : SeatState → Unit {0} → SeatState → Type 0
Stays before answer after = after ≡ before

-- what C reads where nothing is asked: this status, where there is a seat
abbrev pub SaysInstead : ℕ → ℕ → Option (Unit {0}) → Type 0
SaysInstead status says None = says ≡ no_core
SaysInstead status says (Some stayed) = says ≡ status

-- nothing is asked of the seat, and this is answered in place of what it would say
abbrev pub AsksNothing : ℕ → Option Share → ℕ → Option Share → Type 0
AsksNothing status old says new = (answer : _) × AsksEither Stays (AtHeldSeat Stays) old answer new
    × SaysInstead status says answer

-- what C reads of a put
abbrev pub SaysPut : {Told : Type 0} → PutReply → Option
    (Result (Result (Key × Told) PutError) Busy) → Type 0
SaysPut says None = says.status ≡ no_core
SaysPut says (Some (Err b)) = says.status ≡ busy
SaysPut says (Some (Ok (Ok put))) = (says.status ≡ done) × IsKeyOf says.key put.0
SaysPut says (Some (Ok (Err error))) = says.status ≡ put_status error

-- words that are put by the seat, or in its session; a recorded seat keeps the receipt, or puts
-- nothing where there is no room for one
abbrev pub PutsBy : Option Share → Value → PutReply → Option Share → Type 0
PutsBy old words says new = ((answer : _) × Asks (Puts words) old answer new × SaysPut says answer)
    ⊎ (((answer : _) × InSession (PutsHeld words) old answer new × SaysPut says (Some answer))
    ⊎ ((answer : _) × AtRecorded (Puts words) put_kept old answer new
    × OrNoRoom says.status (SaysPut says) (asked_of answer)))

-- words that are no object are refused; others are put
abbrev pub PutsWords : Option Share → List ℕ → PutReply → Option Share → Type 0
PutsWords old words says new = (IsObject words × PutsBy old words says new)
    ⊎ ((IsObject words → ⊥) × AsksNothing config old says.status new)

-- what C reads of a look-up, and what it leaves in the room
abbrev pub SaysGot : {Told : Type 0} → List RawWord → WordsReply → List RawWord
    → Option (Result (Option Value × Told) Busy) → Type 0
SaysGot room says room_new None = (says.status ≡ no_core) × (says.len ≡ 0) × (room_new ≡ room)
SaysGot room says room_new (Some (Err b)) = (says.status ≡ busy) × (says.len ≡ 0)
    × (room_new ≡ room)
SaysGot room says room_new (Some (Ok got)) = SaysWords room says room_new got.0

-- the same; or there was no room for a receipt
abbrev pub SaysGotOrNoRoom : List RawWord → WordsReply → List RawWord
    → Result (Option (Result (Option Value × Receipt) Busy)) AllocError → Type 0
SaysGotOrNoRoom room says room_new (Ok answer) = SaysGot room says room_new answer
SaysGotOrNoRoom room says room_new (Err error) = (says.status ≡ out_of_memory) × (says.len ≡ 0)
    × (room_new ≡ room)

-- what C reads of a look-up by words, where there is room for so many
abbrev pub SaysLooked : ℕ → WordsReply → Result (Key × Option ℕ × ℕ) Busy → Type 0
SaysLooked most says (Err b) = (says.status ≡ busy) × (says.len ≡ 0)
SaysLooked most says (Ok (key, None, at)) = (says.len ≡ 0) × (says.status ≡ none)
SaysLooked most says (Ok (key, Some count, at)) = (says.len ≡ count)
    × (((count ≤ most) × (says.status ≡ done)) ⊎ ((most < count) × (says.status ≡ too_small)))

-- the key is looked up by the seat, or in its session; a recorded seat keeps the receipt, or looks
-- nothing up where there is no room for one
abbrev pub GetsKey : Option Share → Key → List RawWord → WordsReply → List RawWord → Option Share
    → Type 0
GetsKey old key room says room_new new = ((answer : _) × Asks (Gets key) old answer new
    × SaysGot room says room_new answer)
    ⊎ (((answer : _) × InSession (GetsHeld key) old answer new
    × SaysGot room says room_new (Some answer))
    ⊎ ((answer : _) × AtRecorded (Gets key) got_kept old answer new
    × SaysGotOrNoRoom room says room_new (asked_of answer)))

-- the words of the key with these numbers, if it is live
abbrev pub GetsWords : Option Share → RawKey → List RawWord → WordsReply → List RawWord
    → Option Share → Type 0
GetsWords old raw room says room_new new = (IsNoKey raw × AsksNothing none old says.status new
    × (says.len ≡ 0) × (room_new ≡ room))
    ⊎ ((key : Key) × IsKeyOf raw key × GetsKey old key room says room_new new)

-- what C reads of a free
abbrev pub SaysFreed : {Told : Type 0} → ℕ → Option (Result (Key × Bool × Told) Busy) → Type 0
SaysFreed says None = says ≡ no_core
SaysFreed says (Some (Err b)) = says ≡ busy
SaysFreed says (Some (Ok (key, true, receipt))) = says ≡ done
SaysFreed says (Some (Ok (key, false, receipt))) = says ≡ none

-- the key is freed by the seat, or in its session; a recorded seat keeps the receipt, or frees
-- nothing where there is no room for one
abbrev pub FreesBy : Option Share → Key → ℕ → Option Share → Type 0
FreesBy old key says new = ((answer : _) × Asks (Frees key) old answer new × SaysFreed says answer)
    ⊎ (((answer : _) × InSession (FreesHeld key) old answer new × SaysFreed says (Some answer))
    ⊎ ((answer : _) × AtRecorded (Frees key) freed_kept old answer new
    × OrNoRoom says (SaysFreed says) (asked_of answer)))

-- the key with these numbers is freed, if it is live
abbrev pub FreesKey : Option Share → RawKey → ℕ → Option Share → Type 0
FreesKey old raw says new = (IsNoKey raw × AsksNothing none old says new)
    ⊎ ((key : Key) × IsKeyOf raw key × FreesBy old key says new)

-- what C reads of a set
abbrev pub SaysSet : {Told : Type 0} → ℕ
    → Option (Result (Result (Key × Bool × Told) AllocError) Busy) → Type 0
SaysSet says None = says ≡ no_core
SaysSet says (Some (Err b)) = says ≡ busy
SaysSet says (Some (Ok (Err error))) = says ≡ out_of_memory
SaysSet says (Some (Ok (Ok (key, true, receipt)))) = says ≡ done
SaysSet says (Some (Ok (Ok (key, false, receipt)))) = says ≡ none

-- the key is set to the object by the seat, or in its session; a recorded seat keeps the receipt,
-- or sets nothing where there is no room for one
abbrev pub SetsBy : Option Share → Key → Value → ℕ → Option Share → Type 0
SetsBy old key words says new = ((answer : _) × Asks (Sets key words) old answer new
    × SaysSet says answer)
    ⊎ (((answer : _) × InSession (SetsHeld key words) old answer new × SaysSet says (Some answer))
    ⊎ ((answer : _) × AtRecorded (Sets key words) set_kept old answer new
    × OrNoRoom says (SaysSet says) (asked_of answer)))

-- words that are no object are refused; to others the key with these numbers is set, if it is live
-- and its object has as many words
abbrev pub SetsWords : Option Share → RawKey → List ℕ → ℕ → Option Share → Type 0
SetsWords old raw words says new = ((IsObject words → ⊥) × AsksNothing config old says new)
    ⊎ ((IsObject words × (IsNoKey raw × AsksNothing none old says new))
    ⊎ (IsObject words × ((key : Key) × IsKeyOf raw key × SetsBy old key words says new)))

-- what C reads of a retirement
abbrev pub SaysRetired : RetireReply → Option (Result (Result ℕ ReceiveError) Busy) → Type 0
SaysRetired says None = (says.status ≡ no_core) × (says.count ≡ 0)
SaysRetired says (Some (Err b)) = (says.status ≡ busy) × (says.count ≡ 0)
SaysRetired says (Some (Ok (Ok count))) = (says.status ≡ done) × (says.count ≡ count)
SaysRetired says (Some (Ok (Err error))) = (says.status ≡ receive_status error) × (says.count ≡ 0)

-- what C reads of an end
abbrev pub SaysEnded : ℕ → Option (Result (Result (Unit {0}) ReceiveError) Busy) → Type 0
SaysEnded says None = says ≡ no_core
SaysEnded says (Some (Err b)) = says ≡ busy
SaysEnded says (Some (Ok (Ok ended))) = says ≡ done
SaysEnded says (Some (Ok (Err error))) = says ≡ receive_status error

-- what C reads of a begin, which is told whether the shard had ended
abbrev pub SaysBegun : ℕ → Option (Result Bool Busy) → Type 0
SaysBegun says None = says ≡ no_core
SaysBegun says (Some (Err b)) = says ≡ busy
SaysBegun says (Some (Ok true)) = says ≡ done
SaysBegun says (Some (Ok false)) = says ≡ still_running

-- what C reads of a trim
abbrev pub SaysTrimmed : TrimReply → Option (Result ℕ Busy) → Type 0
SaysTrimmed says None = (says.status ≡ no_core) × (says.count ≡ 0)
SaysTrimmed says (Some (Err b)) = (says.status ≡ busy) × (says.count ≡ 0)
SaysTrimmed says (Some (Ok count)) = (says.status ≡ done) × (says.count ≡ count)

-- what C reads of a gathering
abbrev pub SaysGathered : GatherReply → Option (Result (Result ℕ AllocError) Busy) → Type 0
SaysGathered says None = (says.status ≡ no_core) × (says.count ≡ 0)
SaysGathered says (Some (Err b)) = (says.status ≡ busy) × (says.count ≡ 0)
SaysGathered says (Some (Ok (Ok count))) = (says.status ≡ done) × (says.count ≡ count)
SaysGathered says (Some (Ok (Err refused))) = (says.status ≡ out_of_memory) × (says.count ≡ 0)

-- what C reads of an adoption
abbrev pub SaysAdopted : AdoptReply → Option (Result (Result SpanId AdoptError) Busy) → Type 0
SaysAdopted says None = says.status ≡ no_core
SaysAdopted says (Some (Err b)) = says.status ≡ busy
SaysAdopted says (Some (Ok (Ok head))) = (says.status ≡ done) × IsIdOf says.head head
SaysAdopted says (Some (Ok (Err error))) = says.status ≡ adopt_status error

-- what C reads of a deferred free
abbrev pub SaysLeft : ℕ → Option (Option (Result (Unit {0}) Key)) → Type 0
SaysLeft says None = says ≡ no_core
SaysLeft says (Some None) = says ≡ none
SaysLeft says (Some (Some (Ok left))) = says ≡ done
SaysLeft says (Some (Some (Err back))) = says ≡ ring_full

-- the key with these numbers is left to its shard's thread, if there is one
abbrev pub LeavesKey : Option Share → RawKey → ℕ → Option Share → Type 0
LeavesKey old raw says new = (IsNoKey raw × AsksNothing none old says new)
    ⊎ ((key : Key) × IsKeyOf raw key × ((answer : _)
    × AsksEither (FreesLater key) (AtHeldSeat (FreesLater key)) old answer new
    × SaysLeft says answer))

-- the keys that wait at the seat are handed over
abbrev pub HandsOver : SeatState → Unit {0} → SeatState → Type 0
HandsOver before answer after = HandsOverKeys before after

-- what C reads of a hand-over
abbrev pub SaysHandedOver : ℕ → Option (Unit {0}) → Type 0
SaysHandedOver says None = says ≡ no_core
SaysHandedOver says (Some handed) = says ≡ done

-- what C reads of a tending
abbrev pub SaysTended : TendReply → Option (Result Tended AllocError) → Type 0
SaysTended says None = (says.status ≡ no_core) × (says.count ≡ 0)
SaysTended says (Some (Err error)) = (says.status ≡ out_of_memory) × (says.count ≡ 0)
SaysTended says (Some (Ok tended)) = (says.status ≡ (if tended.is_busy then busy else done))
    × (says.count ≡ tended.count)

-- the handle's seat keeps its shard from now on; or another thread has it, or the seat is recorded,
-- and nothing changes
abbrev pub HoldsShard : Option Share → ℕ → Option Share → Type 0
HoldsShard old says new = (HasNoSeat old × (says ≡ no_core) × (new ≡ old))
    ⊎ (((says ≡ done) × IsHeld old new) ⊎ (((says ≡ busy) × StaysSeat old new)
    ⊎ (HasRecordedSeat old × (says ≡ config) × (new ≡ old))))

-- the handle's seat keeps its shard no more; a recorded seat never does, and stays as it was
abbrev pub GivesShard : Option Share → ℕ → Option Share → Type 0
GivesShard old says new = IsPaused old new × ((HasNoSeat old × (says ≡ no_core))
    ⊎ ((HasNoSeat old → ⊥) × (says ≡ done)))
