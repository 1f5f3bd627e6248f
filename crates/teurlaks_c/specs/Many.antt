-- What many puts, look-ups and frees by one call do: what so many calls do, one after another.
use Rattle.std.specs.Prelude.{◌≡◌, ◌⊎◌, ◌+◌, ◌≤◌, ◌++◌, ◌∷◌, [], ℕ, Bool, false, List, Option, Some, None, drop, if◌then◌else◌, length, map, slice_get, take}
use Rattle.span.specs.declared.key.Key.{Key}
use Rattle.span.specs.Log.{Value}
use Rattle.arena_core.specs.declared.event.Event.TheVariants.{Put, Free}
use Rattle.arena_core.specs.declared.reply.Reply.TheVariants.{Issued, Freed, Refused}
use Rattle.arena_core.specs.declared.reply.Refusal.{Refusal}
use Rattle.arena_core.specs.State.{CoreState, shown}
use Rattle.teurlaks_c.specs.declared.held.Held.{Held}
use Rattle.teurlaks_c.specs.declared.replies.RawKey.{RawKey}
use Rattle.teurlaks_c.specs.declared.replies.RawWord.{RawWord}
use Rattle.teurlaks_c.specs.declared.replies.GetReply.{GetReply}
use Rattle.teurlaks_c.specs.declared.replies.ManyReply.{ManyReply}
use Rattle.teurlaks_c.specs.Calls.{Replies, SaysGot}
use Rattle.teurlaks_c.specs.Keys.{IsKeyOf, IsNoKey}
use Rattle.teurlaks_c.specs.Status.{done, refusal_status}
use Rattle.teurlaks_c.specs.Words.{word_of}

-- an object of one word for each word
abbrev pub objects_of : List RawWord → List Value
objects_of words = map (λ word. word_of word ∷ []) words

-- the objects are put in the shard, one after another, and these are their keys, in the same order
abbrev pub PutsAll : CoreState → ℕ → List Value → List RawKey → CoreState → Type 0
PutsAll old shard [] [] new = new ≡ old
PutsAll old shard (value ∷ values) (raw ∷ raws) new =
    (mid : CoreState) × (key : Key) × Replies old (Put shard value) (Issued key) mid
    × IsKeyOf raw key × PutsAll mid shard values raws new
PutsAll old shard values raws new = ⊥

-- the put of the object that comes next is refused, and the status says why; or none is left, and
-- all are done
abbrev pub StopsAt : CoreState → ℕ → Option Value → ℕ → CoreState → Type 0
StopsAt old shard None status new = (status ≡ done) × (new ≡ old)
StopsAt old shard (Some value) status new = (refusal : Refusal)
    × Replies old (Put shard value) (Refused refusal) new × (status ≡ refusal_status refusal)

-- as many of the objects as the count says are put, the first ones, up to the first whose put is
-- refused; their keys stand at the beginning of the room, and the rest of it is as it was
pub record PutsMany (old : CoreState) (shard : ℕ) (values : List Value) (room : List RawKey)
    (says : ManyReply) (room_new : List RawKey) (new : CoreState) : Type 0 where
  pub keys : List RawKey
  pub mid : CoreState
  pub few : says.count ≤ length values
  pub puts : PutsAll old shard (take says.count values) keys mid
  pub written : room_new ≡ keys ++ drop says.count room
  pub stops : StopsAt mid shard (slice_get values says.count) says.status new

-- an object of one word for each word is put so, as far as the room goes
abbrev pub PutsEach : ℕ → List RawWord → List RawKey → ManyReply → List RawKey → CoreState
    → CoreState → Type 0
PutsEach shard words room says room_new old new =
    PutsMany old shard (take (length room) (objects_of words)) room says room_new new

-- the key with these numbers is freed, if it is live; else nothing changes
abbrev pub FreesRaw : CoreState → RawKey → Bool → CoreState → Type 0
FreesRaw old raw freed new = (IsNoKey raw × (freed ≡ false) × (new ≡ old))
    ⊎ ((key : Key) × IsKeyOf raw key × Replies old (Free key) (Freed freed) new)

-- the keys are freed, one after another, and so many of them were live
abbrev pub FreesAll : CoreState → List RawKey → ℕ → CoreState → Type 0
FreesAll old [] count new = (count ≡ 0) × (new ≡ old)
FreesAll old (raw ∷ raws) count new =
    (mid : CoreState) × (freed : Bool) × (rest : ℕ) × FreesRaw old raw freed mid
    × (count ≡ (if freed then rest + 1 else rest)) × FreesAll mid raws rest new

-- what is read of a look-up of the key with these numbers
abbrev pub GetsRaw : CoreState → RawKey → GetReply → Type 0
GetsRaw core raw says = (IsNoKey raw × SaysGot says None)
    ⊎ ((key : Key) × IsKeyOf raw key × SaysGot says ((shown core).value_of key))

-- what is read of a look-up of each key stands at its place in the room, as far as both go, and all
-- else of the room is as it was
pub record GetsAll (core : CoreState) (raws : List RawKey) (room room_new : List GetReply) :
    Type 0 where
  pub long : length room_new ≡ length room
  pub got : (place : ℕ) (raw : RawKey) (says : GetReply) → slice_get raws place ≡ Some raw
      → slice_get room_new place ≡ Some says → GetsRaw core raw says
  pub others : (place : ℕ) → length raws ≤ place → slice_get room_new place ≡ slice_get room place

-- the cores of the handle before and after, whose certificate and compaction stay
pub record Changes (old : Option Held) (Does : CoreState → CoreState
    → Type 0) (new : Option Held) : Type 0 where
  pub before : Held
  pub after : Held
  pub before_is : old ≡ Some before
  pub after_is : new ≡ Some after
  pub does : Does before.core after.core
  pub same : after.last ≡ before.last
  pub compaction : after.compaction ≡ before.compaction
