-- What the calls do.
use Rattle.std.specs.Prelude.{◌≡◌, ◌⊎◌, ◌<◌, ◌≤◌, ◌++◌, ◌∷◌, [], ℕ, List, Option, Some, None, MatchOption, MatchResult, Result, Ok, Err, true, false, drop, length}
use Rattle.span.specs.declared.id.SpanId.{SpanId}
use Rattle.span.specs.declared.key.Key.{Key}
use Rattle.span.specs.Classes.{IsObject}
use Rattle.span.specs.Log.{Value}
use Rattle.span.specs.Order.{HasNoneBeyond, HasNoneFrom, IsFirstFrom, IsNextLive}
use Rattle.certificate.specs.declared.certificate.Certificate.{Certificate}
use Rattle.certificate.specs.Text.{IsWritable, certificate_text}
use Rattle.fold.specs.declared.step.Step.TheVariants.{Folded, Emptied}
use Rattle.arena_core.specs.declared.event.Event.{Event}
use Rattle.arena_core.specs.declared.event.Event.TheVariants.{Put, Set, Free, End, Begin, Retire, Trim, Adopt, Step, Close}
use Rattle.arena_core.specs.declared.reply.Reply.{Reply}
use Rattle.arena_core.specs.declared.reply.Reply.TheVariants.{Issued, Replaced, Freed, ShardEnded, ShardBegun, Retired, Trimmed, Adopted, Marked, Stepped, NoPairLeft, Closed, NoPlan, Refused}
use Rattle.arena_core.specs.declared.reply.Refusal.{Refusal}
use Rattle.arena_core.specs.declared.reply.Refusal.TheVariants.{Config, OutOfMemory, PlanOpen}
use Rattle.arena_core.specs.Estimate.{IsEstimate, group_count}
use Rattle.arena_core.specs.Forgets.{Forgets as ForgetsIn}
use Rattle.arena_core.specs.Gathers.{CannotGather, Gathers as GathersIn}
use Rattle.arena_core.specs.Plain.{ErasedStep}
use Rattle.arena_core.specs.Sound.{IsSound}
use Rattle.arena_core.specs.State.{CoreState, HasKeys, live_keys, new_core, pages, shown}
use Rattle.arena_core.specs.TrimsPart.{TrimsOrCannot}
use Rattle.marks.specs.Numbers.{Limits}
use Rattle.marks.specs.declared.totals.Totals.{Totals}
use Rattle.shard.specs.Spaced.{gap_of}
use Rattle.shard.specs.declared.shard.trimming.TrimPart.{TrimPart}
use Rattle.arena_core.specs.Step.{CoreStep, HasPlan}
use Rattle.compaction.specs.Progress.{fresh}
use Rattle.teurlaks_c.specs.declared.held.Held.{Held}
use Rattle.teurlaks_c.specs.declared.held.Witness.{Witness}
use Rattle.teurlaks_c.specs.declared.replies.RawKey.{RawKey}
use Rattle.teurlaks_c.specs.declared.replies.RawSpan.{RawSpan}
use Rattle.teurlaks_c.specs.declared.replies.RawWord.{RawWord}
use Rattle.teurlaks_c.specs.declared.replies.PutReply.{PutReply}
use Rattle.teurlaks_c.specs.declared.replies.GetReply.{GetReply}
use Rattle.teurlaks_c.specs.declared.replies.WordsReply.{WordsReply}
use Rattle.teurlaks_c.specs.declared.replies.NextReply.{NextReply}
use Rattle.teurlaks_c.specs.declared.replies.RetireReply.{RetireReply}
use Rattle.teurlaks_c.specs.declared.replies.TrimReply.{TrimReply}
use Rattle.teurlaks_c.specs.declared.replies.TrimPartReply.{TrimPartReply}
use Rattle.teurlaks_c.specs.declared.replies.ForgetReply.{ForgetReply}
use Rattle.teurlaks_c.specs.declared.replies.GatherReply.{GatherReply}
use Rattle.teurlaks_c.specs.declared.replies.AdoptReply.{AdoptReply}
use Rattle.teurlaks_c.specs.declared.replies.MarkReply.{MarkReply}
use Rattle.teurlaks_c.specs.declared.replies.StepReply.{StepReply}
use Rattle.teurlaks_c.specs.declared.replies.CertificateReply.{CertificateReply}
use Rattle.teurlaks_c.specs.declared.replies.TotalsReply.{TotalsReply}
use Rattle.teurlaks_c.specs.Keys.{IsKeyOf, IsNoKey, IsIdOf, IsNoId}
use Rattle.teurlaks_c.specs.Status.{done, none, out_of_memory, config, emptied, no_pair_left, no_plan, too_small, refusal_status}
use Rattle.teurlaks_c.specs.Words.{word_of, words_of}

-- a new core of these numbers, no certificate, and a compaction that has not begun
pub record HasNew (limits : Limits) (new : Option Held) : Type 0 where
  pub held : Held
  pub is : new ≡ Some held
  pub core : held.core ≡ new_core limits
  pub last : held.last ≡ None
  pub compaction : held.compaction ≡ fresh

-- from one core to the other it gives this reply to the event: a step of shards and pool, and of
-- the plain map that they show, to a sound core
pub record Replies (before : CoreState) (event : Event) (reply : Reply) (after : CoreState) :
    Type 0 where
  pub exact : CoreStep before event reply after
  pub plain : ErasedStep before.limits (shown before) event reply (shown after)
  pub sound : IsSound after

-- the core of the handle gives this reply to the event, and the certificate that is kept and the
-- compaction are as they were
pub record Steps (old : Option Held) (event : Event) (reply : Reply) (new : Option Held) :
    Type 0 where
  pub before : Held
  pub after : Held
  pub before_is : old ≡ Some before
  pub after_is : new ≡ Some after
  pub replies : Replies before.core event reply after.core
  pub same : after.last ≡ before.last
  pub compaction : after.compaction ≡ before.compaction

-- what C reads of the reply to a put; no other reply comes
abbrev pub SaysPut : PutReply → Reply → Type 0
SaysPut says (Issued key) = (says.status ≡ done) × IsKeyOf says.key key
SaysPut says (Refused refusal) = says.status ≡ refusal_status refusal
SaysPut says reply = ⊥

-- the object is put, or the put is refused
abbrev pub Puts : Option Held → ℕ → Value → PutReply → Option Held → Type 0
Puts old shard value says new = (reply : Reply) × Steps old (Put shard value) reply new
    × SaysPut says reply

-- words that are no object are refused, and nothing changes; others are put, or their put is
-- refused
abbrev pub PutsWords : Option Held → ℕ → List ℕ → PutReply → Option Held → Type 0
PutsWords old shard words says new = (IsObject words × Puts old shard words says new)
    ⊎ ((IsObject words → ⊥) × (says.status ≡ config) × (new ≡ old))

-- what C reads of a look-up of one word: a wider object is not told
abbrev pub SaysGot : GetReply → Option Value → Type 0
SaysGot says (Some value) =
    ((length value ≡ 1) × (says.status ≡ done) × (word_of says.value ∷ [] ≡ value))
    ⊎ ((1 < length value) × (says.status ≡ too_small) × (word_of says.value ≡ 0))
SaysGot says None = (says.status ≡ none) × (word_of says.value ≡ 0)

-- what C reads of a look-up, and what it leaves in the room: the object's words, where there is
-- room for them
abbrev pub SaysWords : List RawWord → WordsReply → List RawWord → Option Value → Type 0
SaysWords room says room_new (Some value) =
    (says.len ≡ length value)
    × (((length value ≤ length room) × (says.status ≡ done)
    × (words_of room_new ≡ value ++ drop (length value) (words_of room)))
    ⊎ ((length room < length value) × (says.status ≡ too_small) × (room_new ≡ room)))
SaysWords room says room_new None = (says.len ≡ 0) × (says.status ≡ none) × (room_new ≡ room)

-- this is told of the value of the key in the map that the core shows; nothing changes
pub record GetsKey (old : Option Held) (key : Key) (Tells : Option Value
    → Type 0) (new : Option Held) : Type 0 where
  pub held : Held
  pub is : old ≡ Some held
  pub same : new ≡ old
  pub told : Tells ((shown held.core).value_of key)

-- the word of the key with these numbers, if it is live; nothing changes
abbrev pub Gets : Option Held → RawKey → GetReply → Option Held → Type 0
Gets old raw says new = (IsNoKey raw × SaysGot says None × (new ≡ old))
    ⊎ ((key : Key) × IsKeyOf raw key × GetsKey old key (SaysGot says) new)

-- the words of the key with these numbers, if it is live; nothing changes but the room
abbrev pub GetsWords : Option Held → RawKey → List RawWord → WordsReply → List RawWord → Option Held
    → Type 0
GetsWords old raw room says room_new new = (IsNoKey raw × SaysWords room says room_new None
    × (new ≡ old))
    ⊎ ((key : Key) × IsKeyOf raw key × GetsKey old key (SaysWords room says room_new) new)

-- what C reads of whether a key has a value
abbrev pub SaysLive : ℕ → Option Value → Type 0
SaysLive says (Some value) = says ≡ done
SaysLive says None = says ≡ none

-- whether the key with these numbers is live; nothing changes
abbrev pub Contains : Option Held → RawKey → ℕ → Option Held → Type 0
Contains old raw says new = (IsNoKey raw × (says ≡ none) × (new ≡ old))
    ⊎ ((key : Key) × IsKeyOf raw key × GetsKey old key (SaysLive says) new)

-- what C reads of a step of a walk
abbrev pub SaysNext : NextReply → Option Key → Type 0
SaysNext says (Some key) = (says.status ≡ done) × IsKeyOf says.key key
SaysNext says None = says.status ≡ none

-- the live key that comes next in the map that the core shows; nothing changes
pub record NextsKey (old : Option Held) (after found : Option Key) (new : Option Held) :
    Type 0 where
  pub held : Held
  pub is : old ≡ Some held
  pub same : new ≡ old
  pub next : MatchOption found (HasNoneBeyond (shown held.core) after)
      (IsNextLive (shown held.core) after)

-- the live key that comes next after the key with these numbers, or the first one where no key has
-- them; nothing changes
abbrev pub Nexts : Option Held → RawKey → NextReply → Option Held → Type 0
Nexts old raw says new = (after found : Option Key) × MatchOption after (IsNoKey raw) (IsKeyOf raw)
    × NextsKey old after found new × SaysNext says found

-- the first live key of the span at a slot from this one on, in the map that the core shows;
-- nothing changes
pub record NextsKeyIn (old : Option Held) (id : SpanId) (from : ℕ) (found : Option Key)
    (new : Option Held) : Type 0 where
  pub held : Held
  pub is : old ≡ Some held
  pub same : new ≡ old
  pub first : MatchOption found (HasNoneFrom (shown held.core) id from)
      (IsFirstFrom (shown held.core) id from)

-- the same of the span with these numbers; or no span has them
abbrev pub NextsInSpan : Option Held → RawSpan → ℕ → NextReply → Option Held → Type 0
NextsInSpan old raw from says new = (IsNoId raw × (new ≡ old) × (says.status ≡ none))
    ⊎ ((id : SpanId) × (found : Option Key) × IsIdOf raw id × NextsKeyIn old id from found new
    × SaysNext says found)

-- what C reads of the reply to a set; no other reply comes
abbrev pub SaysSet : ℕ → Reply → Type 0
SaysSet says (Replaced true) = says ≡ done
SaysSet says (Replaced false) = says ≡ none
SaysSet says (Refused refusal) = says ≡ refusal_status refusal
SaysSet says reply = ⊥

-- the core is asked to set the key to the object, and this is said of its reply
abbrev pub SetsKey : Option Held → Key → Value → ℕ → Option Held → Type 0
SetsKey old key value says new = (reply : Reply) × Steps old (Set key value) reply new
    × SaysSet says reply

-- the key with these numbers is set to the object, if it is live and its object has as many words,
-- or the set is refused; else nothing changes
abbrev pub Sets : Option Held → RawKey → Value → ℕ → Option Held → Type 0
Sets old raw value says new = (IsNoKey raw × (says ≡ none) × (new ≡ old))
    ⊎ ((key : Key) × IsKeyOf raw key × SetsKey old key value says new)

-- words that are no object are refused, and nothing changes; to others the key is set
abbrev pub SetsWords : Option Held → RawKey → List ℕ → ℕ → Option Held → Type 0
SetsWords old raw words says new = (IsObject words × Sets old raw words says new)
    ⊎ ((IsObject words → ⊥) × (says ≡ config) × (new ≡ old))

-- the core is asked to free the key, and this is said of its reply
abbrev pub FreesKey : Option Held → Key → ℕ → Option Held → Type 0
FreesKey old key says new = (Steps old (Free key) (Freed true) new × (says ≡ done))
    ⊎ (Steps old (Free key) (Freed false) new × (says ≡ none))

-- the key with these numbers is freed, if it is live; else nothing changes
abbrev pub Frees : Option Held → RawKey → ℕ → Option Held → Type 0
Frees old raw says new = (IsNoKey raw × (says ≡ none) × (new ≡ old))
    ⊎ ((key : Key) × IsKeyOf raw key × FreesKey old key says new)

-- what C reads of the reply to an end
abbrev pub SaysEnd : ℕ → Reply → Type 0
SaysEnd says ShardEnded = says ≡ done
SaysEnd says (Refused refusal) = says ≡ refusal_status refusal
-- no other reply comes
SaysEnd says reply = ⊥

-- the shard ends, or is refused its end
abbrev pub Ends : Option Held → ℕ → ℕ → Option Held → Type 0
Ends old shard says new = (reply : Reply) × Steps old (End shard) reply new × SaysEnd says reply

-- what C reads of the reply to a begin
abbrev pub SaysBegun : ℕ → Reply → Type 0
SaysBegun says ShardBegun = says ≡ done
SaysBegun says (Refused refusal) = says ≡ refusal_status refusal
-- no other reply comes
SaysBegun says reply = ⊥

-- the shard runs again, or is refused its begin
abbrev pub Begins : Option Held → ℕ → ℕ → Option Held → Type 0
Begins old shard says new = (reply : Reply) × Steps old (Begin shard) reply new
    × SaysBegun says reply

-- what C reads of the reply to a retirement
abbrev pub SaysRetired : RetireReply → Reply → Type 0
SaysRetired says (Retired count) = (says.status ≡ done) × (says.count ≡ count)
SaysRetired says (Refused refusal) = (says.status ≡ refusal_status refusal) × (says.count ≡ 0)
-- no other reply comes
SaysRetired says reply = ⊥

-- groups of the shard go to the pool, or the retirement is refused
abbrev pub Retires : Option Held → ℕ → ℕ → RetireReply → Option Held → Type 0
Retires old shard most says new = (reply : Reply) × Steps old (Retire shard most) reply new
    × SaysRetired says reply

-- what C reads of the reply to a trim
abbrev pub SaysTrimmed : TrimReply → Reply → Type 0
SaysTrimmed says (Trimmed count) = (says.status ≡ done) × (says.count ≡ count)
SaysTrimmed says (Refused refusal) = (says.status ≡ refusal_status refusal) × (says.count ≡ 0)
-- no other reply comes
SaysTrimmed says reply = ⊥

-- the shard gives pages back, or there is no such shard
abbrev pub Trims : Option Held → ℕ → TrimReply → Option Held → Type 0
Trims old shard says new = (reply : Reply) × Steps old (Trim shard) reply new
    × SaysTrimmed says reply

-- what C reads of the answer to a trim of some groups
abbrev pub SaysPart : TrimPartReply → Result TrimPart Refusal → Type 0
SaysPart says (Ok part) = (says.status ≡ done) × (says.groups ≡ part.groups)
    × (says.pages ≡ part.pages)
SaysPart says (Err refusal) = (says.status ≡ refusal_status refusal) × (says.groups ≡ 0)
    × (says.pages ≡ 0)

-- up to so many groups of the shard are trimmed, from this one on, or there is no such shard; the
-- map that the core shows stays, and so do the certificate that is kept and the compaction
pub record TrimsPart (old : Option Held) (shard from most : ℕ) (says : TrimPartReply)
    (new : Option Held) : Type 0 where
  pub before : Held
  pub after : Held
  pub answer : Result TrimPart Refusal
  pub before_is : old ≡ Some before
  pub after_is : new ≡ Some after
  pub exact : TrimsOrCannot shard from most before.core answer after.core
  pub plain : shown after.core ≡ shown before.core
  pub sound : IsSound after.core
  pub same : after.last ≡ before.last
  pub compaction : after.compaction ≡ before.compaction
  pub says_is : SaysPart says answer

-- what C reads of the answer to a forgetting
abbrev pub SaysForgotten : ForgetReply → Result ℕ Refusal → Type 0
SaysForgotten says (Ok count) = (says.status ≡ done) × (says.count ≡ count)
SaysForgotten says (Err refusal) = (says.status ≡ refusal_status refusal) × (says.count ≡ 0)

-- the core of the handle forgets the spans that can never be live again, or is refused that while a
-- plan is open; the map that it shows stays, and so do the certificate that is kept and the
-- compaction
pub record Forgets (old : Option Held) (says : ForgetReply) (new : Option Held) : Type 0 where
  pub before : Held
  pub after : Held
  pub answer : Result ℕ Refusal
  pub before_is : old ≡ Some before
  pub after_is : new ≡ Some after
  pub exact : MatchResult answer (λ count. ForgetsIn before.core count after.core)
      (λ refusal. (refusal ≡ PlanOpen) × HasPlan before.core × (after.core ≡ before.core))
  pub plain : shown after.core ≡ shown before.core
  pub sound : IsSound after.core
  pub same : after.last ≡ before.last
  pub compaction : after.compaction ≡ before.compaction
  pub says_is : SaysForgotten says answer

-- what C reads of the answer to a gathering
abbrev pub SaysGathered : GatherReply → Result ℕ Refusal → Type 0
SaysGathered says (Ok count) = (says.status ≡ done) × (says.count ≡ count)
SaysGathered says (Err refusal) = (says.status ≡ refusal_status refusal) × (says.count ≡ 0)

-- the pages of the shard's groups from this one on, up to so many, have moved, or some of them, or
-- none; nothing else has changed
pub record Gathers (old : Option Held) (shard from most : ℕ) (says : GatherReply)
    (new : Option Held) : Type 0 where
  pub before : Held
  pub answer : Result ℕ Refusal
  pub before_is : old ≡ Some before
  pub same : new ≡ old
  pub exact : MatchResult answer (GathersIn before.core.shards shard from most)
      (CannotGather before.core.limits.shards shard)
  pub says_is : SaysGathered says answer

-- what C reads of the reply to an adoption
abbrev pub SaysAdopted : AdoptReply → Reply → Type 0
SaysAdopted says (Adopted head) = (says.status ≡ done) × IsIdOf says.head head
SaysAdopted says (Refused refusal) = says.status ≡ refusal_status refusal
-- no other reply comes
SaysAdopted says reply = ⊥

-- a group is adopted, or the adoption is refused
abbrev pub Adopts : Option Held → ℕ → AdoptReply → Option Held → Type 0
Adopts old shard says new = (reply : Reply) × Steps old (Adopt shard) reply new
    × SaysAdopted says reply

-- the numbers of a certificate: groups of both sides, folds, and members of the short set
pub record CountsOf (says : MarkReply) (certificate : Certificate) : Type 0 where
  pub status : says.status ≡ done
  pub abandoned : says.abandoned ≡ length certificate.snapshot.abandoned
  pub owned : says.owned ≡ length certificate.snapshot.owned
  pub folds : says.folds ≡ length certificate.plan
  pub short_set : says.short_set ≡ length certificate.short

-- what C reads of the reply to a mark
abbrev pub SaysMarked : MarkReply → Reply → Type 0
SaysMarked says (Marked certificate) = CountsOf says certificate
SaysMarked says (Refused refusal) = says.status ≡ refusal_status refusal
-- no other reply comes
SaysMarked says reply = ⊥

-- the certificate that is kept, if there is one
abbrev pub kept : Option Witness → Option Certificate
kept None = None
kept (Some witness) = Some witness.certificate

-- after the reply to a mark its certificate is kept, or, where it has none, the one before
abbrev pub Keeps : Option Witness → Reply → Option Witness → Type 0
Keeps old (Marked certificate) new = kept new ≡ Some certificate
Keeps old reply new = new ≡ old

-- what a mark may reply: a certificate within the grammar of texts, or a refusal
abbrev pub IsOfMark : Reply → Type 0
IsOfMark (Marked certificate) = IsWritable certificate
IsOfMark (Refused refusal) = Unit {0}
IsOfMark reply = ⊥

-- by a mark, of all groups or of the sparsest, a largest plan is opened and its certificate kept,
-- or the mark is refused
pub record Marks (event : Event) (old : Option Held) (says : MarkReply) (new : Option Held) :
    Type 0 where
  pub before : Held
  pub after : Held
  pub reply : Reply
  pub before_is : old ≡ Some before
  pub after_is : new ≡ Some after
  pub replies : Replies before.core event reply after.core
  pub told : SaysMarked says reply
  pub keeps : Keeps before.last reply after.last
  pub compaction : after.compaction ≡ before.compaction

-- what C reads of the reply to a step
abbrev pub SaysStepped : StepReply → Reply → Type 0
SaysStepped says (Stepped abandoned owned Folded) = (says.status ≡ done)
    × IsIdOf says.abandoned abandoned × IsIdOf says.owned owned
SaysStepped says (Stepped abandoned owned Emptied) = (says.status ≡ emptied)
    × IsIdOf says.abandoned abandoned × IsIdOf says.owned owned
SaysStepped says NoPairLeft = says.status ≡ no_pair_left
SaysStepped says NoPlan = says.status ≡ no_plan
SaysStepped says (Refused refusal) = says.status ≡ refusal_status refusal
-- no other reply comes
SaysStepped says reply = ⊥

-- the next pair is carried out, or there is none, or memory is refused
abbrev pub TakesStep : Option Held → StepReply → Option Held → Type 0
TakesStep old says new = (reply : Reply) × Steps old Step reply new × SaysStepped says reply

-- what C reads of the reply to a close
abbrev pub SaysClosed : ℕ → Reply → Type 0
SaysClosed says Closed = says ≡ done
SaysClosed says NoPlan = says ≡ no_plan
-- no other reply comes
SaysClosed says reply = ⊥

-- the plan is closed, or there is none
abbrev pub Closes : Option Held → ℕ → Option Held → Type 0
Closes old says new = (reply : Reply) × Steps old Close reply new × SaysClosed says reply

-- the text of this certificate stands at the room's beginning and the rest of the room is as it
-- was; or there is no certificate, no room, or no memory, and all of it is
abbrev pub Tells : Option Witness → List ℕ → CertificateReply → List ℕ → Type 0
Tells None old says new = (says.status ≡ none) × (new ≡ old)
Tells (Some witness) old says new =
    ((says.status ≡ done) × (says.len ≡ length (certificate_text witness.certificate))
    × (new ≡ certificate_text witness.certificate ++ drop says.len old))
    ⊎ (((says.status ≡ too_small) × (says.len ≡ length (certificate_text witness.certificate))
    × (length old < says.len) × (new ≡ old))
    ⊎ ((says.status ≡ out_of_memory) × (new ≡ old)))

-- the text of the certificate that is kept is written into the room
pub record Writes (old : Option Held) (room : List ℕ) (says : CertificateReply) (room_new : List ℕ)
    : Type 0 where
  pub held : Held
  pub is : old ≡ Some held
  pub tells : Tells held.last room says room_new

-- the pages and the live keys of the core, which stays as it is
pub record Counts (old : Option Held) (says : TotalsReply) (new : Option Held) : Type 0 where
  pub held : Held
  pub is : old ≡ Some held
  pub same : new ≡ old
  pub pages : says.pages ≡ pages held.core
  pub live : HasKeys (shown held.core) says.live

-- what C reads of totals
abbrev pub says_totals : TotalsReply → Totals
says_totals says = record { pages = says.pages; live = says.live }

-- about the pages and the live keys of the core, which stays as it is: exactly these if there are
-- few groups
pub record Estimates (old : Option Held) (says : TotalsReply) (new : Option Held) : Type 0 where
  pub held : Held
  pub is : old ≡ Some held
  pub same : new ≡ old
  pub few_pages : group_count held.core ≤ 4096 → says.pages ≡ pages held.core
  pub few_live : group_count held.core ≤ 4096 → says.live ≡ live_keys held.core
  pub many : 4096 < group_count held.core
      → IsEstimate (gap_of (group_count held.core)) held.core (says_totals says)
