-- What a thread was told follows its lines, line after line.
use Rattle.thread_runner.proofs.Names.{counted_from, kept_receipts, slice_index_or, add-zero, ◌≡◌, ◌∙◌, ◌+◌, ◌-◌, ◌++◌, ◌≤◌, ℕ, Bool, true, false, List, [], ◌∷◌, Some, ap, append-nil, length, refl, slice_get, subst, sym, take, filter, flat_map, range_with_len, sum_by, IsPermutation, option_map_or, flat_map-append, length-map, take_all, filter-append, length-range_with_len, IsPermutation-append_left, IsPermutation-refl, IsPermutation-trans, sum_by_push, joined, SeatState, Table, Key, is_adopt, keys_in, marks, Call, Line, AreAnswers, Frees, GivenKeys, Outcome, Puts, Said, asked_at, asked_by, is_adoption, is_line_of, places_of, replies_at, replies_by, replies_on, AnswersLine, ArePassages, AtBarrier, AtLine, Carried, FollowsLines, IsPassage, Passage, barriers_after, carried_by, entries_in, entries_on, is_of_shard, places_in, receipts_from, receipts_in, sent_by, sent_in, taken_by, taken_in, Carries, Grows, HaveNothing, IsDiaryOf, IsEmptyDiary, Rests, TellsTending, Tells, TellsAdoption, Tracks, voice_of, Diary, take_more, AreResting, IsResting, Resting, rules}
use Rattle.std.proofs.Math.Logic.{∥∥₁_map}
use Rattle.trace_text.specs.Places.{first_of}
use Rattle.trace_text.specs.declared.line.Call.TheVariants.{Fill, Sweep}
use Rattle.trace_text.specs.declared.line.Line.TheVariants as line
use Rattle.thread_runner.specs.declared.diary.Entry.TheVariants as entry
use Rattle.trace_runner.specs.declared.report.Other.{Other}
use Rattle.thread_runner.proofs.Carrying.{Carries-none}
use Rattle.thread_runner.proofs.Each.{each-weaker}

-- a thread that was told nothing
pub FollowsLines-none : (lines : List Line) (given : GivenKeys) (thread : ℕ) (shown : Bool) (diary : Diary) (its : Carried) → IsEmptyDiary shown diary
    → HaveNothing its → FollowsLines lines given thread [] 0 shown (voice_of diary) its
FollowsLines-none lines given thread shown diary its empty nothing = record {
  passages = [];
  in_order = refl;
  each = refl;
  receipts_are = empty.receipts_are;
  entries_are = λ is. empty.entries_are;
  sends = nothing.none_sent;
  takes = subst (λ (ks : List Key). IsPermutation ks []) (sym nothing.none_taken) (IsPermutation-refl []);
}

-- one passage more leads on from where the others led
ArePassages-push : (lines : List Line) (given : GivenKeys) (thread from to : ℕ) (passages : List Passage) (passage : Passage)
    → ArePassages lines given thread from to passages → IsPassage lines given thread to passage
    → ArePassages lines given thread from (barriers_after to passage) (passages ++ passage ∷ [])
ArePassages-push lines given thread from to [] passage are is = (subst (λ n. IsPassage lines given thread n passage) (sym are) is, ap (λ n. barriers_after n passage) are)
ArePassages-push lines given thread from to (first ∷ passages) passage are is = (are.0, ArePassages-push lines given thread (barriers_after from first) to passages passage are.1 is)

-- what came of a line that is no adoption
AnswersLine-call : (lines : List Line) (given : GivenKeys) (thread section place : ℕ) (l : Line) (outcomes : List Outcome) → slice_get lines place ≡ Some l
    → is_line_of thread l ≡ true → is_adopt l ≡ false
    → section ≡ marks (take place lines) → AreAnswers given section thread (asked_at (take place lines) l) outcomes → AnswersLine lines given thread section place outcomes
AnswersLine-call lines given thread section place (line.Call caller call) outcomes here own is its answered = record {
  line = line.Call caller call;
  here = here;
  of_thread = own;
  after_barriers = its;
  answered = subst (λ n. AreAnswers given n thread (asked_by (take place lines) call) outcomes) its answered;
}
AnswersLine-call lines given thread section place l outcomes here own is its answered = absurd cc

-- what came of an adoption
AnswersLine-adopt : (lines : List Line) (given : GivenKeys) (thread section place : ℕ) (l : Line) (what : Other) → slice_get lines place ≡ Some l → is_line_of thread l ≡ true → is_adopt l ≡ true
    → section ≡ marks (take place lines) → is_adoption what ≡ true → AnswersLine lines given thread (section + 1) place (Said what ∷ [])
AnswersLine-adopt lines given thread section place (line.Adopt shard) what here own is its answered = record {
  line = line.Adopt shard;
  here = here;
  of_thread = own;
  after_barriers = ap (λ n. n + 1) its;
  answered = (answered, tt);
}
AnswersLine-adopt lines given thread section place l what here own is its answered = absurd cc

-- one passage more
module _ (lines : List Line) (given : GivenKeys) (thread : ℕ) (places : List ℕ) (barriers : ℕ) (shown : Bool) (old new : Diary) (was now_is : Carried)
    (before : FollowsLines lines given thread places barriers shown (voice_of old) was)
    (keeps : old.replies ≡ shown) where
  FollowsLines-passage : (passage : Passage) (replies : ℕ) → IsPassage lines given thread barriers passage
      → Grows (entries_in passage) (receipts_in passage) replies old new → Carries (sent_in passage) (taken_in passage) was now_is
      → FollowsLines lines given thread (places ++ places_in passage) (barriers_after barriers passage) shown (voice_of new) now_is
  FollowsLines-passage passage replies is grows carries = record {
    passages = before.passages ++ passage ∷ [];
    in_order = flat_map-append places_in before.passages (passage ∷ []) ∙ ap (λ ps. ps ++ flat_map places_in (passage ∷ [])) before.in_order ∙ ap (λ ps. places ++ ps) (append-nil (places_in passage));
    each = ArePassages-push lines given thread 0 barriers before.passages passage before.each is;
    receipts_are = grows.receipts_are ∙ ap (λ rs. rs ++ receipts_in passage) before.receipts_are ∙ ap (λ rs. flat_map receipts_in before.passages ++ rs) (sym (append-nil (receipts_in passage)))
        ∙ sym (flat_map-append receipts_in before.passages (passage ∷ []));
    entries_are = λ is_shown. grows.entries_are (keeps ∙ is_shown) ∙ ap (λ es. es ++ entries_in passage) (before.entries_are is_shown)
        ∙ ap (λ es. flat_map entries_in before.passages ++ es) (sym (append-nil (entries_in passage)))
        ∙ sym (flat_map-append entries_in before.passages (passage ∷ []));
    sends = λ shard. carries.sends shard ∙ ap (λ (ks : List Key). ks ++ filter (is_of_shard shard) (sent_in passage)) (before.sends shard)
        ∙ sym (filter-append (is_of_shard shard) (flat_map sent_in before.passages) (sent_in passage))
        ∙ ap (filter (is_of_shard shard))
        (ap (λ (ks : List Key). flat_map sent_in before.passages ++ ks) (sym (append-nil (sent_in passage)))
        ∙ sym (flat_map-append sent_in before.passages (passage ∷ [])));
    takes =
        let all = ap (λ (ks : List Key). flat_map taken_in before.passages ++ ks) (sym (append-nil (taken_in passage))) ∙ sym (flat_map-append taken_in before.passages (passage ∷ [])) in
        subst (λ (ks : List Key). IsPermutation (joined now_is.taken) ks) all
        (IsPermutation-trans _ _ _ carries.takes
        (IsPermutation-append_left (taken_in passage) (joined was.taken) (flat_map taken_in before.passages) before.takes));
  }

  -- a line of the thread
  pub FollowsLines-line : (place : ℕ) (outcomes : List Outcome) (replies : ℕ) → AnswersLine lines given thread barriers place outcomes
      → Grows (flat_map (entries_on (place + 6)) outcomes) (flat_map receipts_from outcomes) replies old new → Carries (flat_map sent_by outcomes) (flat_map taken_by outcomes) was now_is
      → FollowsLines lines given thread (places ++ place ∷ []) barriers shown (voice_of new) now_is
  FollowsLines-line place outcomes replies answers grows carries = FollowsLines-passage (AtLine place outcomes) replies answers grows carries

  -- the barrier
  pub FollowsLines-barrier : (count : ℕ) → TellsTending barriers thread count old new was now_is → FollowsLines lines given thread places (barriers + 1) shown (voice_of new) now_is
  FollowsLines-barrier count takes =
      subst (λ ps. FollowsLines lines given thread ps (barriers + 1) shown (voice_of new) now_is) (append-nil places)
      (FollowsLines-passage (AtBarrier takes.receipts) 0 takes.are_frees (subst (λ n. Grows (entry.Incoming n ∷ []) takes.receipts 0 old new) takes.count_is takes.grows) takes.carries)

  -- nothing was told
  pub FollowsLines-kept : Grows [] [] 0 old new → now_is ≡ was → FollowsLines lines given thread places barriers shown (voice_of new) now_is
  FollowsLines-kept grows same = record {
    passages = before.passages;
    in_order = before.in_order;
    each = before.each;
    receipts_are = grows.receipts_are ∙ append-nil (kept_receipts old.receipts) ∙ before.receipts_are;
    entries_are = λ is_shown. grows.entries_are (keeps ∙ is_shown) ∙ append-nil old.entries.items ∙ before.entries_are is_shown;
    sends = λ shard. ap (λ (c : Carried). slice_index_or c.sent shard []) same ∙ before.sends shard;
    takes = subst (λ (c : Carried). IsPermutation (joined c.taken) (flat_map taken_in before.passages)) (sym same) before.takes;
  }

-- the next place is one more
pub take-place : (places : List ℕ) (done place : ℕ) → slice_get places done ≡ Some place → take (done + 1) places ≡ take done places ++ place ∷ []
take-place places done place next = take_more places done place next

-- as many things are asked for as there are replies
length-asked_by : (above : List Line) (call : Call) → length (asked_by above call) ≡ replies_by call
length-asked_by above (Fill name class count value) = length-map (range_with_len 0 count) (λ i. Puts (keys_in above + i) (counted_from class (value + i))) ∙ length-range_with_len 0 count
length-asked_by above (Sweep name from to) = length-map (range_with_len from (to - from)) (λ i. Frees (first_of above name + i)) ∙ length-range_with_len from (to - from)
length-asked_by above call = refl

length-asked_at : (above : List Line) (l : Line) → is_adopt l ≡ false → length (asked_at above l) ≡ replies_at l
length-asked_at above l is = search (rules, length-asked_by)

-- an adoption has no reply that is counted
replies_at-adopt : (l : Line) → is_adopt l ≡ true → replies_at l ≡ 0
replies_at-adopt l is = search rules

-- the replies of a line are counted
sum-place : (lines : List Line) (place : ℕ) (places : List ℕ) (l : Line) → slice_get lines place ≡ Some l
    → sum_by (replies_on lines) (places ++ place ∷ []) ≡ sum_by (replies_on lines) places + replies_at l
sum-place lines place places l here = sum_by_push (replies_on lines) places place ∙ ap (λ o. sum_by (replies_on lines) places + option_map_or replies_at o 0) here

-- the same number of the thread
Tracks-same : (lines : List Line) (shown : Bool) (knows : GivenKeys → Type 0) (old new done barriers : ℕ) (diary : Diary) (its : Carried) → new ≡ old
    → Tracks lines shown knows old done barriers diary its → Tracks lines shown knows new done barriers diary its
Tracks-same lines shown knows old new done barriers diary its same tracks = subst (λ t. Tracks lines shown knows t done barriers diary its) (sym same) tracks

-- no less is known of the keys
pub Tracks-known : (lines : List Line) (shown : Bool) (knew knows : GivenKeys → Type 0) (thread done barriers : ℕ) (diary : Diary) (its : Carried) → ((given : GivenKeys) → knows given → knew given)
    → Tracks lines shown knew thread done barriers diary its → Tracks lines shown knows thread done barriers diary its
Tracks-known lines shown knew knows thread done barriers diary its known tracks = record {
  shown_is = tracks.shown_is;
  follows = λ given is. tracks.follows given (known given is);
  counted = tracks.counted;
}

-- a thread that has run no line
pub Tracks-none : (lines : List Line) (shown : Bool) (knows : GivenKeys → Type 0) (thread : ℕ) (diary : Diary) (its : Carried) → IsEmptyDiary shown diary
    → HaveNothing its → Tracks lines shown knows thread 0 0 diary its
Tracks-none lines shown knows thread diary its empty nothing = record {
  shown_is = empty.shown_is;
  follows = λ given is. ∣ FollowsLines-none lines given thread shown diary its empty nothing ∣₁;
  counted = empty.calls_is;
}

-- one that has run one line more, which is its next
pub Tracks-line : (lines : List Line) (shown : Bool) (knew knows : GivenKeys
    → Type 0) (section thread same done place : ℕ) (l : Line) (old new : Diary) (before after : Carried) → same ≡ thread → section ≡ marks (take place lines)
    → slice_get (places_of thread lines) done ≡ Some place → slice_get lines place ≡ Some l → is_line_of thread l ≡ true → is_adopt l ≡ false
    → Tells section thread (place + 6) (asked_at (take place lines) l) knew knows old new before after → Tracks lines shown knew thread done section old before
    → Tracks lines shown knows same (done + 1) section new after
Tracks-line lines shown knew knows section thread same done place l old new before after is its next here own call tells tracks = Tracks-same lines shown knows
    thread same (done + 1) section new after is (record {
      shown_is = tells.grows.shown_is ∙ tracks.shown_is;
      follows = λ given known. rw (take-place (places_of thread lines) done place next)
          (∥∥₁_map (tracks.follows given (tells.known given known))
          (λ follows. FollowsLines-line lines given thread _ section shown old new before after follows tracks.shown_is
          place tells.outcomes _ (AnswersLine-call lines given thread section place l tells.outcomes here own call its (tells.answered given known)) tells.grows tells.carries));
      counted = rw (take-place (places_of thread lines) done place next, sum-place lines place (take done (places_of thread lines)) l here)
          (tells.grows.calls_is ∙ ap (λ n. old.calls + n) (length-asked_at (take place lines) l call) ∙ ap (λ n. n + replies_at l) tracks.counted);
    })

-- one whose shard was to adopt, as its next line asks, at the barrier that ends a section
pub Tracks-adoption : (lines : List Line) (shown : Bool) (knows : GivenKeys
    → Type 0) (section thread same done place : ℕ) (l : Line) (old new : Diary) (before after : Carried) → same ≡ thread → after ≡ before
    → section ≡ marks (take place lines)
    → slice_get (places_of thread lines) done ≡ Some place → slice_get lines place ≡ Some l → is_line_of thread l ≡ true → is_adopt l ≡ true → TellsAdoption (place + 6) old new
    → Tracks lines shown knows thread done (section + 1) old before → Tracks lines shown knows same (done + 1) (section + 1) new after
Tracks-adoption lines shown knows section thread same done place l old new before after is carried its next here own adopts tells tracks = Tracks-same lines
    shown knows thread same (done + 1) (section + 1) new after is (record {
      shown_is = tells.grows.shown_is ∙ tracks.shown_is;
      follows = λ given known. rw (take-place (places_of thread lines) done place next)
          (∥∥₁_map (tracks.follows given known) (λ follows. FollowsLines-line lines given thread _ (section + 1) shown old new before after follows tracks.shown_is
          place (Said tells.what ∷ []) 0 (AnswersLine-adopt lines given thread section place l tells.what here own adopts its tells.adoption) tells.grows (Carries-none before after carried)));
      counted = rw (take-place (places_of thread lines) done place next, sum-place lines place (take done (places_of thread lines)) l here)
          (tells.grows.calls_is ∙ ap (λ n. old.calls + n) (sym (replies_at-adopt l adopts)) ∙ ap (λ n. n + replies_at l) tracks.counted);
    })

-- one at the barrier that ends a section
pub Tracks-barrier : (lines : List Line) (shown : Bool) (knows : GivenKeys
    → Type 0) (section thread same done count : ℕ) (old new : Diary) (before after : Carried) → same ≡ thread
    → TellsTending section thread count old new before after
    → Tracks lines shown knows thread done section old before → Tracks lines shown knows same done (section + 1) new after
Tracks-barrier lines shown knows section thread same done count old new before after is takes tracks = Tracks-same lines shown knows thread same done (section + 1) new after is (record {
  shown_is = takes.grows.shown_is ∙ tracks.shown_is;
  follows = λ given known. ∥∥₁_map (tracks.follows given known) (λ follows. FollowsLines-barrier lines given thread _ section shown old new before after follows tracks.shown_is count takes);
  counted = takes.grows.calls_is ∙ add-zero old.calls ∙ tracks.counted;
})

-- one that was told nothing
pub Tracks-kept : (lines : List Line) (shown : Bool) (knows : GivenKeys → Type 0) (thread same done barriers : ℕ) (old new : Diary) (before after : Carried)
    → same ≡ thread → Grows [] [] 0 old new → after ≡ before
    → Tracks lines shown knows thread done barriers old before → Tracks lines shown knows same done barriers new after
Tracks-kept lines shown knows thread same done barriers old new before after is grows carried tracks = Tracks-same lines shown knows thread same done barriers new after is (record {
  shown_is = grows.shown_is ∙ tracks.shown_is;
  follows = λ given known. ∥∥₁_map (tracks.follows given known) (λ follows. FollowsLines-kept lines given thread _ barriers shown old new before after follows tracks.shown_is grows carried);
  counted = grows.calls_is ∙ add-zero old.calls ∙ tracks.counted;
})

-- between two sections no less is known of the keys
Rests-known : (lines : List Line) (shown : Bool) (table : Table) (knew knows : GivenKeys
    → Type 0) (section : ℕ) (seat : SeatState) (done : ℕ) (diary : Diary) → ((given : GivenKeys) → knows given → knew given)
    → Rests lines shown table knew section seat done diary → Rests lines shown table knows section seat done diary
Rests-known lines shown table knew knows section seat done diary known rests = record {
  rows_are = rests.rows_are;
  columns_are = rests.columns_are;
  section_is = rests.section_is;
  tracks = Tracks-known lines shown knew knows seat.worker done section diary (carried_by seat) known rests.tracks;
}

pub AreResting-known : {G : Type 0} (lines : List Line) (shown : Bool) (table : Table) (knew knows : GivenKeys → Type 0) (section : ℕ) (threads : List (Resting G))
    → ((given : GivenKeys) → knows given → knew given) → AreResting lines shown table knew section threads → AreResting lines shown table knows section threads
AreResting-known lines shown table knew knows section threads known = each-weaker (IsResting lines shown table knew section) (IsResting lines shown table knows section) threads
    (λ one. Rests-known lines shown table knew knows section one.caller.seat one.done one.caller.diary known)

-- one that has run all its lines and come to all barriers
pub IsDiaryOf-tracked : (lines : List Line) (shown : Bool) (knows : GivenKeys
    → Type 0) (given : GivenKeys) (thread done section : ℕ) (diary : Diary) (carried : Carried) → length (places_of thread lines) ≤ done
    → section ≡ marks lines + 1
    → knows given → Tracks lines shown knows thread done section diary carried → IsDiaryOf lines shown given thread diary carried
IsDiaryOf-tracked lines shown knows given thread done section diary carried all last known tracks =
    let whole = take_all done (places_of thread lines) all in
    record {
      follows = rw (whole, last) at (tracks.follows given known);
      counted = rw whole at tracks.counted;
    }
