-- What is done after some of many calls, and what the next one adds.
use Rattle.std.proofs.Common.{◌≡◌, ◌⊎◌, inl, inr, ℕ, zero, suc, ◌+◌, ◌<◌, ◌≤◌, ◌++◌, ◌∷◌, [], true, false, List, Some, append-nil, ap, arith, drop, length, refl, set, slice_get, subst, sym, take, ◌∙◌}
use Rattle.std.proofs.Math.ListN.{length-set}
use Rattle.std.specs.Prelude.{option_map}
use Rattle.std.specs.Prelude.{min}
use Rattle.std.proofs.Math.Nat.{min-eq_left, min-eq_right, min-le_left, min-le_right}
use Rattle.std.proofs.lemmas.Bool.{cases_lt}
use Rattle.std.proofs.lemmas.List.{length-map, take-append-drop, take_all}
use Rattle.std.proofs.lemmas.Option.{slice_get-map, slice_get_past, slice_get_within}
use Rattle.span.specs.declared.key.Key.{Key}
use Rattle.span.specs.Log.{Value}
use Rattle.arena_core.specs.declared.event.Event.TheVariants.{Put}
use Rattle.arena_core.specs.declared.reply.Reply.TheVariants.{Issued, Refused}
use Rattle.arena_core.specs.declared.reply.Refusal.{Refusal}
use Rattle.arena_core.specs.State.{CoreState}
use Rattle.teurlaks_c.specs.declared.replies.GetReply.{GetReply}
use Rattle.teurlaks_c.specs.declared.replies.RawKey.{RawKey}
use Rattle.teurlaks_c.specs.declared.replies.RawWord.{RawWord}
use Rattle.teurlaks_c.specs.Calls.{Replies}
use Rattle.teurlaks_c.specs.Keys.{IsKeyOf}
use Rattle.teurlaks_c.specs.Many.{FreesAll, FreesRaw, GetsAll, GetsRaw, PutsAll, PutsMany, StopsAt, objects_of}
use Rattle.teurlaks_c.specs.Status.{done, refusal_status}
use Rattle.teurlaks_c.specs.Words.{word_of}
use Rattle.groups.proofs.Lists.{same_some}
use Rattle.marks.proofs.Lists.{slice_get-set_other}

-- lists

take-suc : {T : Type 0} (xs : List T) (i : ℕ) (x : T) (ys : List T) → slice_get xs i ≡ Some x → take (suc i) xs ++ ys ≡ take i xs ++ x ∷ ys
take-suc [] i x ys here = absurd cc
take-suc (z ∷ zs) zero x ys here = ap (λ first. first ∷ ys) (same_some here)
take-suc (z ∷ zs) (suc i) x ys here = ap (λ rest. z ∷ rest) (take-suc zs i x ys here)

take-next : {T : Type 0} (xs : List T) (i : ℕ) (x : T) (ys : List T) → slice_get xs i ≡ Some x → take (i + 1) xs ++ ys ≡ take i xs ++ x ∷ ys
take-next xs i x ys here = let next : i + 1 ≡ suc i = omega arith in ap (λ n. take n xs ++ ys) next ∙ take-suc xs i x ys here

slice_get-set_here : {T : Type 0} (xs : List T) (i : ℕ) (x : T) → i < length xs → slice_get (set xs i x) i ≡ Some x
slice_get-set_here [] i x within = absurd (omega arith)
slice_get-set_here (y ∷ xs) zero x within = refl
slice_get-set_here (y ∷ xs) (suc i) x within = slice_get-set_here xs i x (omega arith)

take-set_here : {T : Type 0} (xs : List T) (i : ℕ) (x : T) → take i (set xs i x) ≡ take i xs
take-set_here xs zero x = refl
take-set_here [] (suc i) x = refl
take-set_here (y ∷ xs) (suc i) x = ap (λ rest. y ∷ rest) (take-set_here xs i x)

drop-suc : {T : Type 0} (xs ys : List T) (i : ℕ) → drop i xs ≡ drop i ys → length xs ≡ length ys → drop (suc i) xs ≡ drop (suc i) ys
drop-suc [] [] i same long = refl
drop-suc [] (y ∷ ys) i same long = absurd (omega (arith, long))
drop-suc (x ∷ xs) [] i same long = absurd (omega (arith, long))
drop-suc (x ∷ xs) (y ∷ ys) zero same long = cc
drop-suc (x ∷ xs) (y ∷ ys) (suc i) same long = drop-suc xs ys i same (omega (arith, long))

drop-next : {T : Type 0} (xs ys : List T) (i : ℕ) → drop i xs ≡ drop i ys → length xs ≡ length ys → drop (i + 1) xs ≡ drop (i + 1) ys
drop-next xs ys i same long = let next : i + 1 ≡ suc i = omega arith in ap (λ n. drop n xs) next ∙ drop-suc xs ys i same long ∙ ap (λ n. drop n ys) (sym next)

drop-set_suc : {T : Type 0} (xs : List T) (i : ℕ) (x : T) → drop (suc i) (set xs i x) ≡ drop (suc i) xs
drop-set_suc [] i x = refl
drop-set_suc (y ∷ xs) zero x = refl
drop-set_suc (y ∷ xs) (suc i) x = drop-set_suc xs i x

drop-set_next : {T : Type 0} (xs : List T) (i : ℕ) (x : T) → drop (i + 1) (set xs i x) ≡ drop (i + 1) xs
drop-set_next xs i x = let next : i + 1 ≡ suc i = omega arith in ap (λ n. drop n (set xs i x)) next ∙ drop-set_suc xs i x ∙ ap (λ n. drop n xs) (sym next)

take-take : {T : Type 0} (xs : List T) (i n : ℕ) → i ≤ n → take i (take n xs) ≡ take i xs
take-take xs zero n few = refl
take-take xs (suc i) zero few = absurd (omega arith)
take-take [] (suc i) (suc n) few = refl
take-take (x ∷ xs) (suc i) (suc n) few = ap (λ rest. x ∷ rest) (take-take xs i n (omega arith))

slice_get-take : {T : Type 0} (xs : List T) (i n : ℕ) → i < n → slice_get (take n xs) i ≡ slice_get xs i
slice_get-take xs i zero within = absurd (omega arith)
slice_get-take [] i (suc n) within = refl
slice_get-take (x ∷ xs) zero (suc n) within = refl
slice_get-take (x ∷ xs) (suc i) (suc n) within = slice_get-take xs i n (omega arith)

length-take_least : {T : Type 0} (xs : List T) (n : ℕ) → (length (take n xs) ≤ n) × (length (take n xs) ≤ length xs)
length-take_least xs zero = (omega arith, omega arith)
length-take_least [] (suc n) = (omega arith, omega arith)
length-take_least (x ∷ xs) (suc n) = let rest = length-take_least xs n in (omega (arith, rest.0), omega (arith, rest.1))

length-take_both : {T : Type 0} (xs : List T) (i n : ℕ) → i ≤ n → i ≤ length xs → i ≤ length (take n xs)
length-take_both xs zero n few within = omega arith
length-take_both xs (suc i) zero few within = absurd (omega arith)
length-take_both [] (suc i) (suc n) few within = absurd (omega arith)
length-take_both (x ∷ xs) (suc i) (suc n) few within = let rest = length-take_both xs i n (omega arith) (omega arith) in omega (arith, rest)

-- as far as both lists go

pub below_both : (place count a b : ℕ) → count ≡ min a b → place < count → (place < a) × (place < b)
below_both place count a b is below = (omega (arith, is, below, min-le_left a b), omega (arith, is, below, min-le_right a b))

min-either : (a b : ℕ) → (min a b ≡ a) ⊎ (min a b ≡ b)
min-either a b = by_order (cases_lt a b)
  where
    by_order : (a < b) ⊎ (b ≤ a) → (min a b ≡ a) ⊎ (min a b ≡ b)
    by_order (inl below) = inl (min-eq_left (omega arith))
    by_order (inr above) = inr (min-eq_right above)

-- the loop has come to the end of one of them
pub record IsAtEnd (place a b : ℕ) : Type 0 where
  pub in_first : place ≤ a
  pub in_second : place ≤ b
  pub last : (place ≡ a) ⊎ (place ≡ b)

pub IsAtEnd-min : (count a b : ℕ) → count ≡ min a b → IsAtEnd count a b
IsAtEnd-min count a b is = record {
  in_first = omega (arith, is, min-le_left a b);
  in_second = omega (arith, is, min-le_right a b);
  last = by_either (min-either a b);
}
  where
    by_either : (min a b ≡ a) ⊎ (min a b ≡ b) → (count ≡ a) ⊎ (count ≡ b)
    by_either (inl first) = inl (is ∙ first)
    by_either (inr second) = inr (is ∙ second)

-- puts

-- the first words are put, and their keys are the first of the room; whatever is put after them comes behind
pub record HasPut (old : CoreState) (shard : ℕ) (words : List RawWord) (room : List RawKey) (place : ℕ) (keys : List RawKey) (core : CoreState) : Type 0 where
  pub puts : (values : List Value) (raws : List RawKey) (new : CoreState) → PutsAll core shard values raws new
      → PutsAll old shard (take place (objects_of words) ++ values) (take place keys ++ raws) new
  pub rest : drop place keys ≡ drop place room
  pub long : length keys ≡ length room

module _ (old : CoreState) (shard : ℕ) (words : List RawWord) (room : List RawKey) (place : ℕ) (keys : List RawKey) (core : CoreState) (has : HasPut old shard words room place keys core) where
  object_at : (word : RawWord) → slice_get words place ≡ Some word → slice_get (objects_of words) place ≡ Some (word_of word ∷ [])
  object_at word here = slice_get-map (λ w. word_of w ∷ []) words place ∙ ap (λ o. option_map (λ w. word_of w ∷ []) o) here

  pub HasPut-next : (word : RawWord) (key : Key) (raw : RawKey) (new : CoreState) → slice_get words place ≡ Some word → place < length keys
      → Replies core (Put shard (word_of word ∷ [])) (Issued key) new → IsKeyOf raw key → HasPut old shard words room (place + 1) (set keys place raw) new
  HasPut-next word key raw new here within replies is = record {
    puts = λ values raws end run.
        let behind : PutsAll old shard (take place (objects_of words) ++ (word_of word ∷ []) ∷ values) (take place keys ++ raw ∷ raws) end
        = has.puts ((word_of word ∷ []) ∷ values) (raw ∷ raws) end (new, key, replies, is, run) in
        subst (λ vs. PutsAll old shard vs (take (place + 1) (set keys place raw) ++ raws) end) (sym (take-next (objects_of words) place (word_of word ∷ []) values (object_at word here)))
        (subst (λ rs. PutsAll old shard (take place (objects_of words) ++ (word_of word ∷ []) ∷ values) rs end)
        (ap (λ first. first ++ raw ∷ raws) (sym (take-set_here keys place raw)) ∙ sym (take-next (set keys place raw) place raw raws (slice_get-set_here keys place raw within)))
        behind);
    rest = drop-set_next keys place raw ∙ drop-next keys room place has.rest has.long;
    long = length-set keys place raw ∙ has.long;
  }

  abbrev values : List Value
  values = take (length room) (objects_of words)

  put_so_far : place ≤ length room → PutsAll old shard (take place values) (take place keys) core
  put_so_far few =
      subst (λ vs. PutsAll old shard vs (take place keys) core) (sym (take-take (objects_of words) place (length room) few))
      (subst (λ vs. PutsAll old shard vs (take place keys) core) (append-nil (take place (objects_of words)))
      (subst (λ ks. PutsAll old shard (take place (objects_of words) ++ []) ks core) (append-nil (take place keys)) (has.puts [] [] core refl)))

  written : keys ≡ take place keys ++ drop place room
  written = sym (take-append-drop place keys) ∙ ap (λ rest. take place keys ++ rest) has.rest

  pub PutsMany-all : place ≤ length words → place ≤ length room → (place ≡ length words) ⊎ (place ≡ length room)
      → PutsMany old shard values room (record { status = done; count = place }) keys core
  PutsMany-all in_words in_room last = record {
    keys = take place keys;
    mid = core;
    few = length-take_both (objects_of words) place (length room) in_room (omega (arith, in_words, length-map words (λ w. word_of w ∷ [])));
    puts = put_so_far in_room;
    written = written;
    stops = subst (λ o. StopsAt core shard o done core) (sym (slice_get_past values place (none_left last))) (refl, refl);
  }
    where
      none_left : (place ≡ length words) ⊎ (place ≡ length room) → length values ≤ place
      none_left (inl is) = omega (arith, is, (length-take_least (objects_of words) (length room)).1, length-map words (λ w. word_of w ∷ []))
      none_left (inr is) = omega (arith, is, (length-take_least (objects_of words) (length room)).0)

  pub PutsMany-refused : (word : RawWord) (refusal : Refusal) (status : ℕ) (new : CoreState) → slice_get words place ≡ Some word → place < length room
      → Replies core (Put shard (word_of word ∷ [])) (Refused refusal) new → status ≡ refusal_status refusal
      → PutsMany old shard values room (record { status = status; count = place }) keys new
  PutsMany-refused word refusal status new here within replies is = record {
    keys = take place keys;
    mid = core;
    few = length-take_both (objects_of words) place (length room) (omega arith)
        (omega (arith, slice_get_within words place word here, length-map words (λ w. word_of w ∷ [])));
    puts = put_so_far (omega arith);
    written = written;
    stops = subst (λ o. StopsAt core shard o status new) (sym (slice_get-take (objects_of words) place (length room) within ∙ object_at word here)) (refusal, replies, is);
  }

-- frees

-- the first keys are freed, and so many of them were live; whatever is freed after them comes behind
pub record HasFreed (old : CoreState) (keys : List RawKey) (place count : ℕ) (core : CoreState) : Type 0 where
  pub frees : (raws : List RawKey) (rest : ℕ) (new : CoreState) → FreesAll core raws rest new → FreesAll old (take place keys ++ raws) (count + rest) new
  pub few : count ≤ place

module _ (old : CoreState) (keys : List RawKey) (place count : ℕ) (core : CoreState) (has : HasFreed old keys place count core) where
  pub HasFreed-live : (raw : RawKey) (new : CoreState) → slice_get keys place ≡ Some raw → FreesRaw core raw true new → HasFreed old keys (place + 1) (count + 1) new
  HasFreed-live raw new here frees = record {
    frees = λ raws rest end run.
        subst (λ ks. FreesAll old ks (count + 1 + rest) end) (sym (take-next keys place raw raws here))
        (let same : count + (rest + 1) ≡ count + 1 + rest = omega arith in subst (λ n. FreesAll old (take place keys ++ raw ∷ raws) n end) same
        (has.frees (raw ∷ raws) (rest + 1) end (new, true, rest, frees, refl, run)));
    few = omega (arith, has.few);
  }

  pub HasFreed-gone : (raw : RawKey) (new : CoreState) → slice_get keys place ≡ Some raw → FreesRaw core raw false new → HasFreed old keys (place + 1) count new
  HasFreed-gone raw new here frees = record {
    frees = λ raws rest end run.
        subst (λ ks. FreesAll old ks (count + rest) end) (sym (take-next keys place raw raws here))
        (has.frees (raw ∷ raws) rest end (new, false, rest, frees, refl, run));
    few = omega (arith, has.few);
  }

  pub FreesAll-all : length keys ≤ place → FreesAll old keys count core
  FreesAll-all all =
      let same : count + zero ≡ count = omega arith in
      subst (λ n. FreesAll old keys n core) same
      (subst (λ ks. FreesAll old ks (count + zero) core) (append-nil (take place keys) ∙ take_all place keys all) (has.frees [] zero core (refl, refl)))

-- look-ups

-- the first keys are looked up
pub record HasGot (core : CoreState) (raws : List RawKey) (room : List GetReply) (place : ℕ) (now : List GetReply) : Type 0 where
  pub long : length now ≡ length room
  pub got : (i : ℕ) (raw : RawKey) (says : GetReply) → i < place → slice_get raws i ≡ Some raw → slice_get now i ≡ Some says → GetsRaw core raw says
  pub others : (i : ℕ) → place ≤ i → slice_get now i ≡ slice_get room i

module _ (core : CoreState) (raws : List RawKey) (room : List GetReply) (place : ℕ) (now : List GetReply) (has : HasGot core raws room place now) where
  pub HasGot-next : (raw : RawKey) (says : GetReply) → slice_get raws place ≡ Some raw → place < length now → GetsRaw core raw says
      → HasGot core raws room (place + 1) (set now place says)
  HasGot-next raw says here within gets = record {
    long = length-set now place says ∙ has.long;
    got = λ i other told below at there. by_place i other told at there (cases_lt i place) below;
    others = λ i past. slice_get-set_other now place i says (λ e. absurd (omega (arith, e))) ∙ has.others i (omega arith);
  }
    where
      by_place : (i : ℕ) (other : RawKey) (told : GetReply) → slice_get raws i ≡ Some other → slice_get (set now place says) i ≡ Some told
          → (i < place) ⊎ (place ≤ i) → i < place + 1 → GetsRaw core other told
      by_place i other told at there (inl earlier) below =
          has.got i other told earlier at (sym (slice_get-set_other now place i says (λ e. absurd (omega (arith, e)))) ∙ there)
      by_place i other told at there (inr past) below =
          let same : i ≡ place = omega arith in
          let is_raw : raw ≡ other = same_some (sym here ∙ ap (slice_get raws) (sym same) ∙ at) in
          let is_says : says ≡ told = same_some (sym (slice_get-set_here now place says within) ∙ ap (slice_get (set now place says)) (sym same) ∙ there) in
          subst (λ r. GetsRaw core r told) is_raw (subst (GetsRaw core raw) is_says gets)

  pub GetsAll-all : place ≤ length raws → (place ≡ length raws) ⊎ (place ≡ length room) → GetsAll core raws room now
  GetsAll-all in_raws last = record {
    long = has.long;
    got = λ i raw says here there. has.got i raw says (within i raw says here there last) here there;
    others = λ i past. has.others i (omega arith);
  }
    where
      within : (i : ℕ) (raw : RawKey) (says : GetReply) → slice_get raws i ≡ Some raw → slice_get now i ≡ Some says → (place ≡ length raws) ⊎ (place ≡ length room) → i < place
      within i raw says here there (inl is) = omega (arith, is, slice_get_within raws i raw here)
      within i raw says here there (inr is) = omega (arith, is, slice_get_within now i says there, has.long)
