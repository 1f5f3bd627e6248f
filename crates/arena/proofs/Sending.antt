-- Lists of senders' ends, of which one changes.
use Rattle.std.proofs.Common.{◌≡◌, ℕ, zero, suc, ◌<◌, ◌≤◌, List, [], ◌∷◌, ◌++◌, length, length-set, map, get_or, slice_index_or, slice_set, Result, Ok, Err, MatchResult, OnOk, Some, ◌+◌, ap, sym, ◌∙◌, arith, rules}
use Rattle.std.specs.List.{slice_get}
use Rattle.std.proofs.lemmas.Option.{slice_get_within}
use Rattle.std.proofs.Math.Seq.{map-set_same}
use Rattle.std.proofs.lemmas.Grind.{get_or-set_at}
use Rattle.std.proofs.lemmas.List.{get_or-map, get_or-set_other, map-set, length-map}
use Rattle.span.specs.declared.key.Key.{Key}
use Rattle.std.proofs.lemmas.Simd.{map-map}
use Rattle.remote_queue.specs.Rings.{Sending}
use Rattle.arena.specs.Delays.{KeepSent}
use Rattle.arena.specs.Seats.{AreNoFewer, KeepPlaces, SeatState, free_places}

-- what was sent after one end sent a key, or kept it
pub sent_step : {A : Type 0} (outboxes : List Sending) (i : ℕ) (before after : Sending) (key : Key) (r : Result A Key) → i < length outboxes → before ≡ get_or outboxes i before
    → MatchResult r (λ _. after.sent ≡ before.sent ++ key ∷ []) (λ back. (back ≡ key) × (after.sent ≡ before.sent))
    → MatchResult r (λ _. map (λ o. o.sent) (slice_set outboxes i after) ≡ slice_set (map (λ o. o.sent) outboxes) i (slice_index_or (map (λ o. o.sent) outboxes) i [] ++ key ∷ []))
    (λ back. (back ≡ key) × (map (λ o. o.sent) (slice_set outboxes i after) ≡ map (λ o. o.sent) outboxes))
sent_step outboxes i before after key (Ok x) below is sent =
    let old : before.sent ≡ slice_index_or (map (λ (o : Sending). o.sent) outboxes) i [] = ap (λ (o : Sending). o.sent) is ∙ sym (get_or-map (λ (o : Sending). o.sent) outboxes i before [] below) in
    map-set (λ (o : Sending). o.sent) outboxes i after ∙ ap (slice_set (map (λ (o : Sending). o.sent) outboxes) i) (sent ∙ ap (λ l. l ++ key ∷ []) old)
sent_step outboxes i before after key (Err back) below is sent = (sent.0, map-set_same (λ (o : Sending). o.sent) outboxes i after before (sent.1 ∙ ap (λ (o : Sending). o.sent) is))

-- one entry of a list of numbers grows by what another list has less
pub no_fewer_set : {A : Type 0} (f : A → ℕ) (xs : List A) (i : ℕ) (after d : A) → f (get_or xs i d) ≤ f after → (k : ℕ)
    → slice_index_or (map f xs) k 0 ≤ slice_index_or (map f (slice_set xs i after)) k 0
no_fewer_set f (x ∷ xs) zero after d more zero = more
no_fewer_set f (x ∷ xs) (suc i) after d more (suc k) = no_fewer_set f xs i after d more k
no_fewer_set f xs i after d more k = omega arith

-- one end keeps its ring and the keys that it sent
pub KeepSent-set : (ends : List Sending) (i : ℕ) (x d : Sending) → x.ring ≡ (get_or ends i d).ring → x.sent ≡ (get_or ends i d).sent → (get_or ends i d).free ≤ x.free
    → KeepSent ends (slice_set ends i x)
KeepSent-set ends i x d ring sent free = record {
  len = length-set ends i x;
  rings_are = map-set_same (λ (o : Sending). o.ring) ends i x d ring;
  sent_are = map-set_same (λ (o : Sending). o.sent) ends i x d sent;
  places = no_fewer_set (λ (o : Sending). o.free) ends i x d free;
}

pub KeepSent-more : (a b c : List Sending) → KeepSent a b → KeepSent b c → KeepSent a c
KeepSent-more a b c one two = record {
  len = two.len ∙ one.len;
  rings_are = two.rings_are ∙ one.rings_are;
  sent_are = two.sent_are ∙ one.sent_are;
  places = λ k. omega (arith, one.places k, two.places k);
}

-- one seat keeps its places
pub KeepPlaces-set : (seats : List SeatState) (i : ℕ) (x d : SeatState) → AreNoFewer (free_places (get_or seats i d).outboxes) (free_places x.outboxes) → KeepPlaces seats (slice_set seats i x)
KeepPlaces-set (y ∷ seats) zero x d more zero s = more s
KeepPlaces-set (y ∷ seats) (suc i) x d more (suc w) s = KeepPlaces-set seats i x d more w s
KeepPlaces-set seats i x d more w s = omega arith

pub KeepPlaces-more : (a b c : List SeatState) → KeepPlaces a b → KeepPlaces b c → KeepPlaces a c
KeepPlaces-more a b c one two w s = omega (arith, one w s, two w s)

-- the same ends know the same places
pub KeepPlaces-same : (a b : List SeatState) → map (λ (s : SeatState). s.outboxes) b ≡ map (λ (s : SeatState). s.outboxes) a → KeepPlaces a b
KeepPlaces-same a b same w s =
    let alike : map (λ (s : SeatState). free_places s.outboxes) b ≡ map (λ (s : SeatState). free_places s.outboxes) a =
    sym (map-map free_places (λ (s : SeatState). s.outboxes) b) ∙ ap (map free_places) same ∙ map-map free_places (λ (s : SeatState). s.outboxes) a
    in
    let here : slice_index_or (slice_index_or (map (λ (s : SeatState). free_places s.outboxes) b) w []) s 0
    ≡ slice_index_or (slice_index_or (map (λ (s : SeatState). free_places s.outboxes) a) w []) s 0 =
    ap (λ t. slice_index_or (slice_index_or t w []) s 0) alike
    in
    omega (arith, here)

-- the places known at the end that sent
pub place_step : {A B : Type 0} (outboxes : List Sending) (i : ℕ) (before after : Sending) (r : Result A B) → i < length outboxes
    → before ≡ get_or outboxes i before → OnOk r (before.free ≤ after.free + 1)
    → OnOk r (slice_index_or (map (λ o. o.free) outboxes) i 0 ≤ slice_index_or (map (λ o. o.free) (slice_set outboxes i after)) i 0 + 1)
place_step outboxes i before after r below is place = search (rules, slice_index_or, get_or-map, slice_set, map-set, get_or-set_at, length-map)

-- the places known at the others
pub other_places : (outboxes : List Sending) (i : ℕ) (after : Sending) (k : ℕ) → (k ≡ i → ⊥)
    → slice_index_or (map (λ o. o.free) outboxes) k 0 ≤ slice_index_or (map (λ o. o.free) (slice_set outboxes i after)) k 0
other_places outboxes i after k other = search (rules, slice_index_or, slice_set, map-set, get_or-set_other)

-- a place where something is read is within the list
pub read_within : {A B : Type 0} (f : A → B) (xs : List A) (i : ℕ) (y : B) → slice_get (map f xs) i ≡ Some y → i < length xs
read_within f xs i y is = omega (arith, slice_get_within (map f xs) i y is, length-map xs f)
