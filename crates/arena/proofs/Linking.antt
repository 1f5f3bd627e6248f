-- Seats whose ends belong together.
use Rattle.std.proofs.Common.{◌≡◌, ℕ, zero, suc, ◌+◌, ◌<◌, ◌≤◌, List, [], ◌∷◌, ◌++◌, length, length-set, map, get_or, slice_index_or, slice_set, All, ap, sym, subst, ◌∙◌, refl, arith, inl, inr}
use Rattle.std.specs.List.{slice_get}
use Rattle.std.proofs.Math.Seq.{map-set_same}
use Rattle.std.proofs.lemmas.Simd.{map-map}
use Rattle.std.proofs.lemmas.Grind.{get_or-set_at}
use Rattle.std.proofs.lemmas.List.{get_or_default, get_or-map, get_or-set_other, length-map, map-set}
use Rattle.remote_queue.specs.Rings.{Ring, Taking, cell}
use Rattle.span.specs.declared.receipt.Receipt.{Receipt}
use Rattle.std.proofs.lemmas.Bool.{cases_eq}
use Rattle.arena.specs.Receipts.{AddsFrees, joined}
use Rattle.arena.specs.Seats.{AreLinked, KeepPlaces, SeatState, SendingSide, in_rings, known_lists, out_rings, sending_side, sent_lists, taken_lists, taken_on}
use Rattle.arena.specs.Settled.{AreCounted, AreSameSeats, IsSettled, TakingSide, known_by, taking_side}
use Rattle.arena.proofs.CountedRings.{same_out_rings, same_sent}
use Rattle.arena.proofs.Sending.{KeepPlaces-more, KeepPlaces-same}
use Rattle.remote_queue.specs.declared.ends.TheConstants.{MOST_KNOWN_KEYS}

set_twice : {T : Type 0} (l : List T) (i : ℕ) (a b : T) → slice_set (slice_set l i a) i b ≡ slice_set l i b
set_twice [] i a b = refl
set_twice (x ∷ xs) zero a b = refl
set_twice (x ∷ xs) (suc i) a b = ap (λ l. x ∷ l) (set_twice xs i a b)

pub same_length : {A B : Type 0} (f : A → B) (a b : List A) → map f b ≡ map f a → length b ≡ length a
same_length f a b same = sym (length-map b f) ∙ ap length same ∙ length-map a f

-- seats that take alike have the same rings, and have taken the same
pub same_in_rings : (a b : List SeatState) → map (λ seat. taking_side seat.inboxes) b ≡ map (λ seat. taking_side seat.inboxes) a → map in_rings b ≡ map in_rings a
same_in_rings a b same = sym (map-map (λ (s : TakingSide). s.rings) (λ seat. taking_side seat.inboxes) b) ∙ ap (map (λ (s : TakingSide). s.rings)) same
    ∙ map-map (λ (s : TakingSide). s.rings) (λ seat. taking_side seat.inboxes) a

pub same_taken : (a b : List SeatState) → map (λ seat. taking_side seat.inboxes) b ≡ map (λ seat. taking_side seat.inboxes) a
    → map (λ seat. taken_lists seat.inboxes) b ≡ map (λ seat. taken_lists seat.inboxes) a
same_taken a b same =
    sym (map-map (λ (s : TakingSide). s.taken) (λ seat. taking_side seat.inboxes) b) ∙ ap (map (λ (s : TakingSide). s.taken)) same
    ∙ map-map (λ (s : TakingSide). s.taken) (λ seat. taking_side seat.inboxes) a

pub same_workers : (a b : List SeatState) → map sending_side b ≡ map sending_side a → map (λ (s : SeatState). s.worker) b ≡ map (λ (s : SeatState). s.worker) a
same_workers a b same = sym (map-map (λ (s : SendingSide). s.worker) sending_side b) ∙ ap (map (λ (s : SendingSide). s.worker)) same ∙ map-map (λ (s : SendingSide). s.worker) sending_side a

-- seats with the same workers and rings are linked as before
pub AreLinked-from : (a b : List SeatState) → map (λ (s : SeatState). s.worker) b ≡ map (λ (s : SeatState). s.worker) a → map out_rings b ≡ map out_rings a
    → map in_rings b ≡ map in_rings a → AreLinked a → AreLinked b
AreLinked-from a b workers outboxes inboxes linked =
    let long : length b ≡ length a = same_length out_rings a b outboxes in
    record {
      in_order = λ w d below.
          sym (get_or-map (λ (s : SeatState). s.worker) b w d 0 below) ∙ ap (λ l. get_or l w 0) workers
          ∙ get_or-map (λ (s : SeatState). s.worker) a w d 0 (omega arith) ∙ linked.in_order w d (omega arith);
      wide = λ k d below.
          let inside : k < length a = omega arith in
          let was = linked.wide k d inside in
          let out : length (get_or b k d).outboxes ≡ length (get_or a k d).outboxes =
          sym (length-map (get_or b k d).outboxes (λ o. o.ring))
          ∙ ap length (sym (get_or-map out_rings b k d [] below) ∙ ap (λ l. get_or l k []) outboxes ∙ get_or-map out_rings a k d [] inside)
          ∙ length-map (get_or a k d).outboxes (λ o. o.ring)
          in
          let inward : length (get_or b k d).inboxes ≡ length (get_or a k d).inboxes =
          sym (length-map (get_or b k d).inboxes (λ i. i.ring))
          ∙ ap length (sym (get_or-map in_rings b k d [] below) ∙ ap (λ l. get_or l k []) inboxes ∙ get_or-map in_rings a k d [] inside)
          ∙ length-map (get_or a k d).inboxes (λ i. i.ring)
          in
          (out ∙ was.0 ∙ sym long, inward ∙ was.1 ∙ sym long);
      linked = λ w s. ap (λ t. cell t w s) outboxes ∙ linked.linked w s ∙ sym (ap (λ t. cell t s w) inboxes);
    }

pub AreLinked-same : (a b : List SeatState) → AreSameSeats a b → AreLinked a → AreLinked b
AreLinked-same a b same linked = AreLinked-from a b (same_workers a b same.sending) (same_out_rings a b same.sending) (same_in_rings a b same.taking) linked

pub AreSameSeats-more : (a b c : List SeatState) → AreSameSeats a b → AreSameSeats b c → AreSameSeats a c
AreSameSeats-more a b c one two = record {
  tables = two.tables ∙ one.tables;
  sending = two.sending ∙ one.sending;
  taking = two.taking ∙ one.taking;
  places = KeepPlaces-more a b c one.places two.places;
}

-- the ends that a seat gave are of the rings that the workers send by
pub ends_of : (seats : List SeatState) (shard : ℕ) (y d : SeatState) (inboxes : List Taking) → AreLinked seats → shard < length seats
    → sending_side y ≡ sending_side (get_or seats shard d) → inboxes ≡ (get_or seats shard d).inboxes
    → (w : ℕ) → cell (map out_rings (slice_set seats shard y)) w shard ≡ slice_get (map (λ i. i.ring) inboxes) w
ends_of seats shard y d inboxes linked below sending given w =
    ap (λ t. cell t w shard) (same_out_rings seats (slice_set seats shard y) (map-set_same sending_side seats shard y d sending))
    ∙ linked.linked w shard
    ∙ ap (λ l. slice_get l w) (get_or-map in_rings seats shard d [] below ∙ ap (map (λ (i : Taking). i.ring)) (sym given))

-- what others kept of the seat that gave its ends away
pub kept_of : {F : Type 0} (f : SeatState → F) (s0 s2 : List SeatState) (shard : ℕ) (y1 e : SeatState) → shard < length s0 → map f s2 ≡ map f (slice_set s0 shard y1) → f (get_or s2 shard e) ≡ f y1
kept_of f s0 s2 shard y1 e below same =
    let set : shard < length (slice_set s0 shard y1) = omega (arith, length-set s0 shard y1) in
    sym (get_or-map f s2 shard e (f e) (omega (arith, same_length f (slice_set s0 shard y1) s2 same))) ∙ ap (λ l. get_or l shard (f e)) same ∙ get_or-map f (slice_set s0 shard y1) shard e (f e) set
    ∙ ap f (get_or-set_at s0 shard shard y1 e refl below)

-- the seat has its own columns back
pub home_again : (s0 s2 : List SeatState) (shard : ℕ) (y1 y3 d e : SeatState) (lent : List (List Ring)) → shard < length s0
    → map (λ (s : SeatState). s.table) s2 ≡ map (λ (s : SeatState). s.table) (slice_set s0 shard y1)
    → y1.table.rows ≡ (get_or s0 shard d).table.rows → lent ≡ (get_or s0 shard d).table.columns
    → y3.table ≡ record { rows = (get_or s2 shard e).table.rows; columns = lent } → y3.table ≡ (get_or s0 shard d).table
home_again s0 s2 shard y1 y3 d e lent below tabled rows columns back =
    let same : (get_or s2 shard e).table.rows ≡ (get_or s0 shard d).table.rows = ap (λ t. t.rows) (kept_of (λ (s : SeatState). s.table) s0 s2 shard y1 e below tabled) ∙ rows in
    rw (same, columns) at back

-- a seat gives its ends away, others count, and it has its ends back
module _ (s0 s2 : List SeatState) (shard : ℕ) (y1 y3 d e : SeatState) (inboxes1 inboxes2 : List Taking) (below : shard < length s0)
    (gave : sending_side y1 ≡ sending_side (get_or s0 shard d)) (given : inboxes1 ≡ (get_or s0 shard d).inboxes)
    (sending : map sending_side s2 ≡ map sending_side (slice_set s0 shard y1)) (idle : map (λ (s : SeatState). s.inboxes) s2 ≡ map (λ (s : SeatState). s.inboxes) (slice_set s0 shard y1))
    (took : sending_side y3 ≡ sending_side (get_or s2 shard e)) (back : y3.inboxes ≡ inboxes2) (taking : taking_side inboxes2 ≡ taking_side inboxes1) where
  inboxes_after : map (λ (s : SeatState). s.inboxes) (slice_set s2 shard y3) ≡ slice_set (map (λ (s : SeatState). s.inboxes) s0) shard inboxes2
  inboxes_after =
      map-set (λ (s : SeatState). s.inboxes) s2 shard y3 ∙ ap (λ l. slice_set l shard y3.inboxes) (idle ∙ map-set (λ (s : SeatState). s.inboxes) s0 shard y1)
      ∙ set_twice (map (λ (s : SeatState). s.inboxes) s0) shard y1.inboxes y3.inboxes
      ∙ ap (slice_set (map (λ (s : SeatState). s.inboxes) s0) shard) back

  pub seats_same : map (λ (s : SeatState). s.table) s2 ≡ map (λ (s : SeatState). s.table) (slice_set s0 shard y1) → y3.table ≡ (get_or s0 shard d).table
      → y1.outboxes ≡ (get_or s0 shard d).outboxes → KeepPlaces (slice_set s0 shard y1) s2
      → y3.outboxes ≡ (get_or s2 shard e).outboxes → AreSameSeats s0 (slice_set s2 shard y3)
  seats_same tabled home lent kept again = record {
    places =
        KeepPlaces-more s0 (slice_set s0 shard y1) (slice_set s2 shard y3) (KeepPlaces-same s0 (slice_set s0 shard y1) (map-set_same (λ (s : SeatState). s.outboxes) s0 shard y1 d lent))
        (KeepPlaces-more (slice_set s0 shard y1) s2 (slice_set s2 shard y3) kept (KeepPlaces-same s2 (slice_set s2 shard y3) (map-set_same (λ (s : SeatState). s.outboxes) s2 shard y3 e again)));
    tables =
        map-set (λ (s : SeatState). s.table) s2 shard y3 ∙ ap (λ l. slice_set l shard y3.table) (tabled ∙ map-set (λ (s : SeatState). s.table) s0 shard y1)
        ∙ set_twice (map (λ (s : SeatState). s.table) s0) shard y1.table y3.table ∙ sym (map-set (λ (s : SeatState). s.table) s0 shard y3)
        ∙ map-set_same (λ (s : SeatState). s.table) s0 shard y3 d home;
    sending = map-set_same sending_side s2 shard y3 e took ∙ sending ∙ map-set_same sending_side s0 shard y1 d gave;
    taking =
        sym (map-map taking_side (λ (s : SeatState). s.inboxes) (slice_set s2 shard y3)) ∙ ap (map taking_side) inboxes_after
        ∙ map-set_same taking_side (map (λ (s : SeatState). s.inboxes) s0) shard inboxes2 [] (taking ∙ ap taking_side (given ∙ sym (get_or-map (λ (s : SeatState). s.inboxes) s0 shard d [] below)))
        ∙ map-map taking_side (λ (s : SeatState). s.inboxes) s0;
  }

  known_after : map (λ (s : SeatState). known_lists s.inboxes) (slice_set s2 shard y3) ≡ slice_set (map (λ (s : SeatState). known_lists s.inboxes) s0) shard (known_lists inboxes2)
  known_after =
      sym (map-map known_lists (λ (s : SeatState). s.inboxes) (slice_set s2 shard y3)) ∙ ap (map known_lists) inboxes_after ∙ map-set known_lists (map (λ (s : SeatState). s.inboxes) s0) shard inboxes2
      ∙ ap (λ l. slice_set l shard (known_lists inboxes2)) (map-map known_lists (λ (s : SeatState). s.inboxes) s0)

  pub known_others : (k : ℕ) → (k ≡ shard → ⊥) → known_by (slice_set s2 shard y3) k ≡ known_by s0 k
  known_others k other = rw known_after (get_or-set_other (map (λ (s : SeatState). known_lists s.inboxes) s0) shard k (known_lists inboxes2) [] other)

  known_there : known_by (slice_set s2 shard y3) shard ≡ known_lists inboxes2
  known_there = rw known_after (get_or-set_at (map (λ (s : SeatState). known_lists s.inboxes) s0) shard shard (known_lists inboxes2) [] refl
      (omega (arith, below, length-map s0 (λ (s : SeatState). known_lists s.inboxes))))

  pub shard_counted : (counts : List ℕ) → length inboxes2 ≡ length s0 → counts ≡ map length (known_lists inboxes2) → All (λ n. n ≤ MOST_KNOWN_KEYS) counts
      → ((w : ℕ) → w < length s0 → slice_index_or (slice_index_or (map sent_lists (slice_set s0 shard y1)) w []) shard []
      ≡ slice_index_or (taken_lists inboxes1) w [] ++ slice_index_or (known_lists inboxes2) w [])
      → AreCounted s0 (slice_set s2 shard y3) shard counts
  shard_counted counts wide are few whole =
      let sent : map sent_lists (slice_set s0 shard y1) ≡ map sent_lists s0 = same_sent s0 (slice_set s0 shard y1) (map-set_same sending_side s0 shard y1 d gave) in
      let taken : slice_index_or (map (λ (s : SeatState). taken_lists s.inboxes) s0) shard []
      ≡ taken_lists inboxes1 = get_or-map (λ (s : SeatState). taken_lists s.inboxes) s0 shard d [] below ∙ ap taken_lists (sym given) in
      record {
        wide = ap length are ∙ length-map (known_lists inboxes2) length ∙ length-map inboxes2 (λ (i : Taking). i.known) ∙ wide;
        counts_are = are ∙ ap (map length) (sym known_there);
        few = few;
        whole = λ w h.
            ap (λ t. slice_index_or (slice_index_or t w []) shard []) (sym sent) ∙ whole w h ∙ ap (λ t. slice_index_or t w [] ++ slice_index_or (known_lists inboxes2) w []) (sym taken)
            ∙ ap (λ t. taken_on s0 shard w ++ slice_index_or t w []) (sym known_there);
      }

-- what was counted from seats is also counted from seats that are the same, and stays so while others count
pub AreCounted-same : (a b c d : List SeatState) (shard : ℕ) (counts : List ℕ) → AreSameSeats a b → known_by d shard ≡ known_by c shard → AreCounted b c shard counts → AreCounted a d shard counts
AreCounted-same a b c d shard counts same known was =
    let long : length b ≡ length a = same_length sending_side a b same.sending in
    let sent = same_sent a b same.sending in
    let taken = same_taken a b same.taking in
    record {
      wide = was.wide ∙ long;
      counts_are = was.counts_are ∙ ap (map length) (sym known);
      few = was.few;
      whole = λ w h.
          ap (λ t. slice_index_or (slice_index_or t w []) shard []) (sym sent) ∙ was.whole w (omega arith)
          ∙ ap (λ t. slice_index_or (slice_index_or t shard []) w [] ++ slice_index_or (known_by c shard) w []) taken
          ∙ ap (λ t. taken_on a shard w ++ slice_index_or t w []) (sym known);
    }

pub AreSameSeats-refl : (a : List SeatState) → AreSameSeats a a
AreSameSeats-refl a = record { tables = refl; sending = refl; taking = refl; places = λ w s. omega arith }

-- a list of which one changes has room as before at the others
pub room_more : {V C : Type 0} (room : V → ℕ) (sum_of : C → ℕ) (vs : List V) (cs : List C) (s : ℕ) (v : V) (c : C) → s < length vs → s < length cs → sum_of (get_or cs s c) ≤ room v
    → ((k : ℕ) (d : V) (e : C) → k < s → sum_of (get_or cs k e) ≤ room (get_or vs k d)) → (k : ℕ) (d : V) (e : C) → k < s + 1
    → sum_of (get_or cs k e) ≤ room (get_or (slice_set vs s v) k d)
room_more room sum_of vs cs s v c below counted fits were k d e h =
    elim (cases_eq k s) [
      | inl here ↦
          let at = get_or-set_at vs s k v d here below in
          let row : get_or cs k e ≡ get_or cs s c = ap (λ k. get_or cs k e) here ∙ get_or_default cs s e c counted in
          subst (λ x. sum_of (get_or cs k e) ≤ room x) (sym at) (subst (λ y. sum_of y ≤ room v) (sym row) fits)
      | inr other ↦ subst (λ x. sum_of (get_or cs k e) ≤ room x) (sym (get_or-set_other vs s k v d other)) (were k d e (omega arith))
    ]

-- one more shard's rings are settled
pub frees_more : {V : Type 0} (items : V → List Receipt) (section : ℕ) (seats : List SeatState) (before lists : List V) (s : ℕ) (x0 : SeatState) (d0 v : V)
    → s < length seats → s < length before → s < length lists
    → AddsFrees s section (joined (known_lists (get_or seats s x0).inboxes)) (items (get_or before s d0)) (items v)
    → ((k : ℕ) (x : SeatState) (d e : V) → k < s → AddsFrees k section (joined (known_lists (get_or seats k x).inboxes)) (items (get_or before k d)) (items (get_or lists k e)))
    → (k : ℕ) (x : SeatState) (d e : V) → k < s + 1 → AddsFrees k section (joined (known_lists (get_or seats k x).inboxes)) (items (get_or before k d)) (items (get_or (slice_set lists s v) k e))
frees_more items section seats before lists s x0 d0 v seated listed below one were k x d e h =
    elim (cases_eq k s) [
      | inl here ↦
          let P : SeatState → _ → _ → Type 0 = λ seat old new. AddsFrees k section (joined (known_lists seat.inboxes)) (items old) (items new) in
          let at = get_or-set_at lists s k v e here below in
          let seat : get_or seats k x ≡ get_or seats s x0 = ap (λ k. get_or seats k x) here ∙ get_or_default seats s x x0 seated in
          let old : get_or before k d ≡ get_or before s d0 = ap (λ k. get_or before k d) here ∙ get_or_default before s d d0 listed in
          let first : P (get_or seats s x0) (get_or before s d0) v = subst
          (λ w. AddsFrees w section (joined (known_lists (get_or seats s x0).inboxes)) (items (get_or before s d0)) (items v)) (sym here) one in
          subst (λ y. P (get_or seats k x) (get_or before k d) y) (sym at) (subst (λ y. P (get_or seats k x) y v) (sym old) (subst (λ y. P y (get_or before s d0) v) (sym seat) first))
      | inr other ↦
          subst (λ y. AddsFrees k section (joined (known_lists (get_or seats k x).inboxes)) (items (get_or before k d)) (items y))
          (sym (get_or-set_other lists s k v e other)) (were k x d e (omega arith))
    ]

-- every ring into a shard is settled
pub settled_from : (a b : List SeatState) (s section : ℕ) (x : SeatState) (counts : List ℕ) (before after : List Receipt) → s < length b → AreCounted a b s counts
    → AddsFrees s section (joined (known_lists (slice_index_or b s x).inboxes)) before after → IsSettled a s section counts before after
settled_from a b s section x counts before after below counted freed =
    let known = get_or-map (λ (seat : SeatState). known_lists seat.inboxes) b s x [] below in
    record {
      keys = known_by b s;
      each_ring = sym (ap length counted.counts_are ∙ length-map (known_by b s) length) ∙ counted.wide;
      counted = counted.counts_are;
      whole = counted.whole;
      freed = subst (λ k. AddsFrees s section (joined k) before after) (sym known) freed;
    }

-- the same of a seat, a worker and a list that are said in another way
pub frees_of : {V : Type 0} (items : V → List Receipt) (w s section : ℕ) (seat seat0 : SeatState) (old old0 new : V) → seat ≡ seat0 → w ≡ s → old ≡ old0
    → AddsFrees w section (joined (known_lists seat.inboxes)) (items old) (items new) → AddsFrees s section (joined (known_lists seat0.inboxes)) (items old0) (items new)
frees_of items w s section seat seat0 old old0 new same worker list frees =
    subst (λ w. AddsFrees w section (joined (known_lists seat0.inboxes)) (items old0) (items new)) worker
    (subst (λ x. AddsFrees w section (joined (known_lists x.inboxes)) (items old0) (items new)) same
    (subst (λ y. AddsFrees w section (joined (known_lists seat.inboxes)) (items y) (items new)) list frees))

-- two lists of which f makes the same at each place
pub same_by : {A B : Type 0} (f : A → B) (a b : List A) → length b ≡ length a → ((i : ℕ) (d e : A) → i < length a → f (get_or b i e) ≡ f (get_or a i d)) → map f b ≡ map f a
same_by f [] [] long each = refl
same_by f [] (y ∷ ys) long each = absurd (omega arith)
same_by f (x ∷ xs) [] long each = absurd (omega arith)
same_by f (x ∷ xs) (y ∷ ys) long each = rw (each 0 x y (omega arith)) (ap (λ l. f x ∷ l) (same_by f xs ys (omega arith) (λ i d e h. each (suc i) d e (omega arith))))
