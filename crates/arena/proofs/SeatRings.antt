-- Seats of one arena.
use Rattle.std.proofs.Common.{◌≡◌, ◌<◌, ℕ, List, [], ◌∷◌, length, map, get_or, slice_set, All, Vec, ap, sym, ◌∙◌, refl, arith}
use Rattle.std.specs.declared.alloc.Global.{Global}
use Rattle.std.proofs.Math.Seq.{map-set_same}
use Rattle.std.proofs.lemmas.List.{get_or_default, get_or-map, length-map}
use Rattle.std.proofs.lemmas.List.Elements.{All-get_or, All-map}
use Rattle.marks.specs.Numbers.{Limits}
use Rattle.remote_queue.specs.Rings.{AreFreshInboxes, AreFreshOutboxes, AreNewLinks, Ring, Sending, Taking, cell, inbox_rings, outbox_rings}
use Rattle.arena.specs.Seats.{AreLinked, AreSeatsOf, HasItsRings, IsTableOf, KeepsEnds, SeatState, Table, in_rings, out_rings, sending_side}
use Rattle.arena.proofs.Linking.{same_length, same_workers}
use Rattle.arena.proofs.Made.{same_both, with_first}

same_map : {A : Type 0} (xs : List A) → map (λ x. x) xs ≡ xs
same_map [] = refl
same_map (x ∷ xs) = ap (λ l. x ∷ l) (same_map xs)

-- seats of one arena are linked
module _ (limits : Limits) (table : Table) (seats : List SeatState) (all : AreSeatsOf limits table seats) (rings : IsTableOf limits.shards table) (each : All HasItsRings seats) where
  rows_are : map out_rings seats ≡ table.rows
  rows_are =
      same_both out_rings (λ row. row) seats table.rows (all.each ∙ sym rings.0)
      (λ k d e h.
      (each k d h).row_is ∙ ap (λ t. get_or t.rows (get_or seats k d).worker []) (all.of_table k d h) ∙ ap (λ w. get_or table.rows w []) (all.in_order k d h)
      ∙ get_or_default table.rows k [] e (omega (arith, all.each, rings.0)))
      ∙ same_map table.rows

  columns_are : map in_rings seats ≡ table.columns
  columns_are =
      same_both in_rings (λ column. column) seats table.columns (all.each ∙ sym rings.1)
      (λ k d e h.
      (each k d h).column_is ∙ ap (λ t. get_or t.columns (get_or seats k d).worker []) (all.of_table k d h) ∙ ap (λ w. get_or table.columns w []) (all.in_order k d h)
      ∙ get_or_default table.columns k [] e (omega (arith, all.each, rings.1)))
      ∙ same_map table.columns

  pub AreLinked-seats : AreLinked seats
  AreLinked-seats = record {
    in_order = all.in_order;
    wide = λ k d below.
        let row : length (out_rings (get_or seats k d)) ≡ limits.shards =
        ap length (sym (get_or-map out_rings seats k d [] below) ∙ ap (λ t. get_or t k []) rows_are)
        ∙ All-get_or (λ (l : List Ring). length l ≡ limits.shards) table.rows k [] (omega (arith, all.each, rings.0)) rings.2
        in
        let column : length (in_rings (get_or seats k d)) ≡ limits.shards =
        ap length (sym (get_or-map in_rings seats k d [] below) ∙ ap (λ t. get_or t k []) columns_are)
        ∙ All-get_or (λ (l : List Ring). length l ≡ limits.shards) table.columns k [] (omega (arith, all.each, rings.1)) rings.3
        in (
          sym (length-map (get_or seats k d).outboxes (λ o. o.ring)) ∙ row ∙ sym all.each,
          sym (length-map (get_or seats k d).inboxes (λ i. i.ring)) ∙ column ∙ sym all.each,
        );
    linked = λ w s. ap (λ t. cell t w s) rows_are ∙ rings.4 w s ∙ sym (ap (λ t. cell t s w) columns_are);
  }

-- a worker's new seat: its place and its rings, which have carried no key
pub record IsNewSeat (limits : Limits) (table : Table) (worker : ℕ) (seat : SeatState) : Type 0 where
  pub worker_is : seat.worker ≡ worker
  pub table_is : seat.table ≡ table
  pub rings : HasItsRings seat
  pub unsent : AreFreshOutboxes limits.ring_capacity seat.outboxes
  pub untaken : AreFreshInboxes seat.inboxes

-- all new seats of a table
pub AreSeatsOf-new : (limits : Limits) (table : Table) (seats : List SeatState) → length seats ≡ limits.shards
    → ((k : ℕ) (d : SeatState) → k < limits.shards → IsNewSeat limits table k (get_or seats k d)) → AreSeatsOf limits table seats
AreSeatsOf-new limits table seats long new = record {
  each = long;
  in_order = λ k d h. (new k d (omega (arith, long))).worker_is;
  of_table = λ k d h. (new k d (omega (arith, long))).table_is;
}

-- seats of the same workers and the same arena
pub AreSeatsOf-from : (limits : Limits) (table : Table) (a b : List SeatState) → map (λ (s : SeatState). s.worker) b ≡ map (λ (s : SeatState). s.worker) a
    → map (λ (s : SeatState). s.table) b ≡ map (λ (s : SeatState). s.table) a → AreSeatsOf limits table a → AreSeatsOf limits table b
AreSeatsOf-from limits table a b workers tables all =
    let long : length b ≡ length a = same_length (λ (s : SeatState). s.worker) a b workers in
    record {
      each = long ∙ all.each;
      in_order = λ w d below.
          sym (get_or-map (λ (s : SeatState). s.worker) b w d 0 below) ∙ ap (λ l. get_or l w 0) workers
          ∙ get_or-map (λ (s : SeatState). s.worker) a w d 0 (omega arith) ∙ all.in_order w d (omega arith);
      of_table = λ k d below.
          sym (get_or-map (λ (s : SeatState). s.table) b k d table below) ∙ ap (λ l. get_or l k table) tables
          ∙ get_or-map (λ (s : SeatState). s.table) a k d table (omega arith) ∙ all.of_table k d (omega arith);
    }

pub AreSeatsOf-same : (limits : Limits) (table : Table) (a b : List SeatState) → map sending_side b ≡ map sending_side a → map (λ (s : SeatState). s.table) b ≡ map (λ (s : SeatState). s.table) a
    → AreSeatsOf limits table a → AreSeatsOf limits table b
AreSeatsOf-same limits table a b sending tables all = AreSeatsOf-from limits table a b (same_workers a b sending) tables all

-- one seat that keeps its ends leaves all the arena's
pub AreSeatsOf-set : (limits : Limits) (table : Table) (seats : List SeatState) (i : ℕ) (x d : SeatState) → KeepsEnds (get_or seats i d) x
    → AreSeatsOf limits table seats → AreSeatsOf limits table (slice_set seats i x)
AreSeatsOf-set limits table seats i x d keeps all =
    AreSeatsOf-from limits table seats (slice_set seats i x) (map-set_same (λ (s : SeatState). s.worker) seats i x d keeps.worker_is)
    (map-set_same (λ (s : SeatState). s.table) seats i x d keeps.table_is) all

-- what is the same of each element stays so where another list has the same, as a list of workers that threads give back
pub All-same : {A B C : Type 0} (f : A → C) (g : B → C) (before : List A) (after : List B) (x : C) → map g after ≡ map f before → All (λ a. f a ≡ x) before → All (λ b. g b ≡ x) after
All-same f g before after x same all = λ k d below.
    let long : length after ≡ length before = sym (length-map after g) ∙ ap length same ∙ length-map before f in
    with_first (g (get_or after k d) ≡ x) before k (omega arith)
    (λ e. sym (get_or-map g after k d x below) ∙ ap (λ l. get_or l k x) same ∙ get_or-map f before k e x (omega arith) ∙ all k e (omega arith))

-- the rings of new ends
pub made_table : (rows : List (Vec Sending Global)) (columns : List (Vec Taking Global)) (n capacity : ℕ) → AreNewLinks n n capacity rows columns
    → IsTableOf n (record { rows = outbox_rings rows; columns = inbox_rings columns })
made_table rows columns n capacity made = (
  length-map rows (λ v. map (λ (o : Sending). o.ring) v.items) ∙ made.workers_are,
  length-map columns (λ v. map (λ (i : Taking). i.ring) v.items) ∙ made.shards_are,
  All-map (λ (l : List Ring). length l ≡ n) (λ v. map (λ (o : Sending). o.ring) v.items) rows
      (λ k d h. length-map (get_or rows k d).items (λ o. o.ring) ∙ sym (get_or rows k d).ok.0 ∙ made.rows_are_long k d h),
  All-map (λ (l : List Ring). length l ≡ n) (λ v. map (λ (i : Taking). i.ring) v.items) columns
      (λ k d h. length-map (get_or columns k d).items (λ i. i.ring) ∙ sym (get_or columns k d).ok.0 ∙ made.columns_are_long k d h),
  made.rings_are,
)
