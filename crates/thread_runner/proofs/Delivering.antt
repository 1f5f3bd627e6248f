-- What was taken from rings that are empty is what was sent on them.
use Rattle.thread_runner.proofs.Names.{zero, suc, ◌≡◌, ◌∙◌, ◌<◌, ◌++◌, ℕ, List, [], ◌∷◌, Some, ap, append-nil, arith, length, map, refl, slice_get, slice_index_or, subst, sym, All, length-map, same_Some, slice_get_within, before-map, Key, Receipt, Sending, Taking, AreLinked, SeatState, sent_lists, sent_on, taken_lists, taken_on, AreDelivered, Carried, carried_by}
use Rattle.arena.specs.Settled.{IsSettled}

-- a list that has an element has one to stand for another
pub with_element : {X G : Type 0} (xs : List X) (k : ℕ) → k < length xs → (X → G) → G
with_element [] k within give = absurd (omega arith)
with_element (x ∷ xs) k within give = give x

each_at : {X : Type 0} (P : X → Type 0) (xs : List X) (k : ℕ) (x : X) → All P xs → slice_get xs k ≡ Some x → P x
each_at P [] k x all there = absurd cc
each_at P (y ∷ xs) zero x all there = subst P (same_Some _ _ there) (all 0 y (omega arith))
each_at P (y ∷ xs) (suc k) x all there = each_at P xs k x (λ j d within. all (suc j) d (omega arith)) there

image_at : {X Y : Type 0} (f : X → List Y) (xs : List X) (k : ℕ) (x : X) → slice_get xs k ≡ Some x → slice_index_or (map f xs) k [] ≡ f x
image_at f [] k x there = absurd cc
image_at f (y ∷ xs) zero x there = ap f (same_Some _ _ there)
image_at f (y ∷ xs) (suc k) x there = image_at f xs k x there

no_length : {X : Type 0} (xs : List X) → length xs ≡ 0 → xs ≡ []
no_length [] none = refl
no_length (x ∷ xs) none = absurd (omega arith)

-- where a ring had no key left, none was taken from it at the end
none_at : (keys : List (List Key)) (from : ℕ) → slice_index_or (map length keys) from 0 ≡ 0 → slice_index_or keys from [] ≡ []
none_at [] from none = refl
none_at (k ∷ keys) zero none = no_length k none
none_at (k ∷ keys) (suc from) none = none_at keys from none

-- numbers that are all 0, also past their end
pub all_none : (counts : List ℕ) → All (λ count. count ≡ 0) counts → (from : ℕ) → slice_index_or counts from 0 ≡ 0
all_none [] all from = refl
all_none (count ∷ counts) all zero = all 0 0 (omega arith)
all_none (count ∷ counts) all (suc from) = all_none counts (λ k d within. all (suc k) d (omega arith)) from

-- a shard's rings were settled, and had no key left
pub record WereEmpty (seats : List SeatState) (shard : ℕ) : Type 0 where
  pub section : ℕ
  pub counts : List ℕ
  pub before : List Receipt
  pub after : List Receipt
  pub settled : IsSettled seats shard section counts before after
  pub none : (from : ℕ) → slice_index_or counts from 0 ≡ 0

taken-all : (seats : List SeatState) (shard from : ℕ) → WereEmpty seats shard → from < length seats → taken_on seats shard from ≡ sent_on seats from shard
taken-all seats shard from empty below =
    let left = none_at empty.settled.keys from (sym (ap (λ l. slice_index_or l from 0) empty.settled.counted) ∙ empty.none from) in
    sym (empty.settled.whole from below ∙ ap (λ ks. taken_on seats shard from ++ ks) left ∙ append-nil (taken_on seats shard from))

pub AreDelivered-settled : (seats : List SeatState) → AreLinked seats → ((shard : ℕ) → shard < length seats → WereEmpty seats shard) → AreDelivered (length seats) (map carried_by seats)
AreDelivered-settled seats linked empty = record {
  each_thread = length-map seats carried_by;
  each_ring = λ thread its at.
      let (seat, sits, same) = before-map carried_by seats thread its at in
      let wide = each_at (λ (s : SeatState). (length s.outboxes ≡ length seats) × (length s.inboxes ≡ length seats)) seats thread seat linked.wide sits in (
        ap (λ (c : Carried). length c.sent) (sym same) ∙ length-map seat.outboxes (λ (o : Sending). o.sent) ∙ wide.0,
        ap (λ (c : Carried). length c.taken) (sym same) ∙ length-map seat.inboxes (λ (i : Taking). i.taken) ∙ wide.1,
      );
  whole = λ from to sender taker at there.
      let (sends, sits, same) = before-map carried_by seats from sender at in
      let (takes, stands, alike) = before-map carried_by seats to taker there in
      ap (λ (c : Carried). slice_index_or c.taken from []) (sym alike) ∙ ap (λ l. slice_index_or l from []) (sym (image_at (λ (s : SeatState). taken_lists s.inboxes) seats to takes stands))
      ∙ taken-all seats to from (empty to (slice_get_within seats to takes stands)) (slice_get_within seats from sends sits)
      ∙ ap (λ l. slice_index_or l to []) (image_at sent_lists seats from sends sits) ∙ ap (λ (c : Carried). slice_index_or c.sent to []) same;
}
