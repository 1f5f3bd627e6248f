-- Ring after ring, and seat after seat, of which all that is known is taken.
use Rattle.std.proofs.Common.{◌≡◌, ℕ, zero, suc, ◌+◌, ◌<◌, List, [], ◌∷◌, ◌++◌, length, map, take, get_or, slice_set, ap, sym, subst, ◌∙◌, refl, inl, inr, arith, add-one, take-suc}
use Rattle.std.proofs.lemmas.Bool.{cases_eq}
use Rattle.std.proofs.lemmas.Grind.{get_or-set_at}
use Rattle.std.proofs.lemmas.List.{get_or_default, get_or-map, get_or-set_other, length-map}
use Rattle.span.specs.declared.receipt.Receipt.{Receipt}
use Rattle.remote_queue.specs.Rings.{Taking}
use Rattle.arena.specs.Receipts.{AddsFrees, joined}
use Rattle.arena.specs.Seats.{AreLinked, SeatState, in_rings, known_lists, sending_side, sent_on, taken_lists, taken_on}
use Rattle.arena.specs.Settled.{AreCounted, AreEmptied, AreSameSeats, known_by, taken_with_known}
use Rattle.arena.proofs.CountedRings.{same_out_rings}
use Rattle.arena.proofs.Frees.{AddsFrees-more, joined-push}
use Rattle.arena.proofs.Made.{with_first}
use Rattle.arena.proofs.Sending.{KeepPlaces-more, KeepPlaces-same}
use Rattle.arena.proofs.Linking.{AreLinked-from, same_in_rings, same_taken, same_workers}

-- one ring more, of which all that is known is taken
pub settled_more : {worker section : ℕ} (before : List Taking) (n : ℕ) (i d : Taking) (r0 r r' : List Receipt) → n < length before → i ≡ get_or before n d
    → AddsFrees worker section (joined (take n (known_lists before))) r0 r → AddsFrees worker section i.known r r' → AddsFrees worker section (joined (take (n + 1) (known_lists before))) r0 r'
settled_more {worker = worker} {section = section} before n i d r0 r r' below is was one =
    let known = known_lists before in
    let here : get_or known n [] ≡ i.known = get_or-map (λ (i : Taking). i.known) before n d [] below ∙ ap (λ (i : Taking). i.known) (sym is) in
    let long : n < length known = omega (arith, length-map before (λ (i : Taking). i.known)) in
    let more : take (n + 1) known ≡ take n known ++ i.known ∷ [] = rw add-one (take-suc known n [] long ∙ ap (λ k. take n known ++ k ∷ []) here) in
    rw more (subst (λ k. AddsFrees worker section k r0 r') (sym (joined-push (take n known) i.known)) (AddsFrees-more (joined (take n known)) i.known r0 r r' was one))

-- the count of a ring of which nothing was taken yet
pub counted_here : (before : List Taking) (counts : List ℕ) (n : ℕ) (i : Taking) → counts ≡ map length (known_lists before) → n < length counts
    → i ≡ get_or before n i → (n < length before) × (get_or counts n 0 ≡ length i.known)
counted_here before counts n i are below is =
    let long : n < length before = omega (arith, ap length are, length-map (known_lists before) length, length-map before (λ (i : Taking). i.known)) in
    let inside : n < length (known_lists before) = omega (arith, length-map before (λ (i : Taking). i.known)) in
    (long, rw are (get_or-map length (known_lists before) n [] 0 inside ∙ ap length (get_or-map (λ (i : Taking). i.known) before n i [] long ∙ ap (λ (i : Taking). i.known) (sym is))))

-- one entry more of a list is what another list says
pub set_each : {A B : Type 0} (f g : A → B) (old now : List A) (n : ℕ) (x d0 : A) → n < length now → n < length old → f x ≡ g (get_or old n d0)
    → ((k : ℕ) (d e : A) → k < n → f (get_or now k d) ≡ g (get_or old k e)) → (k : ℕ) (d e : A) → k < n + 1 → f (get_or (slice_set now n x) k d) ≡ g (get_or old k e)
set_each f g old now n x d0 below within one were k d e h =
    elim (cases_eq k n) [
      | inl here ↦ ap f (get_or-set_at now n k x d here below) ∙ one ∙ ap g (sym (ap (λ k. get_or old k e) here ∙ get_or_default old n e d0 within))
      | inr other ↦ ap f (get_or-set_other now n k x d other) ∙ were k d e (omega arith)
    ]

-- what was taken with what is known, ring by ring
known_taken : (inboxes : List Taking) (w : ℕ) → get_or (taken_with_known inboxes) w [] ≡ get_or (taken_lists inboxes) w [] ++ get_or (known_lists inboxes) w []
known_taken [] w = refl
known_taken (x ∷ xs) zero = refl
known_taken (x ∷ xs) (suc w) = known_taken xs w

-- the same, seat by seat
known_taken_on : (seats : List SeatState) (s w : ℕ)
    → get_or (get_or (map (λ seat. taken_with_known seat.inboxes) seats) s []) w [] ≡ taken_on seats s w ++ get_or (known_by seats s) w []
known_taken_on [] s w = refl
known_taken_on (x ∷ xs) zero w = known_taken x.inboxes w
known_taken_on (x ∷ xs) (suc s) w = known_taken_on xs s w

-- where all that was counted is taken, all that was sent is taken
pub emptied_from : {C : Type 0} (row : C → List ℕ) (a b c : List SeatState) (counts : List C) → length counts ≡ length a → AreSameSeats a b
    → ((s : ℕ) (d : C) → s < length a → AreCounted a b s (row (get_or counts s d)))
    → map sending_side c ≡ map sending_side b → map (λ (s : SeatState). s.table) c ≡ map (λ (s : SeatState). s.table) b
    → map (λ (s : SeatState). s.outboxes) c ≡ map (λ (s : SeatState). s.outboxes) b → map in_rings c ≡ map in_rings b
    → map (λ seat. taken_lists seat.inboxes) c ≡ map (λ seat. taken_with_known seat.inboxes) b → AreEmptied a c
emptied_from row a b c counts long same counted sending tables outboxes rings took = record {
  places = KeepPlaces-more a b c same.places (KeepPlaces-same b c outboxes);
  tables = tables ∙ same.tables;
  sending = sending ∙ same.sending;
  rings = rings ∙ same_in_rings a b same.taking;
  taken = λ w s h below.
      ap (λ t. get_or (get_or t s []) w []) took ∙ known_taken_on b s w ∙ ap (λ t. get_or (get_or t s []) w [] ++ get_or (known_by b s) w []) (same_taken a b same.taking)
      ∙ sym (with_first (sent_on a w s ≡ taken_on a s w ++ get_or (known_by b s) w []) counts s (omega arith) (λ d. (counted s d below).whole w h));
}

-- seats whose rings were emptied are linked as before
pub AreLinked-emptied : (a c : List SeatState) → AreEmptied a c → AreLinked a → AreLinked c
AreLinked-emptied a c empty linked = AreLinked-from a c (same_workers a c empty.sending) (same_out_rings a c empty.sending) empty.rings linked
