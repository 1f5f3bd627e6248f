-- Counting what is left in the rings of one shard.
use Rattle.std.proofs.Common.{◌≡◌, ℕ, ◌+◌, ◌<◌, ◌≤◌, ◌≢◌, List, [], ◌∷◌, ◌++◌, length, map, get_or, slice_index_or, slice_set, Some, ap, sym, ◌∙◌, refl, arith, below_more}
use Rattle.std.specs.List.{slice_get}
use Rattle.std.proofs.Math.Seq.{map-set_same, get_or-append_seam}
use Rattle.std.proofs.lemmas.Simd.{map-map}
use Rattle.std.proofs.lemmas.Grind.{get_or-set_at, same_number_lists}
use Rattle.std.proofs.lemmas.Option.{slice_get-get_or}
use Rattle.std.proofs.lemmas.List.{get_or-map, get_or-set_other, get_or_append_left, length-map, map-set}
use Rattle.span.specs.declared.key.Key.{Key}
use Rattle.remote_queue.specs.Rings.{Taking, cell}
use Rattle.arena.specs.Seats.{SeatState, SendingSide, known_lists, out_rings, sending_side, sent_lists, taken_lists}
use Rattle.arena.specs.Settled.{taking_side}

-- seats that send alike have the same rings
pub same_out_rings : (a b : List SeatState) → map sending_side b ≡ map sending_side a → map out_rings b ≡ map out_rings a
same_out_rings a b same = sym (map-map (λ (s : SendingSide). s.rings) sending_side b) ∙ ap (map (λ (s : SendingSide). s.rings)) same ∙ map-map (λ (s : SendingSide). s.rings) sending_side a

-- seats that send alike have sent the same
pub same_sent : (a b : List SeatState) → map sending_side b ≡ map sending_side a → map sent_lists b ≡ map sent_lists a
same_sent a b same = sym (map-map (λ (s : SendingSide). s.sent) sending_side b) ∙ ap (map (λ (s : SendingSide). s.sent)) same ∙ map-map (λ (s : SendingSide). s.sent) sending_side a

-- the two ends at hand are of one ring
pub ring_here : (seats seats0 : List SeatState) (inboxes inboxes0 : List Taking) (w shard : ℕ) (x d : SeatState) (i : Taking) → w < length seats
    → w < length inboxes → x ≡ get_or seats w d → i ≡ get_or inboxes w i
    → map sending_side seats ≡ map sending_side seats0 → taking_side inboxes ≡ taking_side inboxes0
    → ((w : ℕ) → cell (map out_rings seats0) w shard ≡ slice_get (map (λ i. i.ring) inboxes0) w) → slice_get (out_rings x) shard ≡ Some i.ring
ring_here seats seats0 inboxes inboxes0 w shard x d i below inside is here sending taking linked =
    let row : slice_index_or (map out_rings seats) w [] ≡ out_rings x = get_or-map out_rings seats w d [] below ∙ ap out_rings (sym is) in
    let long : w < length (map (λ (i : Taking). i.ring) inboxes) = omega (arith, length-map inboxes (λ (i : Taking). i.ring)) in
    ap (λ l. slice_get l shard) (sym row)
    ∙ ap (λ t. cell t w shard) (same_out_rings seats0 seats sending)
    ∙ linked w
    ∙ ap (λ t. slice_get t.rings w) (sym taking)
    ∙ slice_get-get_or (map (λ (i : Taking). i.ring) inboxes) w i.ring long
    ∙ ap Some (get_or-map (λ (i : Taking). i.ring) inboxes w i i.ring inside ∙ ap (λ (i : Taking). i.ring) (sym here))

-- an end changes, and its ring and what was taken stay
pub same_taking : (inboxes : List Taking) (w : ℕ) (after before : Taking) → before ≡ get_or inboxes w before → after.ring ≡ before.ring
    → after.taken ≡ before.taken → taking_side (slice_set inboxes w after) ≡ taking_side inboxes
same_taking inboxes w after before is ring taken =
    let rings = map-set_same (λ (i : Taking). i.ring) inboxes w after before (ring ∙ ap (λ (i : Taking). i.ring) is) in
    let lists = map-set_same (λ (i : Taking). i.taken) inboxes w after before (taken ∙ ap (λ (i : Taking). i.taken) is) in
    rw (rings, lists) refl

module _ (inboxes : List Taking) (w : ℕ) (after : Taking) (inside : w < length inboxes) where
  known_other : (k : ℕ) → k < w → get_or (known_lists (slice_set inboxes w after)) k [] ≡ get_or (known_lists inboxes) k []
  known_other k below = let other : k ≢ w = omega arith in rw (map-set (λ (i : Taking). i.known) inboxes w after) (get_or-set_other (known_lists inboxes) w k after.known [] other)

  known_here : get_or (known_lists (slice_set inboxes w after)) w [] ≡ after.known
  known_here =
      let long : w < length (known_lists inboxes) = omega (arith, length-map inboxes (λ (i : Taking). i.known)) in
      rw (map-set (λ (i : Taking). i.known) inboxes w after) (get_or-set_at (known_lists inboxes) w w after.known [] refl long)

  -- one more ring is counted
  pub counted_more : (counts : List ℕ) (n : ℕ) → length counts ≡ w → n ≡ length after.known → ((k : ℕ) → k < w → get_or counts k 0 ≡ length (get_or (known_lists inboxes) k []))
      → (k : ℕ) → k < w + 1 → get_or (counts ++ n ∷ []) k 0 ≡ length (get_or (known_lists (slice_set inboxes w after)) k [])
  counted_more counts n long is were =
      let seam : get_or (counts ++ n ∷ []) w 0 ≡ n = ap (λ k. get_or (counts ++ n ∷ []) k 0) (sym long) ∙ get_or-append_seam counts n [] 0 in
      below_more _ _ (λ k h. get_or_append_left counts (n ∷ []) 0 k (omega arith) ∙ were k h ∙ ap length (sym (known_other k h))) (seam ∙ is ∙ ap length (sym known_here))

  pub few_more : (counts : List ℕ) (n most : ℕ) → length counts ≡ w → n ≤ most → ((k : ℕ) → k < w → get_or counts k 0 ≤ most) → (k : ℕ) → k < w + 1 → get_or (counts ++ n ∷ []) k 0 ≤ most
  few_more counts n most long fits were =
      let seam : get_or (counts ++ n ∷ []) w 0 ≡ n = ap (λ k. get_or (counts ++ n ∷ []) k 0) (sym long) ∙ get_or-append_seam counts n [] 0 in
      below_more _ _ (λ k h. let left : get_or (counts ++ n ∷ []) k 0 ≡ get_or counts k 0 = get_or_append_left counts (n ∷ []) 0 k (omega arith) in rw left (were k h)) (rw seam fits)

  -- of one more ring all that is left is known
  pub whole_more : (sent taken : ℕ → List Key) → sent w ≡ taken w ++ after.known → ((k : ℕ) → k < w → sent k ≡ taken k ++ get_or (known_lists inboxes) k [])
      → (k : ℕ) → k < w + 1 → sent k ≡ taken k ++ get_or (known_lists (slice_set inboxes w after)) k []
  whole_more sent taken here were =
      below_more _ _ (λ k h. were k h ∙ ap (λ l. taken k ++ l) (sym (known_other k h))) (here ∙ ap (λ l. taken w ++ l) (sym known_here))

-- the counts, as far as there are rings
pub all_counted : (counts : List ℕ) (inboxes : List Taking) → length counts ≡ length inboxes
    → ((k : ℕ) → k < length inboxes → get_or counts k 0 ≡ length (get_or (known_lists inboxes) k [])) → counts ≡ map length (known_lists inboxes)
all_counted counts inboxes long each =
    let wide : length (known_lists inboxes) ≡ length inboxes = length-map inboxes (λ (i : Taking). i.known) in
    same_number_lists counts (map length (known_lists inboxes)) (long ∙ sym (length-map (known_lists inboxes) length ∙ wide))
    (λ k h. each k (omega arith) ∙ sym (get_or-map length (known_lists inboxes) k [] 0 (omega (arith, wide))))

-- what was sent on the ring at hand
pub whole_here : (seats seats0 : List SeatState) (inboxes inboxes0 : List Taking) (w shard : ℕ) (x d : SeatState) (before after : Taking) → w < length seats
    → w < length inboxes → x ≡ get_or seats w d → before ≡ get_or inboxes w before
    → map sending_side seats ≡ map sending_side seats0 → taking_side inboxes ≡ taking_side inboxes0 → after.taken ≡ before.taken → slice_index_or (sent_lists x) shard [] ≡ after.taken ++ after.known
    → slice_index_or (slice_index_or (map sent_lists seats0) w []) shard [] ≡ slice_index_or (taken_lists inboxes0) w [] ++ after.known
whole_here seats seats0 inboxes inboxes0 w shard x d before after below inside is here sending taking kept sent =
    let row : slice_index_or (map sent_lists seats) w [] ≡ sent_lists x = get_or-map sent_lists seats w d [] below ∙ ap sent_lists (sym is) in
    let old : slice_index_or (taken_lists inboxes) w [] ≡ before.taken = get_or-map (λ (i : Taking). i.taken) inboxes w before [] inside ∙ ap (λ (i : Taking). i.taken) (sym here) in
    ap (λ t. slice_index_or (slice_index_or t w []) shard []) (sym (same_sent seats0 seats sending))
    ∙ ap (λ l. slice_index_or l shard []) row
    ∙ sent
    ∙ ap (λ l. l ++ after.known) (kept ∙ sym old ∙ ap (λ t. slice_index_or t.taken w []) taking)
