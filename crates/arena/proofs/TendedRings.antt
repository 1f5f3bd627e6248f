-- Ring after ring.
use Rattle.std.proofs.Common.{◌≡◌, ℕ, zero, suc, sum_by, ◌+◌, ◌<◌, ◌≤◌, List, [], ◌∷◌, ◌++◌, length, get_or, slice_set, take, ap, sym, subst, ◌∙◌, refl, inl, inr, arith, length-append, append_assoc}
use Rattle.std.proofs.Math.Seq.{map-set_same, get_or-append_seam}
use Rattle.std.proofs.lemmas.Bool.{cases_eq, cases_lt}
use Rattle.std.proofs.lemmas.Grind.{get_or-set_at}
use Rattle.std.proofs.lemmas.List.{append-nil, get_or-map, get_or-set_other, get_or_append_left, get_or_past, length-map, map-set}
use Rattle.std.proofs.lemmas.List.Elements.{All-push}
use Rattle.std.proofs.lemmas.List.Sums.{sum_by-cons}
use Rattle.span.specs.declared.receipt.Receipt.{Receipt}
use Rattle.remote_queue.specs.Rings.{Taking}
use Rattle.arena.specs.Receipts.{AddsFrees, joined}
use Rattle.arena.specs.Seats.{taken_lists}
use Rattle.arena.specs.Tended.{AreRingsTended, IsRingTended}
use Rattle.arena.proofs.Frees.{AddsFrees-none, AddsFrees-more, joined-push}

-- the sum goes on by one entry, which is looked at
pub known_more : (f : Taking → ℕ) (inboxes : List Taking) (n : ℕ) (after : Taking) → n < length inboxes → sum_by f (take (n + 1) (slice_set inboxes n after)) ≡ sum_by f (take n inboxes) + f after
known_more f (x ∷ xs) zero after below = omega (arith, sum_by-cons f after (take 0 xs))
known_more f (x ∷ xs) (suc n) after below =
    let more = known_more f xs n after (omega arith) in
    let next : suc n + 1 ≡ suc (n + 1) = omega arith in
    rw next (sum_by-cons f x (take (n + 1) (slice_set xs n after)) ∙ omega (arith, more, sum_by-cons f x (take n xs)))
known_more f [] n after below = absurd (omega arith)

-- after a list of n entries, the next one is the last of the longer list, and the others stay
push_other : {T : Type 0} (rows : List (List T)) (row : List T) (n w : ℕ) → length rows ≡ n → (w ≡ n → ⊥) → get_or (rows ++ row ∷ []) w [] ≡ get_or rows w []
push_other rows row n w long other = elim (cases_lt w n) [
  | inl below ↦ get_or_append_left rows (row ∷ []) [] w (omega arith)
  | inr past ↦ get_or_past (rows ++ row ∷ []) w [] (omega (arith, length-append rows (row ∷ []))) ∙ sym (get_or_past rows w [] (omega arith))
]

push_here : {T : Type 0} (rows : List (List T)) (row : List T) (n w : ℕ) → length rows ≡ n → w ≡ n → get_or (rows ++ row ∷ []) w [] ≡ row
push_here rows row n w long here = let at : w ≡ length rows = omega arith in rw at (get_or-append_seam rows row [] [])

module _ {worker section : ℕ} where
  -- before the first key of a ring
  pub ring_none : (inbox : Taking) (receipts : List Receipt) → IsRingTended worker section 0 inbox inbox receipts receipts
  ring_none inbox receipts = record { keys = []; count_is = refl; ring_is = refl; taken = sym (append-nil inbox.taken); freed = AddsFrees-none receipts }

  -- some keys, and then more
  pub ring_more : (before mid after : Taking) (n h : ℕ) (r0 r r' : List Receipt) → IsRingTended worker section n before mid r0 r → IsRingTended worker section h mid after r r'
      → IsRingTended worker section (n + h) before after r0 r'
  ring_more before mid after n h r0 r r' a b = record {
    keys = a.keys ++ b.keys;
    count_is = omega (arith, a.count_is, b.count_is, length-append a.keys b.keys);
    ring_is = b.ring_is ∙ a.ring_is;
    taken = b.taken ∙ ap (λ l. l ++ b.keys) a.taken ∙ append_assoc before.taken a.keys b.keys;
    freed = AddsFrees-more a.keys b.keys r0 r r' a.freed b.freed;
  }

module _ {most worker section : ℕ} where
  -- before the first ring
  pub tended_none : (inboxes : List Taking) (receipts : List Receipt) → AreRingsTended most worker section 0 inboxes inboxes receipts receipts 0
  tended_none inboxes receipts = record {
    keys = [];
    each_ring = refl;
    rings_are = refl;
    taken = λ w. sym (append-nil (get_or (taken_lists inboxes) w []));
    few = λ k d h. absurd (omega arith);
    freed = AddsFrees-none receipts;
    total_is = refl;
  }

  module _ (before inboxes : List Taking) (inbox d : Taking) (n total count : ℕ) (r0 r r' : List Receipt) (below : n < length inboxes)
      (was : AreRingsTended most worker section n before inboxes r0 r total) (fits : count ≤ most) (one : IsRingTended worker section count (get_or inboxes n d) inbox r r') where
    taken_more : (w : ℕ) → get_or (taken_lists (slice_set inboxes n inbox)) w [] ≡ get_or (taken_lists before) w [] ++ get_or (was.keys ++ one.keys ∷ []) w []
    taken_more w =
        let set = map-set (λ (i : Taking). i.taken) inboxes n inbox in
        let long : n < length (taken_lists inboxes) = omega (arith, length-map inboxes (λ (i : Taking). i.taken)) in
        elim (cases_eq w n) [
          | inl here ↦
              let none : get_or was.keys w [] ≡ [] = get_or_past was.keys w [] (omega (arith, was.each_ring)) in
              let old : (get_or inboxes n d).taken ≡ get_or (taken_lists inboxes) w [] = rw here (sym (get_or-map (λ (i : Taking). i.taken) inboxes n d [] below)) in
              let first : get_or (taken_lists inboxes) w [] ≡ get_or (taken_lists before) w [] = was.taken w ∙ rw none (append-nil (get_or (taken_lists before) w [])) in
              rw (set, push_here was.keys one.keys n w was.each_ring here) (get_or-set_at (taken_lists inboxes) n w inbox.taken [] here long ∙ one.taken ∙ ap (λ l. l ++ one.keys) (old ∙ first))
          | inr other ↦ rw (set, push_other was.keys one.keys n w was.each_ring other) (get_or-set_other (taken_lists inboxes) n w inbox.taken [] other ∙ was.taken w)
        ]

    -- one ring more
    pub tended_more : AreRingsTended most worker section (n + 1) before (slice_set inboxes n inbox) r0 r' (total + count)
    tended_more = record {
      keys = was.keys ++ one.keys ∷ [];
      each_ring = omega (arith, was.each_ring, length-append was.keys (one.keys ∷ []));
      rings_are = map-set_same (λ i. i.ring) inboxes n inbox d one.ring_is ∙ was.rings_are;
      taken = taken_more;
      few = All-push (λ ks. length ks ≤ most) was.keys one.keys was.few (omega (arith, one.count_is));
      freed = subst (λ k. AddsFrees worker section k r0 r') (sym (joined-push was.keys one.keys)) (AddsFrees-more (joined was.keys) one.keys r0 r r' was.freed one.freed);
      total_is = rw (joined-push was.keys one.keys) (omega (arith, was.total_is, one.count_is, length-append (joined was.keys) one.keys));
    }
