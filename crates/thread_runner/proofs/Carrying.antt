-- What a thread's rings carry, call after call.
use Rattle.thread_runner.proofs.Names.{get_or-set_other, get_or-set_same, zero, suc, ◌≡◌, ◌∙◌, ◌<◌, ◌++◌, ◌==◌, ℕ, List, [], ◌∷◌, ap, append-nil, append_assoc, arith, length, map, refl, slice_index_or, slice_set, subst, sym, rules, if◌then◌else◌, filter, All, AllByRecursion, IsPermutation, eqb_tells, length-map, filter-append, IsPermutation-append_comm, IsPermutation-append_left, IsPermutation-append_right, IsPermutation-refl, IsPermutation-trans, Key, Receipt, AreFreshInboxes, AreFreshOutboxes, Sending, Taking, joined, KeepsEnds, SeatState, sending_side, sent_lists, taken_lists, IsTended, Carried, carried_by, is_of_shard, keys_of, Carries, HaveNothing}
use Rattle.arena.specs.Delays.{KeepsSeat}

-- nothing was sent or taken
pub Carries-none : (before after : Carried) → after ≡ before → Carries [] [] before after
Carries-none before after same = search (rules, slice_index_or, append-nil, IsPermutation-refl)

-- first some keys, and then others
pub Carries-append : (sent more taken again : List Key) (before mid after : Carried) → Carries sent taken before mid → Carries more again mid after
    → Carries (sent ++ more) (taken ++ again) before after
Carries-append sent more taken again before mid after first second = record {
  sends = λ shard. second.sends shard ∙ ap (λ ks. ks ++ filter (is_of_shard shard) more) (first.sends shard)
      ∙ append_assoc (slice_index_or before.sent shard []) (filter (is_of_shard shard) sent) (filter (is_of_shard shard) more)
      ∙ ap (λ ks. slice_index_or before.sent shard [] ++ ks) (sym (filter-append (is_of_shard shard) sent more));
  takes = IsPermutation-trans _ _ _ second.takes
      (subst (IsPermutation (joined mid.taken ++ again)) (append_assoc (joined before.taken) taken again)
      (IsPermutation-append_left again (joined mid.taken) (joined before.taken ++ taken) first.takes));
}

-- a call of a seat that sends and takes no key
pub carried-kept : (old new : SeatState) → KeepsSeat old new → carried_by new ≡ carried_by old
carried-kept old new kept = λ i. record { sent = kept.sent_are i; taken = taken_lists (kept.inboxes_are i) }

-- a key that its ring did not take
pub carried-unsent : (old new : SeatState) → sent_lists new ≡ sent_lists old → new.inboxes ≡ old.inboxes → carried_by new ≡ carried_by old
carried-unsent old new sent inboxes = λ i. record { sent = sent i; taken = taken_lists (inboxes i) }

-- a key is sent on one ring
sent_at : (lists : List (List Key)) (place shard : ℕ) (key : Key) → place < length lists
    → slice_index_or (slice_set lists place (slice_index_or lists place [] ++ key ∷ [])) shard [] ≡ slice_index_or lists shard [] ++ (if place == shard then key ∷ [] else [])
sent_at lists place shard key below = search (rules, slice_index_or, eqb_tells, slice_set, get_or-set_same, get_or-set_other, append-nil)

pub Carries-sent : (key : Key) (old new : SeatState) → key.span.shard < length old.outboxes
    → sent_lists new ≡ slice_set (sent_lists old) key.span.shard (slice_index_or (sent_lists old) key.span.shard [] ++ key ∷ []) → new.inboxes ≡ old.inboxes
    → Carries (key ∷ []) [] (carried_by old) (carried_by new)
Carries-sent key old new below sent inboxes = search (rules, append-nil, length-map, slice_index_or, sent_at, IsPermutation-refl)

-- of four lists in a row, those in the middle change places
between : (a b c d : List Key) → IsPermutation ((a ++ b) ++ (c ++ d)) ((a ++ c) ++ (b ++ d))
between a b c d =
    let left : (a ++ b) ++ (c ++ d) ≡ a ++ ((b ++ c) ++ d) = append_assoc a b (c ++ d) ∙ ap (λ l. a ++ l) (sym (append_assoc b c d)) in
    let right : (a ++ c) ++ (b ++ d) ≡ a ++ ((c ++ b) ++ d) = append_assoc a c (b ++ d) ∙ ap (λ l. a ++ l) (sym (append_assoc c b d)) in
    subst (λ l. IsPermutation l ((a ++ c) ++ (b ++ d))) (sym left)
    (subst (IsPermutation (a ++ ((b ++ c) ++ d))) (sym right)
    (IsPermutation-append_right a ((b ++ c) ++ d) ((c ++ b) ++ d) (IsPermutation-append_left d (b ++ c) (c ++ b) (IsPermutation-append_comm b c))))

-- each of some lists goes on by some keys
joined-more : (after before keys : List (List Key)) → length after ≡ length before → length keys ≡ length before
    → ((from : ℕ) → slice_index_or after from [] ≡ slice_index_or before from [] ++ slice_index_or keys from []) → IsPermutation (joined after) (joined before ++ joined keys)
joined-more [] [] [] same wide each = IsPermutation-refl []
joined-more (a ∷ after) (b ∷ before) (k ∷ keys) same wide each =
    let first : a ≡ b ++ k = each 0 in
    let rest = joined-more after before keys (omega arith) (omega arith) (λ from. each (suc from)) in
    subst (λ l. IsPermutation (l ++ joined after) ((b ++ joined before) ++ (k ++ joined keys))) (sym first)
    (IsPermutation-trans _ _ _ (IsPermutation-append_right (b ++ k) (joined after) (joined before ++ joined keys) rest) (between b k (joined before) (joined keys)))
joined-more after before keys same wide each = absurd (omega arith)

-- keys are taken from rings, and freed
pub Carries-tended : (most total : ℕ) (old new : SeatState) (before after : List Receipt) (tended : IsTended most old new before after total) → KeepsEnds old new → sending_side new ≡ sending_side old
    → Carries [] (keys_of tended.freed.added) (carried_by old) (carried_by new)
Carries-tended most total old new before after tended ends sending = search (rules, length-map, slice_index_or, append-nil, joined-more)

-- fresh rings carried nothing
none_sent : (capacity : ℕ) (outboxes : List Sending) → AreFreshOutboxes capacity outboxes → (shard : ℕ) → slice_index_or (map (λ (o : Sending). o.sent) outboxes) shard [] ≡ []
none_sent capacity [] all shard = refl
none_sent capacity (o ∷ outboxes) all zero = (all 0 o (omega arith)).0
none_sent capacity (o ∷ outboxes) all (suc shard) = none_sent capacity outboxes (λ k d within. all (suc k) d (omega arith)) shard

none_taken : (inboxes : List Taking) → AreFreshInboxes inboxes → joined (taken_lists inboxes) ≡ []
none_taken [] all = refl
none_taken (i ∷ inboxes) all = ap (λ l. l ++ joined (taken_lists inboxes)) (all 0 i (omega arith)) ∙ none_taken inboxes (λ k d within. all (suc k) d (omega arith))

pub HaveNothing-fresh : (capacity : ℕ) (seats : List SeatState) → All (λ seat. AreFreshOutboxes capacity seat.outboxes × AreFreshInboxes seat.inboxes) seats
    → AllByRecursion (λ seat. HaveNothing (carried_by seat)) seats
HaveNothing-fresh capacity [] all = tt
HaveNothing-fresh capacity (seat ∷ seats) all =
    let here = all 0 seat (omega arith) in
    (record { none_sent = none_sent capacity seat.outboxes here.0; none_taken = none_taken seat.inboxes here.1 }, HaveNothing-fresh capacity seats (λ k d within. all (suc k) d (omega arith)))
