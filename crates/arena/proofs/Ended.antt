-- The end of an arena.
use Rattle.std.proofs.Common.{◌≡◌, ℕ, ◌<◌, List, [], ◌∷◌, ◌++◌, length, map, take, get_or, max, fold, ap, sym, subst, ◌∙◌, refl, arith}
use Rattle.std.proofs.lemmas.Simd.{map-map}
use Rattle.std.proofs.lemmas.List.{get_or-map}
use Rattle.span.specs.declared.receipt.Receipt.{Receipt}
use Rattle.arena.specs.Receipts.{AddsFrees, joined}
use Rattle.arena.specs.Seats.{SeatState, SendingSide, known_lists, sending_side}
use Rattle.arena.specs.Settled.{AreCounted, AreSameSeats, IsSettled, greatest_section}
use Rattle.arena.proofs.Linking.{same_length, settled_from}
use Rattle.arena.proofs.Made.{with_first}

taken_back : {T : Type 0} (xs ys : List T) → take (length xs) (xs ++ ys) ≡ xs
taken_back [] ys = refl
taken_back (x ∷ xs) ys = ap (λ l. x ∷ l) (taken_back xs ys)

-- a slice of a whole list is written back
pub written_back : {T : Type 0} (n : ℕ) (xs ys : List T) → n ≡ length xs → take n (xs ++ ys) ≡ xs
written_back n xs ys is = ap (λ k. take k (xs ++ ys)) is ∙ taken_back xs ys

greatest_from : (most : ℕ) (seats : List SeatState) → fold (λ most (seat : SeatState). max most seat.section) most seats ≡ fold max most (map (λ (seat : SeatState). seat.section) seats)
greatest_from most [] = refl
greatest_from most (x ∷ xs) = greatest_from (max most x.section) xs

-- seats that send alike are in the same sections
pub same_greatest : (a b : List SeatState) → map sending_side b ≡ map sending_side a → greatest_section b ≡ greatest_section a
same_greatest a b same =
    let sections : map (λ (s : SeatState). s.section) b ≡ map (λ (s : SeatState). s.section) a = sym (map-map (λ (s : SendingSide). s.section) sending_side b)
    ∙ ap (map (λ (s : SendingSide). s.section)) same ∙ map-map (λ (s : SendingSide). s.section) sending_side a in
    greatest_from 0 b ∙ ap (fold max 0) sections ∙ sym (greatest_from 0 a)

same_item : {V : Type 0} (items : V → List Receipt) (a b : List V) (s : ℕ) (d : V) → map items b ≡ map items a → s < length a → items (get_or b s d) ≡ items (get_or a s d)
same_item items a b s d same below =
    let long : s < length b = omega (arith, same_length items a b same) in
    sym (get_or-map items b s d [] long) ∙ ap (λ l. get_or l s []) same ∙ get_or-map items a s d [] below

-- every ring is settled
pub all_settled : {V C : Type 0} (items : V → List Receipt) (row : C → List ℕ) (a b : List SeatState) (section : ℕ) (counts : List C) (lists0 lists after : List V)
    → section ≡ greatest_section b → AreSameSeats a b → map items lists ≡ map items lists0 → length lists0 ≡ length a
    → ((s : ℕ) (c : C) → s < length a → AreCounted a b s (row (get_or counts s c)))
    → ((s : ℕ) (x : SeatState) (d e : V) → s < length b → AddsFrees s section (joined (known_lists (get_or b s x).inboxes)) (items (get_or lists s d)) (items (get_or after s e)))
    → (s : ℕ) (c : C) (d e : V) → s < length a → IsSettled a s (greatest_section a) (row (get_or counts s c)) (items (get_or lists0 s d)) (items (get_or after s e))
all_settled items row a b section counts lists0 lists after greatest same listed wide counted freed s c d e below =
    let long : length b ≡ length a = same_length sending_side a b same.sending in
    let inside : s < length b = omega arith in
    let old = same_item items lists0 lists s d listed (omega arith) in
    let sections : section ≡ greatest_section a = greatest ∙ same_greatest a b same.sending in
    with_first _ b s inside (λ x. subst (λ k. IsSettled a s k (row (get_or counts s c)) (items (get_or lists0 s d)) (items (get_or after s e))) sections
    (subst (λ l. IsSettled a s section (row (get_or counts s c)) l (items (get_or after s e))) old
    (settled_from a b s section x (row (get_or counts s c)) (items (get_or lists s d)) (items (get_or after s e)) inside (counted s c below) (freed s x d e inside))))
