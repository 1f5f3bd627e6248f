-- The places of the lines, one line more.
use Rattle.trace_text.proofs.Names.{◌≡◌, ℕ, zero, suc, List, [], ◌∷◌, ◌++◌, take, Option, Some, None, Ok, Err, slice_get, sym, ap, ◌∙◌, append_assoc, place_at, places_from, unless, Cause, Line, rules}
use Rattle.std.proofs.lemmas.List.{append-nil}

places_from-push : (before ls : List Line) (l : Line) → places_from before (ls ++ l ∷ []) ≡ places_from before ls ++ place_at (before ++ ls) l ∷ []
places_from-push before [] l = ap (λ b. place_at b l ∷ []) (sym (append-nil before))
places_from-push before (m ∷ ms) l = ap (λ ps. place_at before m ∷ ps)
    (places_from-push (before ++ m ∷ []) ms l ∙ ap (λ b. places_from (before ++ m ∷ []) ms ++ place_at b l ∷ []) (append_assoc before (m ∷ []) ms))

pub places-push : (places : List ℕ) (ls : List Line) (l : Line) (place : ℕ) → places ≡ places_from [] ls → place ≡ place_at ls l → places ++ place ∷ [] ≡ places_from [] (ls ++ l ∷ [])
places-push places ls l place placed is = ap (λ ps. ps ++ place ∷ []) placed ∙ ap (λ p. places_from [] ls ++ p ∷ []) is ∙ sym (places_from-push [] ls l)

pub slice_get-places : (before ls : List Line) (n : ℕ) (l : Line) → slice_get ls n ≡ Some l → slice_get (places_from before ls) n ≡ Some (place_at (before ++ take n ls) l)
slice_get-places before [] n l here = absurd cc
slice_get-places before (m ∷ ms) zero l here = let same : m ≡ l = cc in ap (λ x. Some (place_at before x)) same ∙ ap (λ b. Some (place_at b l)) (sym (append-nil before))
slice_get-places before (m ∷ ms) (suc n) l here = slice_get-places (before ++ m ∷ []) ms n l here ∙ ap (λ b. Some (place_at b l)) (append_assoc before (m ∷ []) (take n ms))

-- a place comes where no cause holds
pub unless-ok : (o : Option Cause) (place found : ℕ) → unless o place ≡ Ok found → (o ≡ None) × (found ≡ place)
unless-ok o place found e = search rules

-- and else the cause
pub unless-err : (o : Option Cause) (place : ℕ) (said : Cause) → unless o place ≡ Err said → o ≡ Some said
unless-err o place said e = search rules
