-- What a slot holds after the changes of a log.
use Rattle.std.proofs.Common.{◌≡◌, ℕ, ◌+◌, cond, eqb, List, [], ◌∷◌, ◌++◌, take, Some, None, option_map, slice_get, ap, ◌∙◌, rules}
use Rattle.std.proofs.lemmas.Option.{slice_get_within, get_or_from_slice_get}
use Rattle.span.specs.declared.change.Change.{Change}
use Rattle.span.specs.Log.{replay}
use Rattle.span.proofs.Changes.{get-put, get-set, get-free}
use Rattle.std.specs.FinMap as map
use Rattle.std.specs.Ordering.{nat_cmp}
use Rattle.std.proofs.lemmas.List.{take_more as take_read}
use Rattle.audit.specs.Changes.{slot_of, left_by, generation_of}

-- what a slot holds after one more change
pub get_more : (log : List Change) (c : Change) (q : ℕ) → map.get (replay (log ++ c ∷ [])) q ≡ cond (eqb q (slot_of c)) (left_by c) (map.get (replay log) q)
get_more log (Change.Put slot generation value) q = get-put log slot generation value q
get_more log (Change.Set slot generation value) q = get-set log slot generation value q
get_more log (Change.Free slot generation) q = get-free log slot generation q

-- the generation of it
pub generation_more : (log : List Change) (c : Change) (q : ℕ)
    → option_map generation_of (map.get (replay (log ++ c ∷ [])) q) ≡ cond (eqb q (slot_of c)) (option_map generation_of (left_by c)) (option_map generation_of (map.get (replay log) q))
generation_more log c q = search (rules, option_map, get_more)

pub get_none : (q : ℕ) → map.get (replay []) q ≡ None
unfolding replay
get_none q = map.get-empty nat_cmp q

pub take_more : {X : Type 0} (changes : List X) (n : ℕ) (change : X) → slice_get changes n ≡ Some change → take (n + 1) changes ≡ take n changes ++ change ∷ []
take_more changes n change is = take_read changes n change (slice_get_within changes n change is) ∙ ap (λ c. take n changes ++ c ∷ []) (get_or_from_slice_get changes n change change is)

-- what a slot holds after the changes up to a place, and the one at the place
pub get_taken : (changes : List Change) (n : ℕ) (c : Change) (q : ℕ) → slice_get changes n ≡ Some c
    → map.get (replay (take (n + 1) changes)) q ≡ cond (eqb q (slot_of c)) (left_by c) (map.get (replay (take n changes)) q)
get_taken changes n c q at = ap (λ l. map.get (replay l) q) (take_more changes n c at) ∙ get_more (take n changes) c q
