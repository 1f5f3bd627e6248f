-- What a room of words has once its first place is written.
use Rattle.std.proofs.Common.{◌≡◌, ℕ, ◌≤◌, List, [], ◌∷◌, ◌++◌, length, map, get_or, set, ap, arith}
use Rattle.std.specs.Prelude.{drop}

pub map-set_first : {W : Type 0} (word : W → ℕ) (room : List W) (words : List ℕ) (first : W) → length words ≡ 1 → length words ≤ length room
    → word first ≡ get_or words 0 0 → map word (set room 0 first) ≡ words ++ drop (length words) (map word room)
map-set_first word (old ∷ room) (one ∷ []) first long fits is = ap (λ n. n ∷ map word room) is
map-set_first word [] (one ∷ []) first long fits is = absurd (omega (arith, fits))
map-set_first word room words first long fits is = absurd (omega (arith, long))
