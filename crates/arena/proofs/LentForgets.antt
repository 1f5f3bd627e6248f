-- Shards that forget one after another.
use Rattle.std.proofs.Common.{◌≡◌, ℕ, ◌+◌, ◌<◌, List, ◌++◌, drop, get_or, length, map, take, ap, ◌∙◌, arith}
use Rattle.std.proofs.lemmas.List.{drop_more, get_or_at, length-append, length-drop, length-map, length-take, length-take-le}

-- of a list whose first items have given way to what a function makes of them, the next one stands as before
pub get_or-written : {X : Type 0} (f : X → X) (before now : List X) (index : ℕ) (item : X) → now ≡ map f (take index before) ++ drop index before
    → index < length before → get_or now index item ≡ get_or before index item
get_or-written f before now index item now_is below =
    ap (λ xs. get_or xs index item) (now_is ∙ ap (λ xs. map f (take index before) ++ xs) (drop_more before index item below))
    ∙ get_or_at (map f (take index before)) (get_or before index item) (drop (index + 1) before) item index (length-map (take index before) f ∙ length-take-le index before (omega (arith, below)))

-- and such a list is as long as before
pub length-written : {X : Type 0} (f : X → X) (before now : List X) (index : ℕ) → now ≡ map f (take index before) ++ drop index before → length now ≡ length before
length-written f before now index now_is =
    let whole = ap length now_is in
    omega (arith, whole, length-append (map f (take index before)) (drop index before), length-map (take index before) f, length-take index before, length-drop index before)
