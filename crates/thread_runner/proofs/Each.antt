-- What holds of each of a list, by recursion and by number.
use Rattle.thread_runner.proofs.Names.{◌≡◌, ℕ, List, [], ◌∷◌, ap, arith, map, suc, zero, All, AllByRecursion, SeatState, Standing, first_standing, standing}
use Rattle.marks.specs.Numbers.{Limits}

pub All-each : {X : Type 0} (P : X → Type 0) (xs : List X) → AllByRecursion P xs → All P xs
All-each P [] each k d within = absurd (omega arith)
All-each P (x ∷ xs) each zero d within = each.0
All-each P (x ∷ xs) each (suc k) d within = All-each P xs each.1 k d (omega arith)

pub each-All : {X : Type 0} (P : X → Type 0) (xs : List X) → All P xs → AllByRecursion P xs
each-All P [] all = tt
each-All P (x ∷ xs) all = (all 0 x (omega arith), each-All P xs (λ k d within. all (suc k) d (omega arith)))

-- what holds of each still holds where what holds of it is less
pub each-weaker : {X : Type 0} (P Q : X → Type 0) (xs : List X) → ((x : X) → P x → Q x) → AllByRecursion P xs → AllByRecursion Q xs
each-weaker P Q [] less each = tt
each-weaker P Q (x ∷ xs) less each = (less x each.0, each-weaker P Q xs less each.1)

-- seats that stand in the first section, each between what else holds of it
pub each-first : (limits : Limits) (P Q : SeatState → Type 0) (seats : List SeatState) (ns : List ℕ) → map standing seats ≡ map (first_standing limits) ns
    → AllByRecursion P seats → AllByRecursion Q seats
    → AllByRecursion (λ seat. P seat × (seat.section ≡ 0) × Q seat) seats
each-first limits P Q [] ns same each others = tt
each-first limits P Q (seat ∷ seats) [] same each others = absurd cc
each-first limits P Q (seat ∷ seats) (n ∷ ns) same each others =
    let here : standing seat ≡ first_standing limits n = cc in
    let rest : map standing seats ≡ map (first_standing limits) ns = cc in
    ((each.0, ap (λ (s : Standing). s.section) here, others.0), each-first limits P Q seats ns rest each.1 others.1)
