-- Lists of marks that get more places, or wider ones.
use Rattle.std.proofs.Common.{◌≡◌, ◌-◌, ◌≤◌, ◌++◌, ℕ, List, length, take, replicate, get_or, rules}
use Rattle.std.proofs.lemmas.Bool.{cases_lt}
use Rattle.std.proofs.lemmas.List.{get_or-append_right, get_or-replicate, get_or_append_left, get_or_past, length-replicate, take_all}

get_or-all : {X : Type 0} (n : ℕ) (x : X) (index : ℕ) → get_or (replicate n x) index x ≡ x
get_or-all n x index = search (rules, cases_lt, get_or-replicate, get_or_past, length-replicate)

-- an item behind the end says there what was said by default
pub get_or-lengthened : {X : Type 0} (xs : List X) (places : ℕ) (x : X) (index : ℕ) → length xs ≤ places
    → get_or (take places xs ++ replicate (places - length xs) x) index x ≡ get_or xs index x
get_or-lengthened xs places x index few = search (rules, take_all, cases_lt, get_or_append_left, get_or-append_right, get_or-all, get_or_past)
