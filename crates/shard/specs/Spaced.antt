-- Some elements of a list, which stand for all of it.
use Rattle.std.specs.Prelude.{zero, suc, ℕ, ◌-◌, ◌/◌, ◌^◌, List, [], ◌∷◌, min}

-- the elements that are left if so many are passed over first, and then so many after each
abbrev pub passing : {X : Type 0} → (first after : ℕ) → List X → List X
passing first after [] = []
passing zero after (x ∷ rest) = x ∷ passing after after rest
passing (suc first) after (x ∷ rest) = passing first after rest

-- the first element, and one after each so many others
abbrev pub spaced : {X : Type 0} → ℕ → List X → List X
spaced gap list = passing 0 gap list

-- how many of so many are passed over after each that is looked at: as few as can be if at most
-- 4,096 are looked at, or as many as 32 bits can say
abbrev pub gap_of : ℕ → ℕ
gap_of count = min ((count - 1) / 4096) (2 ^ 32 - 1)
