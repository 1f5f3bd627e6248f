-- Sets in a list, changed one after another.
use Rattle.std.proofs.Common.{zero, suc, ◌≡◌, ℕ, ◌<◌, ◌≤◌, Bool, List, [], ◌∷◌, length, set, Option, None, Some, is_some, not, true, false, ◌∙◌, ap, refl, arith, rules}
use Rattle.std.specs.Prelude.{MatchOption}
use Rattle.std.specs.FinSet.{contains, empty, contains-empty}
use Rattle.std.proofs.lemmas.Bool.{cases_lt, true≢false}
use Rattle.bitmap.specs.Numbers.{NumbersState}
use Rattle.shard.specs.Rooms.{IsNoLess, IsShiftedDown, IsShiftedUp, no_numbers, set_at}

-- a set that was read, whatever stands past the end

pub set_at-past : (sets : List NumbersState) (at : ℕ) → length sets ≤ at → set_at sets at ≡ no_numbers
set_at-past [] at past = refl
set_at-past (x ∷ sets) zero past = absurd (omega (arith, past))
set_at-past (x ∷ sets) (suc at) past = set_at-past sets at (omega (arith, past))

-- of the sets those below the place have changed as is said
module _ (R : NumbersState → NumbersState → Type 0) where
  pub record AreChanged (old now : List NumbersState) (at : ℕ) : Type 0 where
    pub count : length now ≡ length old
    pub done : (n : ℕ) → n < at → R (set_at old n) (set_at now n)
    pub rest : (n : ℕ) → at ≤ n → set_at now n ≡ set_at old n

  -- in the end all have
  pub AreChanged-all : (old now : List NumbersState) (at : ℕ) → AreChanged old now at → length old ≤ at → R no_numbers no_numbers → (n : ℕ) → R (set_at old n) (set_at now n)
  AreChanged-all old now at changed end none n = search (rules, cases_lt, set_at-past)

-- a set that has no number is moved
pub IsShiftedDown-none : (number : ℕ) (s : NumbersState) → s.numbers ≡ empty → IsShiftedDown number s s
IsShiftedDown-none number s none = search (rules, contains-empty)

pub IsShiftedUp-none : (number : ℕ) (s : NumbersState) → s.numbers ≡ empty → IsShiftedUp number s s
IsShiftedUp-none number s none = search (rules, contains-empty)

-- a set that has enough room now
pub record IsEnough (count : ℕ) (old now : NumbersState) : Type 0 where
  pub no_less : IsNoLess old now
  pub enough : count ≤ now.room

-- what a look for the lowest says of the set
pub none-found : {A : Type 0} (B : ℕ → Type 0) (found : Option ℕ) (none : Bool) → is_some found ≡ not none → none ≡ true → MatchOption found A B → A
none-found B None none is so it = it
none-found B (Some n) none is so it = absurd (true≢false (is ∙ ap not so))
