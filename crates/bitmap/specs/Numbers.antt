-- Sets of numbers that grow.
use Rattle.std.specs.Prelude.{Bool, ℕ, if◌then◌else◌, refl}
use Rattle.std.specs.Coded.{Coded, code_by, coded×, coded_ℕ}
use Rattle.std.specs.FinSet as set
use Rattle.bitmap.specs.Slots.{SlotSet}

-- the numbers of a set, and the room that it has: a number below that goes in with no memory
pub record NumbersState : Type 0 where
  pub numbers : SlotSet
  pub room : ℕ

-- the set, without the number if that is to go
abbrev pub without_if : NumbersState → ℕ → Bool → NumbersState
without_if state number out =
    record state { numbers = if out then set.remove state.numbers number else state.numbers }

-- such a state is stored as the pair of its fields
abbrev pub numbers_code : Coded NumbersState
numbers_code = code_by (SlotSet × ℕ) (coded× (set.code coded_ℕ) coded_ℕ) (λ s. (s.numbers, s.room))
    (λ p. record { numbers = p.0; room = p.1 }) (λ _. refl)
