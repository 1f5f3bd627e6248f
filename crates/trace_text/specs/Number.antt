-- What is kept of a number. No public clause cites this module.
use Rattle.std.specs.Prelude.{◌≡◌, ◌≤◌, ◌^◌, ℕ, Option, Some, None, option_map}
use Rattle.std.specs.Int.{IsInRange}
use Rattle.certificate.specs.Number.{clip}
use Rattle.trace_text.specs.declared.numeral.Number.{Number}
use Rattle.trace_text.specs.declared.numeral.Number.TheVariants.{Fits, Large}

-- a number that does not fit is kept as the greatest that does
abbrev pub clipped_number : Option ℕ → Option ℕ
clipped_number n = option_map clip n

-- what is kept of a number
abbrev pub HasValue : Number → ℕ → Type 0
HasValue (Fits n) m = n ≡ m
HasValue Large m = 2 ^ 128 ≤ m

-- what is kept says this number, or neither is a number
abbrev pub KeepsNumber : Option Number → Option ℕ → Type 0
KeepsNumber None None = Unit {0}
KeepsNumber (Some number) (Some n) = HasValue number n
KeepsNumber None (Some n) = ⊥
KeepsNumber (Some number) None = ⊥

-- what is kept is of no number from 1 to `most`
abbrev pub IsOutside : (most : ℕ) → Number → Type 0
IsOutside most number = (n : ℕ) → HasValue number n → IsInRange 1 most n → ⊥
