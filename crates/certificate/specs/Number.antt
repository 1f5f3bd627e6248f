-- Numbers in decimal digits, of any length.
use Rattle.std.specs.Prelude.{◌-◌, ◌^◌, ◌==◌, ◌&&◌, ◌||◌, ℕ, Bool, not, nat_lt, min, List, length, Option, Some, None, slice_index, if◌then◌else◌}
use Rattle.std.specs.Char.{is_ascii_digit}
use Rattle.std.specs.List.{list_all}
use Rattle.std.specs.Str.Parse.{digits_value}

-- one digit or more, with no sign and no leading zero (48)
abbrev pub is_numeral : List ℕ → Bool
is_numeral word = nat_lt 0 (length word) && ((length word == 1 || not (slice_index word 0 == 48))
    && list_all is_ascii_digit word)

-- the number that a word is, of any length
abbrev pub number_in : List ℕ → Option ℕ
number_in word = if is_numeral word then Some (digits_value 10 word) else None

-- a number that does not fit 32 bits is kept as the greatest that does
abbrev pub clip : ℕ → ℕ
clip n = min n (2 ^ 32 - 1)
