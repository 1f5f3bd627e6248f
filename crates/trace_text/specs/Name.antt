-- Names of keys.
use Rattle.std.specs.Prelude.{◌&&◌, ◌||◌, ℕ, Bool, false, List, [], ◌∷◌, length, nat_le}
use Rattle.std.specs.Char.{is_ascii_digit, is_ascii_lowercase}
use Rattle.std.specs.List.{list_all}

-- each byte is a small letter or a digit
abbrev pub has_name_bytes : List ℕ → Bool
has_name_bytes bytes = list_all (λ b. is_ascii_lowercase b || is_ascii_digit b) bytes

-- 1 to 16 small letters and digits, beginning with a letter
abbrev pub is_name : List ℕ → Bool
is_name [] = false
is_name (first ∷ rest) = nat_le (length (first ∷ rest)) 16
    && (is_ascii_lowercase first && has_name_bytes rest)
