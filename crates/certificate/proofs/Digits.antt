-- The digits of a number.
use Rattle.std.proofs.Common.{◌≡◌, ℕ, ◌+◌, ◌-◌, ◌*◌, ◌<◌, true, List, [], ◌∷◌, length, take, get_or, arith, rules, ◌∙◌, ap, min}
use Rattle.std.specs.Char.{digit_value, is_ascii_digit}
use Rattle.std.specs.Int.{IsInRange}
use Rattle.std.specs.List.{list_all}
use Rattle.std.specs.Str.Parse.{AllDigits, digits_value}
use Rattle.std.proofs.lemmas.Bool.{and_parts}
use Rattle.std.proofs.lemmas.Int.Digits.{digits_value_more}
use Rattle.std.proofs.lemmas.Str.Parse.{digit_at}
use Rattle.certificate.specs.Number.{clip}
use Rattle.std.proofs.lemmas.Bool.Decides.{nat_tests}

pub digit_value-digit : (c : ℕ) → IsInRange 48 57 c → digit_value c ≡ c - 48
digit_value-digit c h = grind (arith, nat_tests, h.0, h.1)

pub is_digit-range : (c : ℕ) → is_ascii_digit c ≡ true → IsInRange 48 57 c
is_digit-range c h = search rules

pub digit_value-range : (c : ℕ) → IsInRange 48 57 c → digit_value c < 10
digit_value-range c h = let e : digit_value c ≡ c - 48 = digit_value-digit c h in omega (arith, e, h.0, h.1)

pub AllDigits-from_test : (word : List ℕ) → list_all is_ascii_digit word ≡ true → AllDigits 10 word
AllDigits-from_test [] h = search rules
AllDigits-from_test (c ∷ cs) h = let parts = and_parts (is_ascii_digit c) (list_all is_ascii_digit cs) h in
    (digit_value-range c (is_digit-range c parts.0), AllDigits-from_test cs parts.1)

-- the value of one digit more
pub value_more : (ds : List ℕ) (i : ℕ) → AllDigits 10 ds → i < length ds → digits_value 10 (take (i + 1) ds) ≡ digits_value 10 (take i ds) * 10 + (get_or ds i 0 - 48)
value_more ds i all h = digits_value_more 10 ds i h ∙ ap (λ d. digits_value 10 (take i ds) * 10 + d) (digit_value-digit _ (digit_at ds i all h))

-- one digit more, of a number that is kept clipped
pub clip-more : (ds : List ℕ) (i : ℕ) → AllDigits 10 ds → i < length ds
    → min (min (clip (digits_value 10 (take i ds)) * 10) 4294967295 + (get_or ds i 0 - 48)) 4294967295 ≡ clip (digits_value 10 (take (i + 1) ds))
clip-more ds i all h = let e = value_more ds i all h in rw e (grind arith)
