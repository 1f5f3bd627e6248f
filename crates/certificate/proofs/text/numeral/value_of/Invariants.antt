use Rattle.std.proofs.Common.{◌≡◌, take}
use Rattle.std.specs.Str.Parse.{digits_value}
use Rattle.certificate.specs.Number.{clip}
use Rattle.certificate.proofs.text.numeral.value_of.Given as goal

-- the value of the digits so far, clipped
abbrev pub invariant-loop-digit : goal.invariant-loop-digit
invariant-loop-digit l = l.value ≡ clip (digits_value 10 (take l.digit-index l.digits))
