use Rattle.std.proofs.Common.{inl, inr, refl}
use Rattle.teurlaks_c.proofs.key_numbers.teurlaks_key_from_u64.Goals as goal

pub returns-in-Some-from_number : goal.returns-in-Some-from_number
returns-in-Some-from_number c = inl (refl, c.in-Some.bits, c.in-Some-from_number.key, c.in-Some.ensures, c.raw_of.ensures, c.in-Some-from_number.ensures.key)

pub returns-in-None : goal.returns-in-None
returns-in-None c = inr (inl (c.no_key_of-in-None.ensures, c.in-Some.bits, c.in-Some.ensures, c.in-None.ensures.none))
