use Rattle.std.proofs.Common.{inl, refl}
use Rattle.teurlaks_c.proofs.key_numbers.teurlaks_key_bits.Goals as goal

pub returns-in-Ok : goal.returns-in-Ok
returns-in-Ok c = inl (refl, c.in-Ok.bits, c.raw_bits.ensures, c.in-Ok.ensures.ok)
