-- The words of the objects that lines put are in range.
use Rattle.trace_text.proofs.Names.{ℕ, ◌+◌, ◌-◌, ◌<◌, ◌^◌, arith, width_of-least, Class, last_word}

-- no object of a fill ends above its last one
pub last_word-each : (class : Class) (value count i : ℕ) → i < count → last_word class (value + count - 1) < 2 ^ 128 → last_word class (value + i) < 2 ^ 128
last_word-each class value count i low within = omega (arith, width_of-least class, low, within)
