use Rattle.std.proofs.Common.{refl}
use Rattle.bitmap.proofs.InParts.{numbers_in-none}
use Rattle.bitmap.proofs.Joined.{joined-empty}
use Rattle.bitmap.proofs.numbers.NumberSet.new.Goals as goal

pub returns : goal.returns
returns c = rw (joined-empty c.empty.result c.new.result c.empty.ensures (numbers_in-none _ c.new.ensures), c.new.ensures) refl
