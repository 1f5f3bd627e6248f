use Rattle.bitmap.specs.Parts.{numbers_in}
use Rattle.bitmap.proofs.MovedParts.{AreNoted}
use Rattle.bitmap.proofs.parts.summary_of.Given as goal

abbrev pub invariant-loop-part : goal.invariant-loop-part
invariant-loop-part l = AreNoted (numbers_in l.fn.parts.items) l.filled l.part
