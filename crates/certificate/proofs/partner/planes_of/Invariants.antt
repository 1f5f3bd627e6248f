use Rattle.std.proofs.Common.{◌≡◌, take}
use Rattle.certificate.specs.Chosen.{sets_of}
use Rattle.certificate.proofs.partner.planes_of.Given as goal

abbrev pub invariant-loop-entry : goal.invariant-loop-entry
invariant-loop-entry l = l.planes ≡ sets_of l.number (take l.entry-index l.groups)
