use Rattle.std.proofs.Common.{take}
use Rattle.certificate.specs.Chosen.{HasFitting}
use Rattle.certificate.proofs.partner.count_few.Given as goal

abbrev pub invariant-loop-id : goal.invariant-loop-id
invariant-loop-id l = HasFitting l.abandoned (take l.id-index l.chosen) l.owned l.fitting.words
