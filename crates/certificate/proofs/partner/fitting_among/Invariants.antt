use Rattle.certificate.proofs.PartnersFilter.{HasBelow}
use Rattle.certificate.proofs.partner.fitting_among.Given as goal

abbrev pub invariant-loop-number : goal.invariant-loop-number
invariant-loop-number g l = HasBelow l.members l.owned l.number l.fitting.words
