use Rattle.span.specs.Entries.{are_compatible}
use Rattle.certificate.proofs.Places.{HasAdded}
use Rattle.certificate.proofs.partner.add_partners.Given as goal

abbrev pub invariant-loop-place : goal.invariant-loop-place
invariant-loop-place l = HasAdded (are_compatible l.abandoned) l.owned l.place l.initial.fitting.words l.fitting.words
