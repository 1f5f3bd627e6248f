use Rattle.std.proofs.Common.{◌≡◌, ◌++◌, length, map}
use Rattle.std.specs.List.{filter}
use Rattle.certificate.specs.Chosen.{fits_some}
use Rattle.certificate.proofs.partner.partners_among.Given as goal

abbrev pub invariant-loop-rest : goal.invariant-loop-rest
invariant-loop-rest g l = l.found.items ++ map (λ y. y.id) (filter (fits_some l.members) l.rest) ≡ map (λ y. y.id) (filter (fits_some l.members) l.owned)

abbrev pub decreases-loop-rest : goal.decreases-loop-rest
decreases-loop-rest g l = length l.rest
