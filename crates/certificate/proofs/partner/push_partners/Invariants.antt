use Rattle.std.proofs.Common.{◌≡◌, ◌++◌, map, take}
use Rattle.std.specs.List.{filter}
use Rattle.certificate.specs.Chosen.{fits_some}
use Rattle.certificate.proofs.partner.push_partners.Given as goal

abbrev pub invariant-loop-place : goal.invariant-loop-place
invariant-loop-place g l = l.found.items ≡ l.initial.found.items ++ map (λ y. y.id) (filter (fits_some l.members) (take l.place l.owned))
