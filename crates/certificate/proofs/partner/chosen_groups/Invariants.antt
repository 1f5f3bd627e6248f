use Rattle.std.proofs.Common.{◌≡◌, take}
use Rattle.std.specs.List.{flat_map}
use Rattle.certificate.specs.Chosen.{groups_with}
use Rattle.certificate.proofs.partner.chosen_groups.Given as goal

abbrev pub invariant-loop-id : goal.invariant-loop-id
invariant-loop-id l = l.groups.items ≡ flat_map (groups_with l.abandoned) (take l.id-index l.chosen)
