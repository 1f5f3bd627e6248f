use Rattle.std.proofs.Common.{◌≡◌, take}
use Rattle.std.specs.List.{filter}
use Rattle.certificate.specs.Chosen.{is_of_class}
use Rattle.certificate.proofs.partner.of_class.Given as goal

abbrev pub invariant-loop-entry : goal.invariant-loop-entry
invariant-loop-entry l = l.own.items ≡ filter (is_of_class l.number) (take l.entry-index l.groups)
