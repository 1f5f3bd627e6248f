use Rattle.std.proofs.Common.{rules}
use Rattle.certificate.proofs.PartnersFilter.{groups_with-next}
use Rattle.certificate.proofs.partner.chosen_groups.Goals as goal

pub loop-id-preserved : goal.loop-id-preserved
loop-id-preserved c = search (rules, groups_with-next)
