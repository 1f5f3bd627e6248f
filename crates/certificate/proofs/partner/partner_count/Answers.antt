use Rattle.std.proofs.Common.{◌∙◌}
use Rattle.certificate.proofs.PartnersFilter.{partners_of-count}
use Rattle.certificate.proofs.partner.partner_count.Goals as goal

pub returns-clause-count : goal.returns-clause-count
returns-clause-count c = rw (c.abandoned.ensures.entries, c.owned.ensures.entries) at c.count_among.ensures.count ∙ partners_of-count c.args.snapshot.now c.args.short.now c.owned.ensures.ascending
