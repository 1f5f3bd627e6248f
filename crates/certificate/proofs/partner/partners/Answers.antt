use Rattle.std.proofs.Common.{◌∙◌, ap, map, sym}
use Rattle.span.specs.declared.entry.Entry.{Entry}
use Rattle.certificate.proofs.PartnersFilter.{filter-members, partners_of-filter}
use Rattle.certificate.proofs.partner.partners.Goals as goal

pub returns : goal.returns
returns g c =
    let s = c.args.snapshot.now in
    rw c.owned.ensures.entries at c.in_ok-found.ensures
    ∙ ap (map (λ (y : Entry). y.id)) (filter-members c.in_ok-members.members s.abandoned s.owned c.args.short.now (rw (c.abandoned.ensures.entries, c.ids-chosen.ensures) at c.in_ok-members.ensures))
    ∙ sym (partners_of-filter s c.args.short.now c.owned.ensures.ascending)
