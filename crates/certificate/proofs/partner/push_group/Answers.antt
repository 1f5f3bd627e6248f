use Rattle.std.proofs.Common.{◌++◌, ◌∙◌, ap, sym, rules}
use Rattle.std.proofs.lemmas.List.{append-nil}
use Rattle.certificate.proofs.PartnersFilter.{groups_with-at, groups_with-none}
use Rattle.certificate.proofs.partner.push_group.Goals as goal

pub returns-in_default : goal.returns-in_default
returns-in_default c =
    sym (append-nil c.args.groups.now.items) ∙ ap (λ more. c.args.groups.now.items ++ more) (sym (groups_with-none c.args.abandoned.now c.args.id c.in_default.ensures.none))

pub returns : goal.returns
returns c = search (rules, groups_with-at)
