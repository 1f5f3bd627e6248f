use Rattle.std.proofs.Common.{◌∙◌, None, get_or, ap, sym}
use Rattle.audit.specs.Tables.{full_row}
use Rattle.audit.specs.declared.row.Sections.{Sections}
use Rattle.audit.proofs.Rows.{get_or-same}
use Rattle.audit.proofs.section.section_at.Goals as goal

pub returns-then-at-changes : goal.returns-then-at-changes
returns-then-at-changes c = get_or-same c.in-Same.changes c.args.at c.in-Same.section c.if-at-changes.true ∙ ap (λ (r : Sections). get_or (full_row r) c.args.at None) (sym c.in-Same.is)
