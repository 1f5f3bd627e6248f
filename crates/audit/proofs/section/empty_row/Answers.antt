use Rattle.std.proofs.Common.{rules}
use Rattle.audit.proofs.Rows.{get_or-none_told, length-told_sections, no_section_at}
use Rattle.audit.proofs.section.empty_row.Goals as goal

pub returns-clause-len : goal.returns-clause-len
returns-clause-len c = search (rules, length-told_sections)

pub returns-clause-none : goal.returns-clause-none
returns-clause-none c at = search (rules, no_section_at, get_or-none_told)
