use Rattle.std.proofs.Common.{rules}
use Rattle.audit.proofs.Rows.{length-told_sections, has_section_at, told_sections-set, no_section_at}
use Rattle.audit.proofs.Lists.{read_at}
use Rattle.audit.proofs.section.mark.Goals as goal

pub returns-then-len-at-clause-taken : goal.returns-then-len-at-clause-taken
returns-then-len-at-clause-taken c none inside = search (rules, length-told_sections, has_section_at, read_at)

pub returns-clause-marked : goal.returns-clause-marked
returns-clause-marked c so = search (rules, length-told_sections, no_section_at, read_at, told_sections-set)
