use Rattle.trace_text.proofs.Names.{sym, length-map-range_with_len, line_kept}
use Rattle.trace_text.proofs.line_list.LineList.len.Goals as goal

pub returns-clause-len : goal.returns-clause-len
returns-clause-len c = rw (← c.self.view_is) (sym (length-map-range_with_len (line_kept c.self.inside.kept.items) 0 c.self.inside.count))
