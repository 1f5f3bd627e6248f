use Rattle.trace_text.proofs.Names.{rules, sym, ◌∙◌, take_rest}
use Rattle.trace_text.proofs.Ends.{lines_of-first, lines_of-last}
use Rattle.trace_text.proofs.words.first_line.Goals as goal

pub returns-in-None-clause-some : goal.returns-in-None-clause-some
returns-in-None-clause-some c = lines_of-last c.args.text.now (search (rules, c.if-is_empty.false)) (sym c.in-None.is ∙ c.line_end.ensures)

pub returns-in-Some-clause-some : goal.returns-in-Some-clause-some
returns-in-Some-clause-some c = rw take_rest (lines_of-first c.args.text.now c.in-Some.end (sym c.in-Some.is ∙ c.line_end.ensures)).0
