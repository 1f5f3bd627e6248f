use Rattle.trace_text.proofs.Names.{sym}
use Rattle.trace_text.proofs.Keeping.{find-between}
use Rattle.trace_text.proofs.line_list.find_kept.Goals as goal

pub returns : goal.returns
returns c = sym (find-between c.args.kept.now c.requires.0 c.count_above.result c.args.place c.requires.1 c.count_above.ensures.above
    c.count_above.ensures.others c.in_default-kept_there-2.ensures.none)
