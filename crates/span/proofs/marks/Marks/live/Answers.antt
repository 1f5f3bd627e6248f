use Rattle.std.proofs.Common.{◌∙◌, sym, eq-eqb, rules}
use Rattle.std.proofs.lemmas.Bool.{ne_eqb}
use Rattle.std.proofs.lemmas.List.{get_or_past}
use Rattle.bitmap.proofs.Where.{slots_where-zero, slots_where-insert, slots_where-skip}
use Rattle.span.specs.Marks.{is_live_at, marks_of}
use Rattle.span.proofs.SlotsWhere.{slots_where-more}
use Rattle.span.proofs.marks.Marks.live.Goals as goal
use Rattle.span.proofs.marks.Marks.live.Goals.{then-mark-eq1, else-mark-eq1}

pub loop-slot-init : goal.loop-slot-init
loop-slot-init c = c.empty-slots.ensures ∙ sym (slots_where-zero (is_live_at (marks_of c.args.self.now)))

pub loop-slot-preserved : goal.loop-slot-preserved
loop-slot-preserved c = search (rules, then-mark-eq1, slots_where-insert, eq-eqb, else-mark-eq1, slots_where-skip, ne_eqb)

pub returns : goal.returns
returns c = search (rules, ne_eqb, get_or_past, slots_where-more)
