use Rattle.std.proofs.Common.{◌≡◌, ◌++◌, drop, codes}
use Rattle.certificate.specs.Text.{lines_text, list_text, id_line}
use Rattle.certificate.proofs.text.writing.write_ids.Given as goal

abbrev pub invariant-loop-id : goal.invariant-loop-id
invariant-loop-id l = l.text.items ++ lines_text id_line (drop l.id-index l.ids) ≡ l.fn.text.items ++ list_text (codes "short") id_line l.ids
