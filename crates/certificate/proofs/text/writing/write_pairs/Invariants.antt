use Rattle.std.proofs.Common.{◌≡◌, ◌++◌, drop, codes}
use Rattle.certificate.specs.Text.{lines_text, list_text, pair_line}
use Rattle.certificate.proofs.text.writing.write_pairs.Given as goal

abbrev pub invariant-loop-pair : goal.invariant-loop-pair
invariant-loop-pair l = l.text.items ++ lines_text pair_line (drop l.pair-index l.pairs) ≡ l.fn.text.items ++ list_text (codes "folds") pair_line l.pairs
