use Rattle.std.proofs.Common.{◌≡◌, ◌+◌}
use Rattle.certificate.specs.Grammar.{pair_in, pair_parts}
use Rattle.certificate.specs.Words.{lines_of}
use Rattle.certificate.proofs.Items.{IsReading}
use Rattle.certificate.proofs.text.items.read_folds.Given as goal

abbrev pub invariant-loop-k : goal.invariant-loop-k
invariant-loop-k l = record {
  reading : IsReading (pair_in l.version) (λ p. p.0) pair_parts (λ p. p.0) (lines_of l.fn.lines.text.now) (l.fn.lines.at + 1) l.count l.pairs.items l.last l._k;
  text : l.lines.text.now ≡ l.fn.lines.text.now;
  place : l.lines.at ≡ l.fn.lines.at + 1 + l._k;
}
