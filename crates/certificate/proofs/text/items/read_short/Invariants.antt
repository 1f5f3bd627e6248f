use Rattle.std.proofs.Common.{◌≡◌, ◌+◌}
use Rattle.certificate.specs.Grammar.{id_in, id_parts}
use Rattle.certificate.specs.Words.{lines_of}
use Rattle.certificate.proofs.Items.{IsReading}
use Rattle.certificate.proofs.text.items.read_short.Given as goal

abbrev pub invariant-loop-k : goal.invariant-loop-k
invariant-loop-k l = record {
  reading : IsReading (id_in l.version) (λ id. id) id_parts (λ id. id) (lines_of l.fn.lines.text.now) (l.fn.lines.at + 1) l.count l.short.items l.last l._k;
  text : l.lines.text.now ≡ l.fn.lines.text.now;
  place : l.lines.at ≡ l.fn.lines.at + 1 + l._k;
}
