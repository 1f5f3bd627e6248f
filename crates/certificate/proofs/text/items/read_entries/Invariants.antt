use Rattle.std.proofs.Common.{◌≡◌, ◌+◌}
use Rattle.std.specs.List.{All}
use Rattle.certificate.specs.Grammar.{entry_in, entry_parts}
use Rattle.certificate.specs.Text.{FitsClass}
use Rattle.certificate.specs.Words.{lines_of}
use Rattle.certificate.proofs.Items.{IsReading}
use Rattle.certificate.proofs.text.items.read_entries.Given as goal

abbrev pub invariant-loop-k : goal.invariant-loop-k
invariant-loop-k l = record {
  reading : IsReading (entry_in l.version) (λ x. x.id) entry_parts (λ x. x.id) (lines_of l.fn.lines.text.now) (l.fn.lines.at + 1) l.count l.entries.items l.last l._k;
  fit : All FitsClass l.entries.items;
  text : l.lines.text.now ≡ l.fn.lines.text.now;
  place : l.lines.at ≡ l.fn.lines.at + 1 + l._k;
}
