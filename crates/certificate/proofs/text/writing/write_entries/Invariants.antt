use Rattle.std.proofs.Common.{◌≡◌, ◌++◌, ◌<◌, ℕ, drop, get_or}
use Rattle.certificate.specs.Text.{IsReadable, lines_text, list_text, entry_line}
use Rattle.certificate.proofs.text.writing.write_entries.Given as goal

abbrev pub invariant-loop-entry : goal.invariant-loop-entry
invariant-loop-entry l = record {
  text : l.text.items ++ lines_text entry_line (drop l.entry-index l.entries) ≡ l.fn.text.items ++ list_text l.title entry_line l.entries;
  readable : (k : ℕ) (d : _) → k < l.entry-index → IsReadable (get_or l.entries k d);
}
