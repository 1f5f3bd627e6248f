use Rattle.trace_text.proofs.Names.{ℕ, ◌≡◌, ◌+◌, ◌<◌, get_or, length}
use Rattle.trace_text.proofs.counting.count_up.Given as goal

abbrev pub invariant-loop-place : goal.invariant-loop-place
invariant-loop-place l = record {
  long : length l.words ≡ length l.fn.words;
  counted : (k d : ℕ) → k < l.place → get_or l.words k d ≡ l.base + k;
}
