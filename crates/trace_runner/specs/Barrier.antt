-- The threads that leave at the barrier between two sections.
use Rattle.std.specs.Prelude.{ℕ, List, filter}
use Rattle.std.specs.List.{range_with_len}
use Rattle.trace_text.specs.Barrier.{open_lines}
use Rattle.trace_text.specs.Causes.{has_ended}
use Rattle.trace_text.specs.declared.line.Line.{Line}

-- the threads that have ended by those lines below the last line of a barrier, ascending
abbrev pub leavers : (shards : ℕ) → List Line → List ℕ
leavers shards lines = filter (has_ended (open_lines lines)) (range_with_len 0 shards)
