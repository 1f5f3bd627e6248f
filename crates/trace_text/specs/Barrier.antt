-- The barrier between two sections: the adoptions that wait for a mark, and the mark.
use Rattle.std.specs.Prelude.{Bool, true, false, not, List, reverse}
use Rattle.std.specs.List.{take_while}
use Rattle.trace_text.specs.declared.line.Line.{Line}
use Rattle.trace_text.specs.declared.line.Line.TheVariants as line

-- the line is one of a barrier; no thread's line stands between an adoption and its mark
abbrev pub is_barrier : Line → Bool
is_barrier (line.Adopt shard) = true
is_barrier line.Mark = true
is_barrier _ = false

-- the lines after the last line of a barrier
abbrev pub open_lines : List Line → List Line
open_lines lines = reverse (take_while (λ line. not (is_barrier line)) (reverse lines))
