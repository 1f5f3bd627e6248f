use Rattle.std.proofs.Common.{◌≡◌, map}
use Rattle.std.specs.Prelude.{take}
use Rattle.arena.proofs.word.write_all.Given as goal

-- the first places are done
abbrev pub invariant-loop-place : goal.invariant-loop-place
invariant-loop-place g l = map g.W.Word.word (take l.place l.room) ≡ take l.place l.words
