use Rattle.std.proofs.Common.{◌≡◌}
use Rattle.std.specs.Prelude.{take}
use Rattle.teurlaks_c.specs.Words.{words_of}
use Rattle.teurlaks_c.proofs.words.join_all.Given as goal

-- the first places are done
abbrev pub invariant-loop-place : goal.invariant-loop-place
invariant-loop-place l = take l.place l.values ≡ words_of (take l.place l.words)
