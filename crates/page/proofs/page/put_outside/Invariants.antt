use Rattle.page.proofs.Zeros.{IsMerging}
use Rattle.page.proofs.page.put_outside.Given as goal

abbrev pub invariant-loop-place : goal.invariant-loop-place
invariant-loop-place l = IsMerging l.fn.class l.slots l.fn.words.items l.others.items l.words.items l.place
