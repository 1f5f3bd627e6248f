use Rattle.trace_text.proofs.Names.{refl, lines_of}
use Rattle.trace_text.proofs.Heads.{size_outside}
use Rattle.trace_text.proofs.header.size.Goals as goal

pub returns-in-None-clause-err : goal.returns-in-None-clause-err
returns-in-None-clause-err c = (
  refl,
  size_outside c.args.word.now c.in-Some.bytes.now c.args.most c.in-Some-number_behind.number (lines_of c.args.text.now)
      (lines_of c.in-Some.below.now) c.in-Some.ensures.some c.in-Some-number_behind.ensures c.in-None.ensures.none,
)
