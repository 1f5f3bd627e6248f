use Rattle.bitmap.proofs.Shifts.{down-fits, down-last, down-others}
use Rattle.bitmap.proofs.bits.down_word.Goals as goal

pub returns-clause-last : goal.returns-clause-last
returns-clause-last c = down-last c.args.word c.args.above c.ranges.word.fits

pub returns-clause-others : goal.returns-clause-others
returns-clause-others c = down-others c.args.word c.args.above c.ranges.word.fits

pub returns-clause-fits : goal.returns-clause-fits
returns-clause-fits c = down-fits c.args.word c.args.above c.ranges.word.fits
