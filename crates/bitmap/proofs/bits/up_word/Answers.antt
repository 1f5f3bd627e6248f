use Rattle.bitmap.proofs.Shifts.{up-first, up-fits, up-others}
use Rattle.bitmap.proofs.bits.up_word.Goals as goal

pub returns-clause-first : goal.returns-clause-first
returns-clause-first c = up-first c.args.word c.args.below c.ranges.below.fits

pub returns-clause-others : goal.returns-clause-others
returns-clause-others c = up-others c.args.word c.args.below c.ranges.below.fits

pub returns-clause-fits : goal.returns-clause-fits
returns-clause-fits c = up-fits c.args.word c.args.below c.ranges.below.fits
