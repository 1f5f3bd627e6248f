use Rattle.std.proofs.Common.{arith}
use Rattle.certificate.proofs.PartnersFilter.{HasBelow-all, HasBelow-more, HasBelow-none}
use Rattle.certificate.proofs.partner.fitting_among.Goals as goal

pub loop-number-init : goal.loop-number-init
loop-number-init g c = HasBelow-none c.args.members.now c.args.owned.now c.empty-fitting.result.words c.empty-fitting.ensures

pub loop-number-preserved : goal.loop-number-preserved
loop-number-preserved g c =
    HasBelow-more c.args.members.now c.args.owned.now c.loop-number.number c.loop-number.fitting.words c.add_class.new.fitting.words c.loop-number.invariant c.in_ok-add_class.ensures

pub returns : goal.returns
returns g c = HasBelow-all c.args.members.now c.args.owned.now c.loop-number.number c.loop-number.fitting.words (omega (arith, c.loop-number-test.false, c.len-number-end.ensures)) c.loop-number.invariant
