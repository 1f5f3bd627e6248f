use Rattle.certificate.proofs.Places.{HasFitting-more, HasFitting-same}
use Rattle.certificate.proofs.partner.add_fitting.Goals as goal

pub returns-in-Some : goal.returns-in-Some
returns-in-Some c = λ before fitting.
    HasFitting-more c.args.abandoned.now before c.args.id c.args.owned.now c.args.fitting.now.words fitting c.in-Some.place c.index-abandoned-place.result
    c.add_partners.new.fitting.words c.requires.ascending c.in-Some.ensures.within c.in-Some.ensures.found c.index-abandoned-place.is c.add_partners.ensures

pub returns-in_default : goal.returns-in_default
returns-in_default c = λ before fitting. HasFitting-same c.args.abandoned.now before c.args.id c.args.owned.now c.args.fitting.now.words fitting c.in_default.ensures.none
