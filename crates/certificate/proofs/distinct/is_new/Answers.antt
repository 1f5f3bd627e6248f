use Rattle.std.proofs.Common.{ap, not, ◌∙◌}
use Rattle.certificate.proofs.Places.{HasSeen-more, was-seen}
use Rattle.certificate.proofs.distinct.is_new.Goals as goal

pub returns-in-Some-clause-new : goal.returns-in-Some-clause-new
returns-in-Some-clause-new c = λ before seen.
    c.insert.ensures.new ∙ ap not (was-seen c.args.entries.now before c.args.id c.args.seen.now.words c.in-Some.place seen c.in-Some.ensures.within c.in-Some.ensures.found)

pub returns-in-Some-clause-seen : goal.returns-in-Some-clause-seen
returns-in-Some-clause-seen c = λ before seen.
    HasSeen-more c.args.entries.now before c.args.id c.args.seen.now.words seen c.in-Some.place c.requires.ascending c.in-Some.ensures.within
    c.in-Some.ensures.found c.insert.new.self.words c.insert.ensures.bits
