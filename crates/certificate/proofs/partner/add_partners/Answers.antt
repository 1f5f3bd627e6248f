use Rattle.span.specs.Entries.{are_compatible}
use Rattle.certificate.proofs.Places.{HasAdded-more}
use Rattle.certificate.proofs.partner.add_partners.Goals as goal

pub loop-place-preserved : goal.loop-place-preserved
loop-place-preserved c =
    HasAdded-more (are_compatible c.args.abandoned.now) c.args.owned.now c.args.fitting.now.words c.loop-place.place c.loop-place.fitting.words c.add_partner.new.fitting.words
    c.index-owned-place.result c.loop-place.invariant c.loop-place-test.true c.index-owned-place.is c.add_partner.ensures
