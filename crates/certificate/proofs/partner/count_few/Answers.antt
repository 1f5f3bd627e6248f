use Rattle.std.proofs.Common.{◌≡◌, ◌∙◌, arith, count_by}
use Rattle.std.proofs.lemmas.List.Sums.{count_by-le-length}
use Rattle.certificate.specs.Chosen.{fits_any}
use Rattle.certificate.proofs.Places.{HasFitting-next, count-fitting}
use Rattle.certificate.proofs.partner.count_few.Goals as goal

counted : (c : goal.After-count_below) → c.count_below.result ≡ count_by (λ y. fits_any c.args.abandoned.now c.args.chosen.now y) c.args.owned.now
counted c = c.count_below.ensures ∙ count-fitting c.args.abandoned.now c.args.chosen.now c.args.owned.now c.loop-id.id-index c.loop-id.fitting.words
    (omega (arith, c.loop-id-test.false)) c.loop-id.invariant

pub loop-id-preserved : goal.loop-id-preserved
loop-id-preserved c =
    HasFitting-next c.args.abandoned.now c.args.chosen.now c.args.owned.now c.loop-id.id-index c.id-item.result c.add_fitting.new.fitting.words
    c.loop-id-test.true c.id-item.is (c.add_fitting.ensures _ c.loop-id.invariant)

pub returns-clause-count : goal.returns-clause-count
returns-clause-count c = counted c

pub returns-clause-at_most : goal.returns-clause-at_most
returns-clause-at_most c = omega (arith, counted c, count_by-le-length (λ y. fits_any c.args.abandoned.now c.args.chosen.now y) c.args.owned.now)
