use Rattle.std.proofs.Common.{◌∙◌, ap, get_or, sym}
use Rattle.certificate.specs.Chosen.{fits_some}
use Rattle.certificate.proofs.PartnersFilter.{passing-more, passing-skip}
use Rattle.certificate.proofs.partner.push_partners.Goals as goal
use Rattle.certificate.proofs.partner.push_partners.Goals.{else-contains, then-contains+in_ok-push}

pub loop-place-preserved : goal.loop-place-preserved
loop-place-preserved g c =
    let low = c.loop-place-test.true in
    elim c.if-contains.branch [
      | then-contains+in_ok-push w ↦
          let y = w.index-owned-place.result in
          rw (w.found-is, w.in_ok-push.ensures.items)
          (passing-more (fits_some c.args.members.now) c.args.owned.now c.loop-place.place (get_or c.args.owned.now c.loop-place.place y) c.args.found.now.items c.loop-place.found.items low
          (ap (get_or c.args.owned.now c.loop-place.place) w.index-owned-place.is) c.loop-place.invariant
          (sym (c.in_ok-fitting.ensures c.loop-place.place y low) ∙ sym c.contains.ensures ∙ w.if-contains.true))
      | else-contains w ↦
          rw w.found-is
          (passing-skip (fits_some c.args.members.now) c.args.owned.now c.loop-place.place c.args.found.now.items c.loop-place.found.items low
          (λ d. sym (c.in_ok-fitting.ensures c.loop-place.place d low) ∙ sym c.contains.ensures ∙ w.if-contains.false) c.loop-place.invariant)
    ]
