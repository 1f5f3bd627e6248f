use Rattle.std.proofs.Common.{◌≡◌, ◌∙◌, subst, sym}
use Rattle.std.specs.Arc.{arc_value}
use Rattle.std.specs.Prelude.{All}
use Rattle.std.proofs.lemmas.List.Elements.{All-push}
use Rattle.teurlaks_c.specs.declared.recorded.KeptSeat.{KeptSeat}
use Rattle.teurlaks_c.proofs.leaving.push_kept.Goals as goal

pub invariant_of-steward : goal.invariant_of-steward
invariant_of-steward c =
    let steward = c.args.steward.now in
    let fits : KeptSeat → Type 0 = λ kept. kept.seat.limits ≡ (arc_value steward.arena).limits in
    record {
      fits = steward.fits;
      seats_fit = subst (All fits) (sym c.push_reserved.ensures.items)
          (All-push fits steward.seats.items _ steward.seats_fit (c.hand_over.ensures.kept.ends.limits_are ∙ c.requires.fits));
    }
