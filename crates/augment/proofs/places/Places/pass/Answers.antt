use Rattle.std.proofs.Common.{◌/◌, ◌∙◌, arith}
use Rattle.std.proofs.lemmas.List.{get_or_default}
use Rattle.augment.proofs.Opposite.{opposite-pass}
use Rattle.augment.proofs.places.Places.pass.Goals as goal

pub invariant_of-self : goal.invariant_of-self
invariant_of-self c =
    let self = c.args.self.now in
    let place = c.args.place in
    let word = c.index_mut-2.result.now in
    record {
      opposite = opposite-pass self.unpassed.items self.passed.items place word self.opposite c.requires
          (c.index_mut-2.ensures.value ∙ get_or_default self.unpassed.items (place / 64) word 0 (omega (arith, self.opposite.size, c.requires)));
    }
