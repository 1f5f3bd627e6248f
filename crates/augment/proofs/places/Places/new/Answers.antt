use Rattle.std.proofs.Common.{◌+◌, ◌/◌, refl}
use Rattle.augment.proofs.Opposite.{opposite-new}
use Rattle.augment.proofs.places.Places.new.Goals as goal

pub invariant_of-result : goal.invariant_of-result
invariant_of-result c = record {
  opposite = rw (c.in_ok-unpassed.ensures.items_if_clones_equal (λ y e. e), c.in_ok-passed.ensures.items_if_clones_equal (λ y e. e)) (opposite-new ((c.args.count + 63) / 64) c.args.count refl);
}
