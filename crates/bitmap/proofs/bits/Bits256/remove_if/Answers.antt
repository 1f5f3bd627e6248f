use Rattle.std.proofs.Common.{◌∙◌, ◌/◌, ap}
use Rattle.std.specs.Bool.{if◌then◌else◌}
use Rattle.std.specs.FinSet.{remove}
use Rattle.bitmap.proofs.Edits.{slots_of_words-remove_if}
use Rattle.bitmap.proofs.bits.Bits256.remove_if.Goals as goal

pub returns : goal.returns
returns c =
    rw (c.from-slot.ensures, c.from.ensures) (
    slots_of_words-remove_if c.self.inside.words c.self.told c.args.slot c.ranges.slot.fits c.args.out (c.self.invariant.fit (c.args.slot / 64))
    ∙ ap (λ s. if c.args.out then remove s c.args.slot else s) c.self.view_is)
