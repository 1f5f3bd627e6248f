use Rattle.std.proofs.Common.{◌≡◌, ◌+◌, ◌*◌, ◌%◌, ◌∙◌, ap, arith, rules}
use Rattle.std.specs.FinSet.{contains, contains-empty}
use Rattle.bitmap.proofs.InParts.{contains-past, slot_at}
use Rattle.bitmap.proofs.parts.part_at.Goals as goal

pub returns-then-part-len : goal.returns-then-part-len
returns-then-part-len c slot small =
    let place : slot ≡ (256 * c.args.part + slot) % 256 = omega (arith, small) in
    ap (contains c.index.result.now) place ∙ ap (λ s. contains s ((256 * c.args.part + slot) % 256)) c.index.ensures
    ∙ slot_at c.args.parts.now.items c.args.part (omega (arith, c.if-part-len.true, c.len.ensures)) c.index.result.now (256 * c.args.part + slot) (omega (arith, small))

pub returns-else-part-len : goal.returns-else-part-len
returns-else-part-len c slot small = search (rules, contains-empty, contains-past)
