use Rattle.std.proofs.Common.{◌/◌, ap, arith}
use Rattle.span.specs.Stored.{base_of}
use Rattle.span.specs.declared.stored.TheConstants.{BLOCK}
use Rattle.span.proofs.log.Kept.words_of.Goals as goal

pub overflow_add-first : goal.overflow_add-first
overflow_add-first c =
    let log = c.args.self.now in
    omega (arith, log.within c.args.place c.args.stored c.requires, ap (λ l. base_of l (c.args.place / BLOCK)) c.as_slice.ensures.value)
