use Rattle.std.proofs.Common.{◌-◌, arith, refl}
use Rattle.std.proofs.lemmas.Option.{slice_get_read}
use Rattle.shard.proofs.least_live.note_before.Goals as goal

pub returns-then-index-gt0-clause-known : goal.returns-then-index-gt0-clause-known
returns-then-index-gt0-clause-known g c known =
    c.note_byte.ensures.known c.args.groups.now.items
    (slice_get_read c.args.groups.now.items _ (c.args.index - 1) c.index.result.now refl (omega (arith, c.requires.index, c.if-index-gt0.true)) c.index.ensures) known
