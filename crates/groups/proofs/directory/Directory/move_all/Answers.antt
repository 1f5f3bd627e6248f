use Rattle.std.proofs.Common.{refl}
use Rattle.std.proofs.lemmas.Option.{slice_get_read}
use Rattle.groups.proofs.Entries.{IsMoving-next}
use Rattle.groups.proofs.directory.Directory.move_all.Goals as goal

pub loop-index-preserved : goal.loop-index-preserved
loop-index-preserved g c =
    rw (c.move_to.ensures, c.id.ensures)
    (IsMoving-next c.args.self.now c.loop-index.self c.args.guests.now c.args.head c.loop-index.index c.loop-index.invariant c.index-guests-index.result
    (slice_get_read c.args.guests.now _ c.loop-index.index c.index-guests-index.result refl c.loop-index-test.true c.index-guests-index.is))
