use Rattle.std.proofs.Common.{subst}
use Rattle.teurlaks_c.specs.SeatCalls.{SetsBy}
use Rattle.teurlaks_c.proofs.seats.set_wide.Goals as goal

pub returns : goal.returns
returns c =
    subst (λ words. SetsBy c.args.handle.now.share c.args.key words c.set_values.result c.set_values.new.handle.share) c.join_all.ensures
    c.set_values.ensures
