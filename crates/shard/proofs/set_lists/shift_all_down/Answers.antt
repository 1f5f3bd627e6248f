use Rattle.std.proofs.Common.{arith}
use Rattle.shard.specs.Rooms.{IsShiftedDown}
use Rattle.shard.proofs.ListedSets.{AreChanged-all, IsShiftedDown-none}
use Rattle.shard.specs.Rooms.{no_numbers}
use Rattle.std.proofs.Common.{refl}
use Rattle.shard.proofs.set_lists.shift_all_down.Goals as goal

pub returns-clause-shifted : goal.returns-clause-shifted
returns-clause-shifted c = AreChanged-all (IsShiftedDown c.args.index) c.args.sets.now.items c.loop-at.sets.items c.loop-at.at c.loop-at.invariant
    (omega (arith, c.loop-at-test.false, c.loop-at.auto.at-end, c.len-at-end.ensures, c.args.sets.now.ok.0)) (IsShiftedDown-none c.args.index no_numbers refl)
