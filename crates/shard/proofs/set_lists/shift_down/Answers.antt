use Rattle.shard.proofs.ListedSets.{IsShiftedDown-none, none-found}
use Rattle.shard.proofs.set_lists.shift_down.Goals as goal

pub returns-then-is_none : goal.returns-then-is_none
returns-then-is_none c = IsShiftedDown-none c.args.index c.args.set.now (none-found _ c.lowest.result c.is_none.result c.is_none.ensures c.if-is_none.true c.lowest.ensures.lowest)

pub returns : goal.returns
returns c = record { below = c.shift_down.ensures.below; above = c.shift_down.ensures.above; room = c.shift_down.ensures.room }
