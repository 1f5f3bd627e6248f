use Rattle.shard.proofs.ListedSets.{IsShiftedUp-none, none-found}
use Rattle.shard.proofs.set_lists.shift_up.Goals as goal

pub returns-then-is_none : goal.returns-then-is_none
returns-then-is_none c = IsShiftedUp-none c.args.index c.args.set.now (none-found _ c.lowest.result c.is_none.result c.is_none.ensures c.if-is_none.true c.lowest.ensures.lowest)

pub returns : goal.returns
returns c = record { below = c.shift_up.ensures.below; this = c.shift_up.ensures.this; above = c.shift_up.ensures.above; room = c.shift_up.ensures.room }

pub shift_up-requires-clause-room : goal.shift_up-requires-clause-room
shift_up-requires-clause-room c n member = (c.requires.room n member).1
