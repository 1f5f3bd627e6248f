use Rattle.shard.proofs.ZeroPages.{Takes-first}
use Rattle.shard.proofs.shard.putting.page_of_first.Goals as goal

pub set_at-requires-clause-takes : goal.set_at-requires-clause-takes
set_at-requires-clause-takes c = Takes-first c.make_room.new.page c.args.class c.args.reach c.args.words.now (c.in_ok-make_room.ensures {u = tt}).ok
