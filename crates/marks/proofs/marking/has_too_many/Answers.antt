use Rattle.std.proofs.Common.{map}
use Rattle.marks.proofs.Entries.{too_many-owned}
use Rattle.marks.proofs.marking.has_too_many.Goals as goal

pub returns-else-pages-gt-MOST_GROUPS : goal.returns-else-pages-gt-MOST_GROUPS
returns-else-pages-gt-MOST_GROUPS g c =
    too_many-owned c.args.pool.now (map g.H.LendsShard.lent c.args.shards.now) c.pages.result c.owned_pages.result c.pages.ensures c.if-pages-gt-MOST_GROUPS.false c.owned_pages.ensures
