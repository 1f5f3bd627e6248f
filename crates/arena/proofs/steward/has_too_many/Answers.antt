use Rattle.std.proofs.Common.{◌∙◌, ap}
use Rattle.marks.proofs.Entries.{too_many-owned}
use Rattle.arena.specs.Amounts.{at_most_word}
use Rattle.arena.specs.Locked.{lent_by, those_lent}
use Rattle.arena.proofs.LentPages.{pages-lent}
use Rattle.arena.proofs.steward.has_too_many.Goals as goal

pub returns-else-pages-gt-MOST_GROUPS : goal.returns-else-pages-gt-MOST_GROUPS
returns-else-pages-gt-MOST_GROUPS g c =
    let lent = lent_by c.args.shards.now in
    too_many-owned c.args.pool.now (those_lent lent) c.pages.result c.owned_totals.result.pages c.pages.ensures c.if-pages-gt-MOST_GROUPS.false
    (c.owned_totals.ensures.pages ∙ ap at_most_word (pages-lent lent))
