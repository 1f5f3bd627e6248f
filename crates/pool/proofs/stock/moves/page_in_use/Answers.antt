use Rattle.std.proofs.Common.{◌∙◌}
use Rattle.groups.proofs.EmptySets.{not_empty}
use Rattle.pool.proofs.stock.moves.page_in_use.Goals as goal

pub returns-clause-emptied : goal.returns-clause-emptied
returns-clause-emptied g c none = absurd (not_empty c.occupied.result c.lowest.result c.lowest.ensures.lowest (c.if-is_none.ensures {u = tt}) (c.occupied.ensures ∙ none))
