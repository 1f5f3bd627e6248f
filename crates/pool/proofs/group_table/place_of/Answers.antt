use Rattle.std.proofs.Common.{◌∙◌, ap}
use Rattle.std.specs.FinMap as table
use Rattle.pool.proofs.group_table.place_of.Goals as goal

pub returns : goal.returns
returns c = c.get.ensures ∙ ap (table.get c.args.places.now.entries) c.rank.ensures.value
