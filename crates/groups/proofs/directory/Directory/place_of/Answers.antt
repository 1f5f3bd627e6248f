use Rattle.std.proofs.Common.{rules}
use Rattle.std.specs.FinMap as map
use Rattle.span.specs.Ids.{rank}
use Rattle.groups.proofs.directory.Directory.place_of.Goals as goal

pub returns-then-is_empty : goal.returns-then-is_empty
returns-then-is_empty c = search (rules, map.get-empty)

pub returns : goal.returns
returns c = rw (← c.self.view_is, ← c.rank.ensures.value) c.get.ensures
