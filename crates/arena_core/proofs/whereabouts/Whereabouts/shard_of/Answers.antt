use Rattle.std.proofs.Common.{◌∙◌, Some, ap, sym}
use Rattle.arena_core.proofs.whereabouts.Whereabouts.shard_of.Goals as goal

pub returns-in-Some : goal.returns-in-Some
returns-in-Some c = rw (← c.self.view_is, ← c.rank.ensures.value) (ap Some c.from.ensures ∙ sym c.in-Some.is ∙ c.get.ensures)

pub returns-in-None : goal.returns-in-None
returns-in-None c = rw (← c.self.view_is, ← c.rank.ensures.value) (sym c.in-None.is ∙ c.get.ensures)
