use Rattle.std.proofs.Common.{ap, ℕ}
use Rattle.groups.specs.LateTable.{TableState}
use Rattle.arena_core.proofs.whereabouts.Whereabouts.new.Goals as goal

pub returns : goal.returns
returns c = ap (λ (t : TableState ℕ). t.entries) c.new.ensures
