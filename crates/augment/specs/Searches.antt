-- How far the walks of a search have come. No public clause cites this module.
use Rattle.std.specs.Prelude.{ℕ, ◌+◌, length}
use Rattle.augment.specs.Walks.{IsSearch, unpassed}
use Rattle.augment.specs.declared.mates.Mates.{Mates}
use Rattle.augment.specs.declared.walks.Walks.{Walks}
use Rattle.mesh_graph.specs.Groups.{Groups}

-- the walks have searched their entries below next
abbrev pub HaveSearched : Groups → Mates → Walks → ℕ → Type 0
HaveSearched graph mates walks next = IsSearch graph mates.onto.items walks.entries.items
    walks.reached.passed.items next

-- how many entries the walks have at most in the end: each place that was not passed may give one
abbrev pub most_entries : Walks → ℕ
most_entries walks = length walks.entries.items + unpassed walks.reached.passed.items
