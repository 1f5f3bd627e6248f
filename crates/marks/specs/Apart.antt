-- Heads that stand apart from those before. No public clause cites this module.
use Rattle.std.specs.Prelude.{ℕ, ◌<◌, ◌≤◌, List}
use Rattle.std.specs.List.{All, IsDistinct}
use Rattle.span.specs.Ids.{rank, same_span}
use Rattle.span.specs.declared.entry.Entry.{Entry}
use Rattle.mesh_graph.specs.Groups.{ids}

-- each id stands once, and the ranks of all are from one number on and below another
pub record AreWithin (low high : ℕ) (entries : List Entry) : Type 0 where
  pub distinct : IsDistinct same_span (ids entries)
  pub from : All (λ x. low ≤ rank x.id) entries
  pub below : All (λ x. rank x.id < high) entries
