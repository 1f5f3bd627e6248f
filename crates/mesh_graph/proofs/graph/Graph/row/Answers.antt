use Rattle.std.proofs.Common.{ap, ◌∙◌}
use Rattle.lane_kernels.specs.Rows.{row_at, width_of}
use Rattle.mesh_graph.proofs.Building.{lent-bits, lent-within, lent-words}
use Rattle.mesh_graph.proofs.graph.Graph.row.Goals as goal

pub row_of-requires : goal.row_of-requires
row_of-requires c = rw c.deref.ensures.value
    (lent-within c.self.inside.snapshot.now c.args.self.now c.self.inside.rows.items c.owned.result c.args.i c.self.view_is c.self.invariant c.requires
    c.owned.ensures.count)

pub returns-clause-bits : goal.returns-clause-bits
returns-clause-bits c =
    lent-bits c.self.inside.snapshot.now c.args.self.now c.self.inside.rows.items c.owned.result c.args.i c.self.view_is c.self.invariant c.requires c.owned.ensures.count c.row_of.result.now
    (c.row_of.ensures ∙ ap (λ words. row_at (width_of c.owned.result) words c.args.i) c.deref.ensures.value)

pub returns-clause-words : goal.returns-clause-words
returns-clause-words c =
    lent-words c.self.inside.snapshot.now c.args.self.now c.self.inside.rows.items c.owned.result c.args.i c.self.view_is c.self.invariant c.requires c.owned.ensures.count c.row_of.result.now
    (c.row_of.ensures ∙ ap (λ words. row_at (width_of c.owned.result) words c.args.i) c.deref.ensures.value)
