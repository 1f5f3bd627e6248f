use Rattle.mesh_graph.proofs.Building.{within-from_bits}
use Rattle.mesh_graph.proofs.graph.Graph.next_partner_among.Goals as goal

pub returns-clause-within : goal.returns-clause-within
returns-clause-within c = within-from_bits c.args.self.now c.args.i c.row.result.now c.next_shared_bit.result c.row.ensures.bits c.next_shared_bit.ensures.set
