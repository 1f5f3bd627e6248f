use Rattle.mesh_graph.proofs.OfClass.{row_bit-set}
use Rattle.mesh_graph.proofs.by_class.set_bit.Goals as goal

pub returns-clause-bits : goal.returns-clause-bits
returns-clause-bits c = row_bit-set c.args.width c.args.i c.args.j c.args.words.now c.requires.bit c.requires.within
