use Rattle.mesh_graph.proofs.Bits.{lanes-apart, told_zero}
use Rattle.mesh_graph.proofs.graph.are_apart.Goals as goal

pub returns : goal.returns
returns c = told_zero _ _ (lanes-apart c.args.words.now c.args.among.now c.args.at c.requires.words c.requires.among)
