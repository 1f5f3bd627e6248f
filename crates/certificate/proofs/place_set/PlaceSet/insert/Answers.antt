use Rattle.std.proofs.Common.{arith}
use Rattle.mesh_graph.proofs.Bits.{has_bit-set}
use Rattle.certificate.proofs.place_set.PlaceSet.insert.Goals as goal

pub returns-clause-bits : goal.returns-clause-bits
returns-clause-bits c = λ other. has_bit-set c.args.self.now.words c.args.place (omega (arith, c.requires)) other
