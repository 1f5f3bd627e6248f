use Rattle.std.proofs.Common.{◌≡◌, ◌*◌, length}
use Rattle.span.specs.declared.class.TheConstants.{CLASSES}
use Rattle.mesh_graph.proofs.OfClass.{HaveFirst}
use Rattle.mesh_graph.proofs.by_class.mask_words.Given as goal

abbrev pub invariant-loop-j : goal.invariant-loop-j
invariant-loop-j l = record { size : length l.words.items ≡ l.width * CLASSES; bits : HaveFirst l.width l.words.items l.owned l.j }
