use Rattle.std.proofs.Common.{◌∙◌, sym}
use Rattle.mesh_graph.proofs.OfClass.{OnTrue-one_class}
use Rattle.mesh_graph.proofs.by_class.are_of_one_class.Goals as goal

pub returns-else-not-are_all_of : goal.returns-else-not-are_all_of
returns-else-not-are_all_of c = OnTrue-one_class _ c.args.abandoned.now c.args.owned.now c.are_all_of-in-len1-up.result
    (sym c.are_all_of.ensures ∙ c.if-not-are_all_of.false) c.are_all_of-in-len1-up.ensures
