use Rattle.arena.proofs.arena.Arena.locate_lent.Goals as goal

pub in_all-requires-clause-unsharded : goal.in_all-requires-clause-unsharded
in_all-requires-clause-unsharded g c = c.number_with.ensures.nowhere c.in-None.is
