use Rattle.span.proofs.ghost_list.GhostList.of.Given as goal

abbrev pub ghost-named : goal.ghost-named
ghost-named g a = g.items
