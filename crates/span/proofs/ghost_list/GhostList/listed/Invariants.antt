use Rattle.span.proofs.ghost_list.GhostList.listed.Given as goal

abbrev pub ghost-of : goal.ghost-of
ghost-of g a = a._first.now.items
