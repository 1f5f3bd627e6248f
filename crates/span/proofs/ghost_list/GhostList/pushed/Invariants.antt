use Rattle.std.proofs.Common.{[], ◌∷◌, ◌++◌}
use Rattle.span.proofs.ghost_list.GhostList.pushed.Given as goal

abbrev pub ghost-of : goal.ghost-of
ghost-of g a = a._first.now.items ++ a._second.now ∷ []
