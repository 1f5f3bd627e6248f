use Rattle.std.proofs.Common.{[]}
use Rattle.span.proofs.ghost_list.GhostList.new.Given as goal

abbrev pub ghost-named : goal.ghost-named
ghost-named g a = []
