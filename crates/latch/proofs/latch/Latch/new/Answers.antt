use Rattle.std.proofs.Common.{rules}
use Rattle.latch.proofs.latch.Latch.new.Goals as goal

pub new-requires-2 : goal.new-requires-2
new-requires-2 g c = (
  search rules,
  search rules,
  λ free. (c.in-Ok.boxed, search rules),
)
