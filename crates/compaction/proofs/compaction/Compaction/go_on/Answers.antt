use Rattle.std.proofs.Common.{arith}
use Rattle.compaction.specs.Compacts.{going}
use Rattle.compaction.proofs.Pages.{pages-IsWithin}
use Rattle.compaction.proofs.compaction.Compaction.go_on.Goals as goal

pub overflow_sub-result : goal.overflow_sub-result
overflow_sub-result c = omega (
  arith,
  c.totals-before.ensures.pages,
  c.totals-after.ensures.pages,
  pages-IsWithin c.max.result c.take_steps-standing.result (going c.args.self.now c.args.core.now) (going c.take_steps-standing.new.self c.take_steps-standing.new.core) c.take_steps-standing.ensures.steps,
)

pub returns-clause-pages : goal.returns-clause-pages
returns-clause-pages c = omega (
  arith,
  c.totals-before.ensures.pages,
  c.totals-after.ensures.pages,
  pages-IsWithin c.max.result c.take_steps-standing.result (going c.args.self.now c.args.core.now) (going c.take_steps-standing.new.self c.take_steps-standing.new.core) c.take_steps-standing.ensures.steps,
)
