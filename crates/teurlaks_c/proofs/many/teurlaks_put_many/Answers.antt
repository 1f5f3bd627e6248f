use Rattle.std.proofs.Common.{refl}
use Rattle.teurlaks_c.proofs.many.teurlaks_put_many.Goals as goal

pub returns-clause-live : goal.returns-clause-live
returns-clause-live c live = record {
  before = c.in-Some.held.now;
  after = record c.in-Some.held.now { core = c.put_all.new.core };
  before_is = c.in-Some.ensures.value;
  after_is = refl;
  does = c.put_all.ensures;
  same = refl;
  compaction = refl;
}
