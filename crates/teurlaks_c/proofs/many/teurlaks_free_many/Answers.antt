use Rattle.std.proofs.Common.{refl}
use Rattle.teurlaks_c.proofs.many.teurlaks_free_many.Goals as goal

pub returns-clause-live : goal.returns-clause-live
returns-clause-live c live = (
  refl,
  (record {
    before = c.in-Some.held.now;
    after = record c.in-Some.held.now { core = c.free_all.new.core };
    before_is = c.in-Some.ensures.value;
    after_is = refl;
    does = c.free_all.ensures;
    same = refl;
    compaction = refl;
  }),
)
