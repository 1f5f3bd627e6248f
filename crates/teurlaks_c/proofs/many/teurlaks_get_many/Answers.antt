use Rattle.std.proofs.Common.{refl}
use Rattle.teurlaks_c.proofs.many.teurlaks_get_many.Goals as goal

pub returns-clause-live : goal.returns-clause-live
returns-clause-live c live = (
  refl,
  (record {
    before = c.in-Some.held.now;
    after = c.in-Some.held.now;
    before_is = c.in-Some.ensures.value;
    after_is = refl;
    does = (refl, c.get_all.ensures);
    same = refl;
    compaction = refl;
  }),
)
