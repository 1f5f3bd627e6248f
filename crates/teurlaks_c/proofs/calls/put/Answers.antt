use Rattle.std.proofs.Common.{refl}
use Rattle.arena_core.specs.declared.reply.Reply.TheVariants.{Issued, Refused}
use Rattle.teurlaks_c.proofs.calls.put.Goals as goal

pub returns-in-Ok-clause-live : goal.returns-in-Ok-clause-live
returns-in-Ok-clause-live c live = (
  Issued c.in-Ok.key,
  (record {
    before = c.in-Some.held.now;
    after = record c.in-Some.held.now { core = c.put_words.new.self };
    before_is = c.in-Some.ensures.value;
    after_is = refl;
    replies = record { exact = c.in-Ok.ensures.exact; plain = c.in-Ok.ensures.plain; sound = c.put_words.ensures.sound };
    same = refl;
    compaction = refl;
  }),
  (refl, c.raw_of.ensures),
)

pub returns-in-Err-clause-live : goal.returns-in-Err-clause-live
returns-in-Err-clause-live c live = (
  Refused c.in-Err.refusal,
  (record {
    before = c.in-Some.held.now;
    after = record c.in-Some.held.now { core = c.put_words.new.self };
    before_is = c.in-Some.ensures.value;
    after_is = refl;
    replies = record { exact = c.in-Err.ensures.exact; plain = c.in-Err.ensures.plain; sound = c.put_words.ensures.sound };
    same = refl;
    compaction = refl;
  }),
  c.status_of.ensures,
)
