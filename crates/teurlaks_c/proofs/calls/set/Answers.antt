use Rattle.std.proofs.Common.{refl, subst, true, false}
use Rattle.std.specs.Prelude.{Some}
use Rattle.arena_core.specs.declared.event.Event.TheVariants.{Set}
use Rattle.arena_core.specs.declared.reply.Reply.TheVariants.{Replaced, Refused}
use Rattle.teurlaks_c.specs.Calls.{Steps}
use Rattle.teurlaks_c.proofs.calls.set.Goals as goal

pub returns-then-done-clause-live : goal.returns-then-done-clause-live
returns-then-done-clause-live c live = (
  Replaced true,
  subst (λ d. Steps c.args.handle.now.held (Set c.args.key.now c.args.words.now) (Replaced d) (Some (record c.in-Some.held.now { core = c.set.new.self }))) c.if-done.true (record {
    before = c.in-Some.held.now;
    after = record c.in-Some.held.now { core = c.set.new.self };
    before_is = c.in-Some.ensures.value;
    after_is = refl;
    replies = record { exact = c.in-Ok.ensures.exact; plain = c.in-Ok.ensures.plain; sound = c.set.ensures.sound };
    same = refl;
    compaction = refl;
  }),
  refl,
)

pub returns-else-done-clause-live : goal.returns-else-done-clause-live
returns-else-done-clause-live c live = (
  Replaced false,
  subst (λ d. Steps c.args.handle.now.held (Set c.args.key.now c.args.words.now) (Replaced d) (Some (record c.in-Some.held.now { core = c.set.new.self }))) c.if-done.false (record {
    before = c.in-Some.held.now;
    after = record c.in-Some.held.now { core = c.set.new.self };
    before_is = c.in-Some.ensures.value;
    after_is = refl;
    replies = record { exact = c.in-Ok.ensures.exact; plain = c.in-Ok.ensures.plain; sound = c.set.ensures.sound };
    same = refl;
    compaction = refl;
  }),
  refl,
)

pub returns-in-Err-clause-live : goal.returns-in-Err-clause-live
returns-in-Err-clause-live c live = (
  Refused c.in-Err.refusal,
  (record {
    before = c.in-Some.held.now;
    after = record c.in-Some.held.now { core = c.set.new.self };
    before_is = c.in-Some.ensures.value;
    after_is = refl;
    replies = record { exact = c.in-Err.ensures.exact; plain = c.in-Err.ensures.plain; sound = c.set.ensures.sound };
    same = refl;
    compaction = refl;
  }),
  c.status_of.ensures,
)
