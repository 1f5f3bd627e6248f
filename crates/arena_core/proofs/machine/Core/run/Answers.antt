use Rattle.std.proofs.Common.{arith}
use Rattle.arena_core.proofs.Runs.{Answers-push}
use Rattle.arena_core.proofs.machine.Core.run.Goals as goal

pub loop-event-preserved : goal.loop-event-preserved
loop-event-preserved g c = record {
  answers = Answers-push c.args.self.now c.loop-event.self c.step-reply.new.self c.args.events.now c.loop-event.event-index c.event-item.result c.step-reply.result
      c.args.replies.now.items c.loop-event.replies.items c.push_reserved.new.self.items c.loop-event-test.true c.event-item.is
      c.loop-event.invariant.answers c.step-reply.ensures.exact c.step-reply.ensures.plain c.step-reply.ensures.sound c.push_reserved.ensures.items;
  sound = c.step-reply.ensures.sound;
  room = omega arith;
}
