use Rattle.trace_runner.proofs.Names.{◌+◌, ◌∙◌, ap, on_ok_weaker, begins_again, is_call, thread_of, kept_in, has, leavers_in}
use Rattle.trace_runner.proofs.Making.{MakesLine-adopt, MakesLine-call, MakesLine-mark, MakesLine-silent}
use Rattle.trace_runner.proofs.Shards.{EndsBelow-before, IsOpen-others, TurnsBelow-begins, TurnsBelow-ends, TurnsBelow-none, on_ok_always}
use Rattle.trace_runner.proofs.run.Run.line.Goals as goal

pub thread_line-requires-clause-thread : goal.thread_line-requires-clause-thread
thread_line-requires-clause-thread g c runs = c.requires.ready.running c.in-Call.thread (ap thread_of c.in-Call.is) (ap (is_call begins_again) c.in-Call.is ∙ runs)

pub thread_line-requires-clause-rests : goal.thread_line-requires-clause-rests
thread_line-requires-clause-rests g c again = c.requires.ready.resting c.in-Call.thread (ap thread_of c.in-Call.is) (ap (is_call begins_again) c.in-Call.is ∙ again)

pub adopt-requires : goal.adopt-requires
adopt-requires g c =
    let of = ap thread_of c.in-Adopt.is in (
      IsOpen-others _ _ _ _ c.in_ok-settle-in-Adopt.ensures.shards c.in-Adopt.shard (c.requires.ready.stays c.in-Adopt.shard of)
          (c.requires.ready.running c.in-Adopt.shard of (ap (is_call begins_again) c.in-Adopt.is)),
      c.in_ok-settle-in-Adopt.ensures.unplanned,
    )

pub returns-in-Silent-clause-made : goal.returns-in-Silent-clause-made
returns-in-Silent-clause-made g c done finds =
    rw c.in-Silent.is (MakesLine-silent (c.args.place + 6) c.args.self.now.trace.now.header.shards (leavers_in c.args.self.now) c.args.self.now.core (kept_in c.args.self.now.replies) c.args.self.now.plans)

pub returns-in_ok-thread_line-in-Call-clause-made : goal.returns-in_ok-thread_line-in-Call-clause-made
returns-in_ok-thread_line-in-Call-clause-made g c done finds =
    let follows = rw c.thread_line.ensures.plans at (c.follow.ensures.made (kept_in c.thread_line.new.self.replies)) in
    let first = c.place-first.ensures c.args.line.now c.requires.here in
    let found = rw c.in-Call.is at (rw (← first) at finds) in
    rw c.in-Call.is (on_ok_weaker c.follow.result
    (MakesLine-call (c.args.place + 6) c.args.self.now.trace.now.header.shards (leavers_in c.args.self.now) c.args.self.now.core
    (kept_in c.args.self.now.replies) c.args.self.now.plans c.in-Call.thread _ _ c.thread_line.new.self.core
    c.follow.new.core (kept_in c.thread_line.new.self.replies) c.follow.new.self (c.in_ok-thread_line-in-Call.ensures.made done found)) follows)

pub returns-in_ok-settle-in-Adopt-clause-made : goal.returns-in_ok-settle-in-Adopt-clause-made
returns-in_ok-settle-in-Adopt-clause-made g c done finds =
    rw (c.in-Adopt.is, c.adopt.ensures.plans)
    (on_ok_weaker c.adopt.result (MakesLine-adopt (c.args.place + 6) c.args.self.now.trace.now.header.shards (leavers_in c.args.self.now) c.args.self.now.core
    (kept_in c.args.self.now.replies) c.args.self.now.plans c.settle.new.self.core
    (kept_in c.settle.new.self.replies) c.settle.new.self.plans c.in_ok-settle-in-Adopt.ensures.made c.settle.ensures.rest c.in-Adopt.shard _
    c.adopt.new.self.core (kept_in c.adopt.new.self.replies)) c.adopt.ensures.made)

pub returns-in_ok-settle-in-Mark-clause-made : goal.returns-in_ok-settle-in-Mark-clause-made
returns-in_ok-settle-in-Mark-clause-made g c done finds =
    rw c.in-Mark.is (on_ok_weaker c.mark.result
    (MakesLine-mark (c.args.place + 6) c.args.self.now.trace.now.header.shards (leavers_in c.args.self.now) c.args.self.now.core
    (kept_in c.args.self.now.replies) c.args.self.now.plans c.settle-in-Mark.new.self.core
    (kept_in c.settle-in-Mark.new.self.replies) c.settle-in-Mark.new.self.plans c.in_ok-settle-in-Mark.ensures.made c.settle-in-Mark.ensures.rest
    c.mark.new.core (kept_in c.mark.new.replies) c.mark.new.self c.mark.ensures.rest) c.mark.ensures.made)

pub returns-in-Silent-clause-shards : goal.returns-in-Silent-clause-shards
returns-in-Silent-clause-shards g c = rw c.in-Silent.is (TurnsBelow-none c.args.self.now.core c.args.self.now.trace.now.header.shards)

pub returns-in_ok-thread_line-in-Call-clause-shards : goal.returns-in_ok-thread_line-in-Call-clause-shards
returns-in_ok-thread_line-in-Call-clause-shards g c = on_ok_always c.follow.result
    (rw c.in-Call.is (TurnsBelow-begins c.args.self.now.core c.thread_line.new.self.core c.follow.new.core c.args.self.now.trace.now.header.shards _
    c.thread_line.ensures.shards c.follow.ensures.shards))

pub returns-in_ok-settle-in-Adopt-clause-shards : goal.returns-in_ok-settle-in-Adopt-clause-shards
returns-in_ok-settle-in-Adopt-clause-shards g c = on_ok_always c.adopt.result
    (rw c.in-Adopt.is (TurnsBelow-ends c.args.self.now.core c.adopt.new.self.core c.args.self.now.trace.now.header.shards (has c.args.self.now.leaving)
    (EndsBelow-before _ _ _ _ _ c.in_ok-settle-in-Adopt.ensures.shards c.adopt.ensures.shards.shards)))

pub returns-in_ok-settle-in-Mark-clause-shards : goal.returns-in_ok-settle-in-Mark-clause-shards
returns-in_ok-settle-in-Mark-clause-shards g c = on_ok_always c.mark.result
    (rw c.in-Mark.is (TurnsBelow-ends c.args.self.now.core c.mark.new.core c.args.self.now.trace.now.header.shards (has c.args.self.now.leaving)
    (EndsBelow-before _ _ _ _ _ c.in_ok-settle-in-Mark.ensures.shards c.mark.ensures.shards)))
