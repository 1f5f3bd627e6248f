use Rattle.std.proofs.Common.{◌≤◌, ◌+◌, length, take, vec_len, vec_capacity}
use Rattle.arena_core.specs.Sound.{IsSound}
use Rattle.arena_core.specs.Step.{Answers}
use Rattle.arena_core.proofs.machine.Core.run.Given as goal

abbrev pub invariant-loop-event : goal.invariant-loop-event
invariant-loop-event g l = record {
  answers : Answers l.fn.self (take l.event-index l.events) l.fn.replies.items l.replies.items l.self;
  sound : IsSound l.self;
  room : vec_len l.replies + length l.events ≤ vec_capacity l.replies + l.event-index;
}
