use Rattle.std.proofs.Common.{refl, ◌∙◌}
use Rattle.arena_core.specs.declared.reply.Reply.TheVariants.{Refused}
use Rattle.teurlaks_c.proofs.meshing.teurlaks_mark_some.Goals as goal

pub returns-in-Err-clause-live : goal.returns-in-Err-clause-live
returns-in-Err-clause-live c live = record {
  before = c.in-Some.held.now;
  after = record { core = c.in-Some.held.now.core; last = c.take_room.new.self; compaction = c.in-Some.held.now.compaction };
  reply = Refused c.refused_mark_some.result;
  before_is = c.in-Some.ensures.value;
  after_is = refl;
  replies = record { exact = c.refused_mark_some.ensures.exact; plain = refl; sound = c.refused_mark_some.ensures.sound };
  told = c.unmarked-in-Err.ensures ∙ c.status_of.ensures;
  keeps = c.in-Err.ensures.err;
  compaction = refl;
}
