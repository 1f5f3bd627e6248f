use Rattle.trace_runner.proofs.run.Run.thread_call.Goals as goal

pub returns-in-Get-clause-made : goal.returns-in-Get-clause-made
returns-in-Get-clause-made c done finds = rw (c.in-Get.is, ← c.key_of-key.ensures.found done (rw c.in-Get.is at finds)) c.get.ensures.made

pub returns-in-Set-clause-made : goal.returns-in-Set-clause-made
returns-in-Set-clause-made c done finds = rw (c.in-Set.is, ← c.key_of-key-in-Set.ensures.found done (rw c.in-Set.is at finds)) c.set.ensures.made

pub returns-in-Free-clause-made : goal.returns-in-Free-clause-made
returns-in-Free-clause-made c done finds = rw (c.in-Free.is, ← c.key_of-key-in-Free.ensures.found done (rw c.in-Free.is at finds)) c.free.ensures.made

pub later-requires-clause-home : goal.later-requires-clause-home
later-requires-clause-home c = c.key_of-key-in-Later.ensures.home c.args.self.now.core.limits.shards c.requires.home

pub returns-in-Later-clause-made : goal.returns-in-Later-clause-made
returns-in-Later-clause-made c done finds = rw (c.in-Later.is, ← c.key_of-key-in-Later.ensures.found done (rw c.in-Later.is at finds)) c.later.ensures.made

pub returns-in-Sweep-clause-made : goal.returns-in-Sweep-clause-made
returns-in-Sweep-clause-made c done finds = rw c.in-Sweep.is (c.sweep.ensures.made done _ (rw c.in-Sweep.is at finds))
