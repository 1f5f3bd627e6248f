use Rattle.thread_runner.proofs.Names.{AreKnown}
use Rattle.thread_runner.proofs.Growing.{Tells-tended}
use Rattle.thread_runner.proofs.caller.Caller.tend.Goals as goal

pub returns-clause-told : goal.returns-clause-told
returns-clause-told g c kept =
    Tells-tended _ _ c.args.number c.in_ok-count.count (AreKnown kept c.args.self.now.fresh.items) c.args.self.now.diary c.tend.new.self c.keep_other.new.self _ _
    c.in_ok-count.ensures.told c.in_ok-keep_other.ensures
