use Rattle.thread_runner.proofs.Names.{refl}
use Rattle.thread_runner.proofs.Taking.{TellsTending-tended}
use Rattle.thread_runner.proofs.diary.Diary.tend.Goals as goal

pub returns-clause-told : goal.returns-clause-told
returns-clause-told g c = let h = c.in_ok-count.ensures.tended in let k = c.in_ok-note.ensures in
    TellsTending-tended _ c.in_ok-count.count c.args.seat.now c.tend.new.self c.args.self.now
    (record c.args.self.now { receipts = c.tend.new.receipts }) c.note.new.self refl h c.tend.ensures.seat.0 c.tend.ensures.seat.1 k
