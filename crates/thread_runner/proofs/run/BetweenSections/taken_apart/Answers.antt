use Rattle.thread_runner.proofs.Names.{given_by}
use Rattle.thread_runner.proofs.Keeping.{AreKept-given_by}
use Rattle.thread_runner.proofs.run.BetweenSections.taken_apart.Goals as goal

pub returns-clause-diaries : goal.returns-clause-diaries
returns-clause-diaries g c =
    let keys = c.args.self.keys in
    (given_by keys.kept.items, c.in_ok-seats.ensures.diaries (given_by keys.kept.items) (AreKept-given_by 0 keys.kept.items keys.end keys.apart))
