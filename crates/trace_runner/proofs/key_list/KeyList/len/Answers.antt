use Rattle.trace_runner.proofs.Giving.{length-all}
use Rattle.trace_runner.proofs.key_list.KeyList.len.Goals as goal

pub returns-clause-count : goal.returns-clause-count
returns-clause-count c =
    let k = c.self.inside in
    rw (← c.self.view_is, length-all k.keys.items k.closed.items k.place k.above k.refused c.self.invariant.0 c.self.invariant.1)
    (rw (c.len.ensures, k.keys.ok.0) at c.sum.ensures.count)

pub returns-clause-err : goal.returns-clause-err
returns-clause-err c =
    let k = c.self.inside in
    rw (← c.self.view_is, length-all k.keys.items k.closed.items k.place k.above k.refused c.self.invariant.0 c.self.invariant.1)
    (rw (c.len.ensures, k.keys.ok.0) at c.sum.ensures.err)
