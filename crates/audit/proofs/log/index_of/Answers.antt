use Rattle.std.proofs.Common.{rules}
use Rattle.audit.proofs.LogTable.{log_read, none_placed}
use Rattle.audit.proofs.log.index_of.Goals as goal

pub returns-in_err-k-clause-found : goal.returns-in_err-k-clause-found
returns-in_err-k-clause-found c = search (rules, none_placed)

pub returns-clause-within : goal.returns-clause-within
returns-clause-within c = search (rules, log_read)

pub returns-clause-found : goal.returns-clause-found
returns-clause-found c =
    (log_read c.args.logs.now c.args.table.now c.args.span c.requires c.in_ok-k.k c.index.result.now
    (rw c.as_slice.ensures.value at c.in_ok-k.ensures.within) c.index.ensures
    (rw c.as_slice.ensures.value at (c.in_ok-k.ensures.found c.index.result.now))).1
