use Rattle.std.proofs.Common.{sym, rules}
use Rattle.audit.proofs.LogTable.{place_in-found, place_in-none, table_one}
use Rattle.audit.proofs.order.place_of.Goals as goal

pub returns-in-Some-clause-place : goal.returns-in-Some-clause-place
returns-in-Some-clause-place c = search (rules, place_in-found, table_one)

pub returns-in-None-clause-place : goal.returns-in-None-clause-place
returns-in-None-clause-place c = sym (place_in-none c.args.logs.now c.args.span ((c.in-None.ensures {u = tt}).found.1))
