use Rattle.std.proofs.Common.{◌∙◌, rules}
use Rattle.arena.proofs.SeatRings.{All-same}
use Rattle.stress.proofs.runs.run.Goals as goal

pub finish-requires-clause-seats : goal.finish-requires-clause-seats
finish-requires-clause-seats g c =
    let opened = c.in-Ok.ensures.seats in
    let same = c.in_ok-seats.ensures {u = tt} ∙ c.in_ok-workers-2.ensures {u = tt} ∙ c.in_ok-workers.ensures {u = tt} in
    let has = c.has_all.ensures.0 (search rules) in
    record {
      each = search rules;
      in_order = rw c.as_slice-5.ensures.value at has.1;
      of_table = All-same (λ seat. seat.table) (λ seat. seat.table) c.in-Ok.seats.items c.in_ok-seats.seats.items c.in-Ok.arena.table same opened.of_table;
    }
