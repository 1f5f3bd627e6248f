use Rattle.std.proofs.Common.{vec_items, arith, rules}
use Rattle.std.proofs.lemmas.List.{length-map}
use Rattle.std.proofs.lemmas.Option.{MatchOption-at_some}
use Rattle.audit.specs.Tables.{full_row}
use Rattle.audit.proofs.Judging.{if_some, judged}
use Rattle.audit.proofs.by_threads.first_fault.Goals as goal

pub verdicts_of-requires-clause-records : goal.verdicts_of-requires-clause-records
verdicts_of-requires-clause-records g c κs within =
    let legal = MatchOption-at_some _ _ _ c.in-Some.is (c.in_ok-table.ensures {u = tt}) in
    let rows = if_some _ _ _ c.in-Some-2.is (c.in_ok-sections.ensures {u = tt}).len in
    let orders = c.in_ok-orders.ensures {u = tt} in
    rw (c.as_slice-sections.ensures.value, c.as_slice-orders.ensures.value) (record {
      table_is = legal.1;
      rows_len = let same = length-map c.in-Some-2.sections.items full_row in omega (arith, c.in-Some-2.sections.ok.0);
      orders_len = let same = length-map c.in_ok-orders.orders.items vec_items in let len = orders.len in omega (arith, c.in_ok-orders.orders.ok.0);
      orders_are = orders.each;
    })

pub returns : goal.returns
returns g c = search (rules, MatchOption-at_some, judged)
