use Rattle.thread_runner.proofs.Names.{◌≡◌, arith, rules, IsTrue, SeatState}
use Rattle.thread_runner.proofs.Delivering.{AreDelivered-settled, all_none, with_element}
use Rattle.thread_runner.proofs.Each.{All-each}
use Rattle.thread_runner.proofs.replay.logs_of.Goals as goal

pub finish-requires-clause-seats : goal.finish-requires-clause-seats
finish-requires-clause-seats g c =
    let there : IsTrue c.has_all.result = search rules in
    let both = rw c.as_slice.ensures.value at (c.has_all.ensures.0 there) in
    record { each = both.0; in_order = both.1; of_table = All-each (λ (seat : SeatState). seat.table ≡ c.args.arena.table) c.args.seats.items c.requires }

pub returns : goal.returns
returns g c =
    let seats = c.args.seats.items in
    let finished = c.in-Ok.finished in
    let counts = finished.counts.items in
    let empty : IsTrue c.were_empty.result = search rules in
    let none = rw c.as_slice-2.ensures.value at (c.were_empty.ensures empty) in
    AreDelivered-settled seats c.in-Ok.ensures.rings (λ shard below.
    with_element counts shard (omega (arith, below, c.in-Ok.ensures.counts, finished.counts.ok.0, c.args.seats.ok.0)) (λ d.
    with_element c.in_ok-receipts.receipts.items shard (omega (arith, below, c.in_ok-receipts.ensures, c.in_ok-receipts.receipts.ok.0, c.args.seats.ok.0)) (λ r.
    record {
      section = _;
      counts = _;
      before = _;
      after = _;
      settled = c.in-Ok.ensures.settled shard d r r (omega (arith, below, c.args.seats.ok.0));
      none = all_none _ (none shard d (omega (arith, below, c.in-Ok.ensures.counts, finished.counts.ok.0, c.args.seats.ok.0)));
    })))
