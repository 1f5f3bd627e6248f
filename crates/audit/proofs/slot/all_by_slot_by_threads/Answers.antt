use Rattle.std.proofs.Common.{◌≡◌, ◌∙◌, ◌++◌, drop, length, take, vec_items, arith}
use Rattle.std.proofs.lemmas.List.{take-append-le, take_all}
use Rattle.audit.proofs.Sorting.{AreBySlot-sorted}
use Rattle.audit.proofs.slot.all_by_slot_by_threads.Goals as goal

pub returns : goal.returns
returns g c =
    let old = c.in_ok-orders.orders.items in
    let new = c.sort_all.new.found in
    let made = c.in_ok-orders.ensures {u = tt} in
    let whole = c.in_ok-orders.orders.ok.0 in
    let same : length new ≡ length old = omega (arith, c.sort_all.auto.found, c.as_mut_slice.ensures.len, whole) in
    let is : take c.in_ok-orders.orders.len (new ++ drop (length new) old) ≡ new =
    take-append-le c.in_ok-orders.orders.len new (drop (length new) old) (omega arith) ∙ take_all c.in_ok-orders.orders.len new (omega arith) in
    record {
      len = made.len;
      each = rw is (AreBySlot-sorted vec_items c.args.logs.now old new same made.each (rw c.as_mut_slice.ensures.value at c.sort_all.ensures));
    }
