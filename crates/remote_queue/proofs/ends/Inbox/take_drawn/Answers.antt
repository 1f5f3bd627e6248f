use Rattle.std.proofs.Common.{◌≤◌, ◌+◌, ◌-◌, All, arith, subst, sym}
use Rattle.std.proofs.lemmas.List.{drop-append-le}
use Rattle.std.proofs.lemmas.List.Elements.{All-drop}
use Rattle.rtrb.specs.Ring.{known_items, received}
use Rattle.remote_queue.specs.Drawn.{drawn_keys}
use Rattle.remote_queue.specs.Rings.{IsInRange}
use Rattle.remote_queue.proofs.DrawnKeys.{drawn_keys-drop, length-drawn_keys, rest_of_drawn, taken_of_drawn}
use Rattle.remote_queue.proofs.ends.Inbox.take_drawn.Goals as goal

pub invariant_of-self-inside : goal.invariant_of-self-inside
invariant_of-self-inside c =
    let i = c.self.inside in
    let few : c.args.count ≤ i.end - i.next = rw (← c.self.view_is) at c.requires in
    let within : i.next + c.args.count ≤ i.end = omega (arith, few, i.in_block.0) in
    let keys = drawn_keys i.next i.end i.block.items in
    let long = length-drawn_keys i.next i.end i.block.items (omega (arith, i.in_block.1, i.block.ok.0)) in
    let left = drawn_keys-drop i.next i.end c.args.count i.block.items within in (
      i.capacity_in_range,
      (
        i.block_in_range,
        (
          (within, i.in_block.1),
          (
            rest_of_drawn (received i.consumer) i.block.items i.next i.end c.args.count i.received_last long within,
            (subst (All IsInRange) (sym left) (All-drop IsInRange c.args.count keys i.keys_in_range), tt),
          ),
        ),
      ),
    )

pub returns-clause-taken : goal.returns-clause-taken
returns-clause-taken c =
    let i = c.self.inside in
    let few : c.args.count ≤ i.end - i.next = rw (← c.self.view_is) at c.requires in
    let long = length-drawn_keys i.next i.end i.block.items (omega (arith, i.in_block.1, i.block.ok.0)) in
    rw (← c.self.view_is) (taken_of_drawn (received i.consumer) i.block.items (known_items i.consumer) i.next i.end c.args.count i.received_last long (omega (arith, few, i.in_block.0)))

pub returns-clause-known : goal.returns-clause-known
returns-clause-known c =
    let i = c.self.inside in
    let few : c.args.count ≤ i.end - i.next = rw (← c.self.view_is) at c.requires in
    let long = length-drawn_keys i.next i.end i.block.items (omega (arith, i.in_block.1, i.block.ok.0)) in
    rw (← c.self.view_is, drawn_keys-drop i.next i.end c.args.count i.block.items (omega (arith, few, i.in_block.0)))
    (sym (drop-append-le c.args.count (drawn_keys i.next i.end i.block.items) (known_items i.consumer) (omega (arith, few, long))))
