use Rattle.std.proofs.Common.{◌-◌, get_or, arith, rules}
use Rattle.std.proofs.lemmas.Option.{slice_get-get_or}
use Rattle.audit.specs.declared.slot.SlotChange.{SlotChange}
use Rattle.audit.proofs.BySlot.{last_split, quiet_split, quiet_split_other}
use Rattle.audit.proofs.slot.last_before.Goals as goal

pub returns-then-n-eq0 : goal.returns-then-n-eq0
returns-then-n-eq0 c changes by inside = search (rules, quiet_split)

pub returns-then-last-slot : goal.returns-then-last-slot
returns-then-last-slot c changes by inside =
    let found = c.args.found.now in
    let n = c.count_before-n.result in
    let x : SlotChange = get_or found (n - 1) (record { slot = 0; high = 0; low = 0 }) in
    rw c.place.ensures (last_split changes found by c.args.slot c.args.at n c.slot_rank-rank.result (omega (arith, c.ranges.at)) c.slot_rank-rank.ensures c.count_before-n.ensures x (omega (arith, c.if-n-eq0.false))
    (slice_get-get_or found (n - 1) (record { slot = 0; high = 0; low = 0 }) (omega (arith, c.if-n-eq0.false, c.count_before-n.ensures.bound))) c.if-last-slot.true)

pub returns-else-last-slot : goal.returns-else-last-slot
returns-else-last-slot c changes by inside =
    let found = c.args.found.now in
    let n = c.count_before-n.result in
    let x : SlotChange = get_or found (n - 1) (record { slot = 0; high = 0; low = 0 }) in
    quiet_split_other changes found by c.args.slot c.args.at n c.slot_rank-rank.result
    (omega (arith, c.ranges.at)) c.slot_rank-rank.ensures c.count_before-n.ensures x (omega (arith, c.if-n-eq0.false))
    (slice_get-get_or found (n - 1) (record { slot = 0; high = 0; low = 0 }) (omega (arith, c.if-n-eq0.false, c.count_before-n.ensures.bound))) c.if-last-slot.false
