use Rattle.std.proofs.Common.{refl, zero}
use Rattle.groups.proofs.SetGroups.{IsKept-set}
use Rattle.groups.proofs.spans.Spans.set_in_head.Goals as goal

pub invariant_of-self-2 : goal.invariant_of-self-2
invariant_of-self-2 g c =
    let inside = c.self.inside in
    let done = c.in_ok-done.ensures in
    IsKept-set (record { head = inside.head; guests = inside.guests.items }) inside.occupied c.self.invariant inside.head c.args.slot c.args.generation
    c.args.words.now zero refl c.in_ok-done.done c.set_held.new.self done.found done.set done.unknown
