use Rattle.std.proofs.Common.{◌∙◌, ap, arith, refl, sym}
use Rattle.std.specs.Prelude.{vec_capacity}
use Rattle.shard.proofs.GuestRoom.{IsGuestRoom-here}
use Rattle.shard.proofs.HeadsHere.{head_among-here, head_among-none, head_read}
use Rattle.shard.specs.Moves.{head_among}
use Rattle.shard.proofs.shard.moves.room_for_guests.Goals as goal

pub returns-in_default-head_index-clause-head : goal.returns-in_default-head_index-clause-head
returns-in_default-head_index-clause-head g c = sym (ap (head_among c.args.groups.now.items) c.in-Some.is ∙ head_among-none c.args.groups.now.items c.in-Some.head c.in_default-head_index.ensures.head)

pub returns-clause-head : goal.returns-clause-head
returns-clause-head g c =
    sym (ap (head_among c.args.groups.now.items) c.in-Some.is
    ∙ head_among-here c.args.groups.now.items c.in-Some.head c.in-Some-head_index.index c.in-Some-head_index.ensures.head.0 c.in-Some-head_index.ensures.head.1)

pub returns-clause-room : goal.returns-clause-room
returns-clause-room g c =
    let found = c.in-Some-head_index.ensures.head in
    let here = head_read c.args.groups.now.items c.args.groups.now.items refl c.in-Some.head c.in-Some-head_index.index found c.index.result.now c.index.ensures in
    IsGuestRoom-here c.args.groups.now.items c.requires c.in-Some.head c.in-Some-head_index.index c.index.result.now here c.args.more (vec_capacity c.in_ok-room.room)
    (omega (arith, c.len-guests.ensures, c.guest_room.ensures, c.in_ok-room.ensures.exact, c.in_ok-room.room.small))
