use Rattle.std.proofs.Common.{◌∙◌}
use Rattle.shard.proofs.NoGuests.{bare-unmade, guests-moved_none}
use Rattle.shard.proofs.late_guests.LateGuests.move_all.Goals as goal

pub returns-in_default : goal.returns-in_default
returns-in_default g c =
    let bare = bare-unmade (λ box. box.value) c.self.inside.guests c.in_default.is c.args.self.now c.self.view_is in
    c.self.view_is ∙ guests-moved_none c.args.self.now bare c.args.guests.now c.args.head c.requires
