use Rattle.std.proofs.Common.{◌∙◌, ap}
use Rattle.groups.specs.Dead.{dead_among}
use Rattle.shard.specs.Guests.{GuestsState}
use Rattle.shard.proofs.NoGuests.{bare-unmade, directory-struck_none}
use Rattle.shard.proofs.late_guests.LateGuests.strike_dead.Goals as goal

pub returns-in_default-clause-directory : goal.returns-in_default-clause-directory
returns-in_default-clause-directory g c =
    let bare = bare-unmade (λ box. box.value) c.self.inside.guests c.in_default.is c.args.self.now c.self.view_is in
    ap (λ (late : GuestsState). late.directory) c.self.view_is ∙ directory-struck_none c.args.self.now bare (dead_among c.args.guests.now)
