use Rattle.std.proofs.Common.{◌∙◌, ap, sym}
use Rattle.std.specs.FinMap as map
use Rattle.std.specs.Ordering.{nat_cmp}
use Rattle.span.specs.Ids.{rank}
use Rattle.shard.specs.Guests.{GuestsState}
use Rattle.shard.proofs.NoGuests.{bare-unmade}
use Rattle.shard.proofs.late_guests.LateGuests.place_of.Goals as goal

pub returns-in-None : goal.returns-in-None
returns-in-None g c =
    let bare = bare-unmade (λ box. box.value) c.self.inside.guests c.in-None.is c.args.self.now c.self.view_is in
    sym (ap (λ (late : GuestsState). map.get late.directory.entries (rank c.args.guest)) bare ∙ map.get-empty nat_cmp (rank c.args.guest))
