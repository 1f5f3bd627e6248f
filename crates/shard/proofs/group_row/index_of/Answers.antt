use Rattle.std.proofs.Common.{◌≡◌, ◌∙◌, Some, ap, length, refl, slice_get, sym}
use Rattle.std.proofs.lemmas.Option.{slice_get_read}
use Rattle.span.specs.Ids.{rank}
use Rattle.shard.specs.Row.{in_order}
use Rattle.shard.proofs.HeadOrder.{lower_here}
use Rattle.shard.proofs.Orders.{below_count, get-in_order, index_of}
use Rattle.shard.proofs.group_row.index_of.Goals as goal

pub returns : goal.returns
returns g c =
    let at = index_of (length c.args.groups.now) c.args.order.now c.requires.order c.args.place c.requires.within in
    let group = c.index-groups-place.result in
    let stands : slice_get (in_order c.args.groups.now c.args.order.now) at.0 ≡ Some group =
    get-in_order c.args.groups.now c.args.order.now (below_count (length c.args.groups.now) c.args.order.now c.requires.order) at.0 c.args.place at.1
    ∙ slice_get_read c.args.groups.now (length c.args.groups.now) c.args.place group refl c.requires.within c.index-groups-place.is in
    let same = lower_here (in_order c.args.groups.now c.args.order.now) c.requires.ascend c.head_id.result at.0 group stands c.lower_heads.result (ap rank (sym c.head_id.ensures))
    c.lower_heads.ensures.lower c.lower_heads.ensures.others in
    ap (slice_get c.args.order.now) same ∙ at.1
