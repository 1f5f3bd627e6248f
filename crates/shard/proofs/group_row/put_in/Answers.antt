use Rattle.std.proofs.Common.{◌≡◌, ◌∙◌, ap, insert, length}
use Rattle.std.proofs.lemmas.List.{length_push}
use Rattle.shard.proofs.Orders.{IsOrder-insert, in_order-insert}
use Rattle.shard.proofs.group_row.put_in.Goals as goal

order_now : (g : _) (c : goal.After-push_reserved g) → c.insert_place.new.order.items ≡ insert c.args.order.now.items c.args.index (length c.args.groups.now.items)
order_now g c = c.insert_place.ensures.items ∙ ap (insert c.args.order.now.items c.args.index) (c.len.ensures ∙ c.args.groups.now.ok.0)

pub returns-clause-order : goal.returns-clause-order
returns-clause-order g c =
    rw (order_now g c, c.push_reserved.ensures.items, length_push c.args.groups.now.items c.args.group)
    (IsOrder-insert (length c.args.groups.now.items) c.args.order.now.items c.requires.order c.args.index)

pub returns-clause-items : goal.returns-clause-items
returns-clause-items g c =
    rw (order_now g c, c.push_reserved.ensures.items) (in_order-insert c.args.groups.now.items c.args.order.now.items c.requires.order c.args.index c.args.group)
