use Rattle.std.proofs.Common.{◌≡◌, ◌∙◌, ℕ, Some, ap, inl, inr, le-ltb, length, lt-ltb, nat_lt, rules, slice_get, sym}
use Rattle.std.specs.Prelude.{filter, not}
use Rattle.std.proofs.lemmas.Bool.{cases_lt}
use Rattle.std.proofs.lemmas.Fn.{filter_same}
use Rattle.std.proofs.lemmas.List.{length-take-le}
use Rattle.shard.specs.Group.{GroupState}
use Rattle.shard.specs.Leaving.{has_stayed}
use Rattle.shard.specs.Row.{IsOrder}
use Rattle.shard.proofs.Orders.{IsOrder-cut, below_count, filter-in_order, in_order-take}
use Rattle.shard.proofs.group_row.cut.Goals as goal

-- the entries below the number are left
order_now : (g : _) (c : goal.After-truncate g) → c.retain.new.self.items ≡ filter (λ place. nat_lt place c.args.stayed) c.args.order.now.items
order_now g c = filter_same _ (λ (place : ℕ). nat_lt place c.args.stayed) _ (λ x b f' k. search rules) _ _ c.retain.ensures.filtered

cut_order : (g : _) (c : goal.After-truncate g) → IsOrder c.args.stayed (filter (λ place. nat_lt place c.args.stayed) c.args.order.now.items)
cut_order g c = IsOrder-cut (length c.args.groups.now.items) c.args.order.now.items c.requires.order c.args.stayed c.requires.within

-- the places of those that have stayed are below the number
same : (g : _) (c : goal.After-truncate g) (place : ℕ) (group : GroupState) → slice_get c.args.groups.now.items place ≡ Some group → nat_lt place c.args.stayed ≡ has_stayed group
same g c place group here = elim (cases_lt place c.args.stayed) [
  | inl low ↦ lt-ltb place c.args.stayed low ∙ sym (ap not (c.requires.parted.stayed place group low here))
  | inr high ↦ le-ltb place c.args.stayed high ∙ sym (ap not (c.requires.parted.left place group high here))
]

pub returns-clause-order : goal.returns-clause-order
returns-clause-order g c = rw (order_now g c, c.truncate.ensures.items, length-take-le c.args.stayed c.args.groups.now.items c.requires.within) (cut_order g c)

pub returns-clause-items : goal.returns-clause-items
returns-clause-items g c =
    let first = filter (λ place. nat_lt place c.args.stayed) c.args.order.now.items in
    rw (order_now g c, c.truncate.ensures.items)
    (in_order-take c.args.groups.now.items c.args.stayed first (below_count c.args.stayed first (cut_order g c)) c.requires.within
    ∙ sym (filter-in_order c.args.groups.now.items has_stayed (λ place. nat_lt place c.args.stayed) c.args.order.now.items
    (below_count (length c.args.groups.now.items) c.args.order.now.items c.requires.order) (same g c)))
