use Rattle.std.proofs.Common.{◌≡◌, ◌≤◌, ◌∙◌, ◌+◌, ◌-◌, ℕ, Some, ap, arith, length, refl, slice_get, subst, sym}
use Rattle.std.specs.Prelude.{remove}
use Rattle.std.proofs.lemmas.List.{length-take-le}
use Rattle.std.proofs.lemmas.Option.{get_or_from_slice_get, slice_get_read, slice_get_within}
use Rattle.shard.specs.Row.{IsOrder, in_order}
use Rattle.shard.proofs.Orders.{IsOrder-remove, below_count, first_swapped, get-in_order, in_order-remove, length_swapped, remove-take}
use Rattle.shard.proofs.group_row.take_out.Goals as goal

pub index_of-other-requires-clause-ascend : goal.index_of-other-requires-clause-ascend
index_of-other-requires-clause-ascend g c = rw (c.as_slice.ensures.value, c.as_slice-2.ensures.value) c.requires.ascend

pub exchange-requires-clause-second : goal.exchange-requires-clause-second
exchange-requires-clause-second g c =
    slice_get_within c.args.order.now.items c.index_of-other.result (c.len-last.result - 1)
    (ap (λ xs. slice_get xs c.index_of-other.result) (sym c.as_slice-2.ensures.value) ∙ c.index_of-other.ensures)

pub returns-clause-order : goal.returns-clause-order
returns-clause-order g c =
    let last : ℕ = c.len-last.result - 1 in
    let groups = c.exchange.new.groups.items in
    let order = c.exchange.new.order.items in
    let other = c.index_of-other.result in
    let there : slice_get c.args.order.now.items other ≡ Some last = ap (λ xs. slice_get xs other) (sym c.as_slice-2.ensures.value) ∙ c.index_of-other.ensures in
    let here : slice_get order c.args.index ≡ Some last =
    ap (λ xs. slice_get xs c.args.index) c.exchange.ensures.entries ∙ first_swapped c.args.order.now.items c.args.index other last c.requires.within there in
    let many : length groups ≡ last + 1 = omega (
      arith,
      c.exchange.ensures.order.many,
      ap length c.exchange.ensures.entries,
      length_swapped c.args.order.now.items c.args.index other,
      c.requires.order.many,
      c.requires.within,
      c.len-last.ensures,
      c.args.groups.now.ok.0,
    ) in
    let low : last ≤ length groups = omega arith in
    rw (c.remove.ensures.items, c.remove-2.ensures.items, remove-take groups last many, length-take-le last groups low)
    (IsOrder-remove last order (subst (λ n. IsOrder n order) many c.exchange.ensures.order) c.args.index here)

pub returns-clause-value : goal.returns-clause-value
returns-clause-value g c =
    let last : ℕ = c.len-last.result - 1 in
    let groups = c.exchange.new.groups.items in
    let order = c.exchange.new.order.items in
    let other = c.index_of-other.result in
    let there : slice_get c.args.order.now.items other ≡ Some last = ap (λ xs. slice_get xs other) (sym c.as_slice-2.ensures.value) ∙ c.index_of-other.ensures in
    let here : slice_get order c.args.index ≡ Some last =
    ap (λ xs. slice_get xs c.args.index) c.exchange.ensures.entries ∙ first_swapped c.args.order.now.items c.args.index other last c.requires.within there in
    let below = below_count (length groups) order c.exchange.ensures.order in
    let stands : slice_get (in_order groups order) c.args.index ≡ Some c.remove-2.result =
    get-in_order groups order below c.args.index last here ∙ slice_get_read groups (length groups) last c.remove-2.result refl (below c.args.index last here) c.remove-2.ensures.value in
    sym (get_or_from_slice_get (in_order c.args.groups.now.items c.args.order.now.items) c.args.index c.remove-2.result c.remove-2.result
    (ap (λ xs. slice_get xs c.args.index) (sym c.exchange.ensures.same) ∙ stands))

pub returns-clause-items : goal.returns-clause-items
returns-clause-items g c =
    let last : ℕ = c.len-last.result - 1 in
    let groups = c.exchange.new.groups.items in
    let order = c.exchange.new.order.items in
    let other = c.index_of-other.result in
    let there : slice_get c.args.order.now.items other ≡ Some last = ap (λ xs. slice_get xs other) (sym c.as_slice-2.ensures.value) ∙ c.index_of-other.ensures in
    let here : slice_get order c.args.index ≡ Some last =
    ap (λ xs. slice_get xs c.args.index) c.exchange.ensures.entries ∙ first_swapped c.args.order.now.items c.args.index other last c.requires.within there in
    let many : length groups ≡ last + 1 = omega (
      arith,
      c.exchange.ensures.order.many,
      ap length c.exchange.ensures.entries,
      length_swapped c.args.order.now.items c.args.index other,
      c.requires.order.many,
      c.requires.within,
      c.len-last.ensures,
      c.args.groups.now.ok.0,
    ) in
    rw (c.remove.ensures.items, c.remove-2.ensures.items, remove-take groups last many)
    (in_order-remove groups last many order c.exchange.ensures.order c.args.index here ∙ ap (λ xs. remove xs c.args.index) c.exchange.ensures.same)
