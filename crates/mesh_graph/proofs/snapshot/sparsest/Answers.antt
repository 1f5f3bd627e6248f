use Rattle.std.proofs.Common.{◌≤◌, List, arith, length, rules, subst, sym}
use Rattle.std.specs.List.{IsDistinct}
use Rattle.std.specs.List.Sorted.{IsNonDecreasingBy, IsPermutation}
use Rattle.std.proofs.lemmas.List.Sorted.{IsNonDecreasingBy-from_sort_by_key, length_permutation}
use Rattle.span.specs.Ids.{same_span}
use Rattle.span.specs.declared.entry.Entry.{Entry}
use Rattle.mesh_graph.specs.Groups.{ids}
use Rattle.mesh_graph.specs.Sparsest.{occupied_count}
use Rattle.mesh_graph.proofs.Order.{distinct-from_ascending}
use Rattle.mesh_graph.proofs.Sorting.{distinct-after, distinct-take}
use Rattle.mesh_graph.proofs.Sparsest.{AreSparsest-first}
use Rattle.mesh_graph.proofs.snapshot.sparsest.Goals as goal

pub unreachable-requires : goal.unreachable-requires
unreachable-requires c =
    let by_count = c.sort_unstable_by_key.new.self.items in
    let some : c.args.most ≤ length by_count = omega (arith, c.len.ensures, c.if-len-most.false, length_permutation c.args.entries.items by_count c.sort_unstable_by_key.ensures.permutation) in
    let distinct : IsDistinct same_span (ids by_count) = distinct-after c.args.entries.items by_count c.sort_unstable_by_key.ensures.permutation
    (distinct-from_ascending (ids c.args.entries.items) c.requires) in
    (c.in_default.ensures {u = tt}).doubled (subst (λ (list : List Entry). IsDistinct same_span (ids list)) (sym c.truncate.ensures.items) (distinct-take c.args.most by_count some distinct))

pub returns-clause-sparsest : goal.returns-clause-sparsest
returns-clause-sparsest c =
    let by_count = c.sort_unstable_by_key.new.self.items in
    let some : c.args.most ≤ length c.args.entries.items = omega (arith, c.len.ensures, c.if-len-most.false) in
    let up : IsNonDecreasingBy occupied_count by_count = IsNonDecreasingBy-from_sort_by_key occupied_count _ c.sort_unstable_by_key.ensures.sorted (λ a r q k. search rules) in
    AreSparsest-first c.args.most c.args.entries.items by_count c.in-Ok.entries.items some c.sort_unstable_by_key.ensures.permutation up
    (subst (λ (list : List Entry). IsPermutation list c.in-Ok.entries.items) c.truncate.ensures.items (c.in-Ok.ensures {u = tt}).kept)
