use Rattle.std.proofs.Common.{◌≡◌, ◌++◌, ◌∙◌, ap, arith, drop, length, subst, sym, take}
use Rattle.std.proofs.Math.Seq.{take-append_seam}
use Rattle.mesh_graph.specs.Groups.{Groups}
use Rattle.mesh_graph.specs.Rows.{AreRows}
use Rattle.mesh_graph.proofs.Building.{AreRows-from_rows}
use Rattle.mesh_graph.proofs.graph.Graph.build.Goals as goal

pub invariant_of-result : goal.invariant_of-result
invariant_of-result g c =
    let s : Groups = c.args.snapshot.now in
    let words = c.fill.new.rows in
    let rest = drop (length words) c.in_ok-rows.rows.items in
    let long : c.in_ok-rows.rows.len ≡ length words = omega (arith, c.fill.ensures.len, c.deref_mut.ensures.len) in
    let back : take c.in_ok-rows.rows.len (words ++ rest) ≡ words = ap (λ n. take n (words ++ rest)) long ∙ take-append_seam words rest in
    subst (AreRows s) (sym back)
    (AreRows-from_rows s c.in_ok-sets.sets c.in_ok-masks.masks words (rw (← c.abandoned.ensures.entries) (omega arith)) (rw (← c.owned.ensures.entries) (omega arith))
    (c.in_ok-sets.ensures ∙ (rw c.owned-2.ensures.entries at c.in_ok-planes.ensures))
    (rw (c.abandoned-3.ensures.entries, c.owned-3.ensures.entries) at c.in_ok-masks.ensures)
    (rw c.abandoned-5.ensures.entries at c.fill.ensures.rows))
