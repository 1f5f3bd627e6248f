use Rattle.std.proofs.Common.{[], ◌∷◌, ◌++◌, ap, arith, ◌∙◌}
use Rattle.arena_core.specs.Filled.{filled}
use Rattle.arena_core.specs.Rings.{new_ring}
use Rattle.arena_core.proofs.FilledLists.{filled-push}
use Rattle.arena_core.proofs.rings.add_rings.Goals as goal

pub loop-preserved : goal.loop-preserved
loop-preserved c = record {
  same = ap (filled c.args.workers (new_ring c.args.capacity)) (c.push_reserved.ensures.items ∙ ap (λ x. c.loop.rings.items ++ x ∷ []) c.new.ensures)
      ∙ filled-push c.args.workers (new_ring c.args.capacity) c.loop.rings.items ∙ c.loop.invariant.same;
  len = omega arith;
  room = omega arith;
}
