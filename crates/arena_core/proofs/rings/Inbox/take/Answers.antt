use Rattle.std.proofs.Common.{◌<◌, List, arith, refl, set, slice_get, subst, sym, ap, ◌∙◌, vec_len}
use Rattle.std.proofs.lemmas.Option.{slice_get_read}
use Rattle.arena_core.specs.Filled.{TakesIn, filled}
use Rattle.arena_core.specs.Rings.{RingState, new_ring}
use Rattle.arena_core.proofs.FilledLists.{filled-get, filled-none, filled-past, filled-set, no_item}
use Rattle.arena_core.proofs.RingSteps.{TakesIn-ring}
use Rattle.arena_core.proofs.rings.Inbox.take.Goals as goal

pub returns-in-Some : goal.returns-in-Some
returns-in-Some c =
    let items = c.self.inside.rings.items in
    let filling = new_ring c.self.inside.capacity in
    let below : c.args.worker < vec_len c.self.inside.rings = c.in-Some.ensures.variant.0 refl in
    let there = slice_get_read items (vec_len c.self.inside.rings) c.args.worker c.in-Some.ring.now c.self.inside.rings.ok.0 below c.in-Some.ensures.value in
    let row = filled c.self.inside.workers filling items in
    subst (λ (r : List RingState). TakesIn r c.args.worker c.take.result (filled c.self.inside.workers filling (set items c.args.worker c.take.new.self))) c.self.view_is
    (subst (TakesIn row c.args.worker c.take.result)
    (sym (filled-set c.self.inside.workers filling items c.args.worker c.take.new.self (omega (arith, below, c.self.inside.rings.ok.0))))
    (TakesIn-ring row c.args.worker c.in-Some.ring.now
    (filled-get c.self.inside.workers filling items c.args.worker c.in-Some.ring.now there (omega (arith, below, c.self.invariant.0)))
    c.take.new.self c.take.result c.take.ensures))

pub returns-then-worker-self : goal.returns-then-worker-self
returns-then-worker-self c = (
  refl,
  ap (λ (r : List RingState). slice_get r c.args.worker) (sym c.self.view_is)
      ∙ filled-none c.self.inside.workers (new_ring c.self.inside.capacity) c.self.inside.rings.items c.args.worker (omega arith),
  c.self.view_is,
)

pub returns : goal.returns
returns c = (
  new_ring c.self.inside.capacity,
  ap (λ (r : List RingState). slice_get r c.args.worker) (sym c.self.view_is)
      ∙ filled-past c.self.inside.workers (new_ring c.self.inside.capacity) c.self.inside.rings.items c.args.worker
      (no_item c.self.inside.rings.items (vec_len c.self.inside.rings) c.args.worker c.self.inside.rings.ok.0 c.in_default.ensures.variant.1) (omega arith),
  refl,
  c.self.view_is,
)
