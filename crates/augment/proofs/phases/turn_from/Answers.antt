use Rattle.std.proofs.Common.{arith, ◌≡◌, ◌<◌, length, length-set, Some, true, sym, ◌∙◌, ap, ◌-◌}
use Rattle.std.proofs.lemmas.Grind.{common_steps}
use Rattle.std.proofs.lemmas.List.{get_or_default}
use Rattle.augment.specs.Mates.{mate}
use Rattle.mesh_graph.specs.Groups.{compatible_at}
use Rattle.augment.specs.Walks.{group}
use Rattle.augment.proofs.Paths.{walk_more}
use Rattle.augment.proofs.phases.turn_from.Goals as goal

pub path-preserved : goal.path-preserved
path-preserved c =
    let path_in : c.len-at.result - 1 < length c.path.path.items = grind (arith, common_steps) in
    let within : c.in-Some.owned < length c.args.graph.now.owned = c.in-Some.ensures.within in
    let long : length c.args.used.now.passed.items ≡ length c.args.graph.now.owned = c.requires.used in
    let same_long : length c.path.used.passed.items ≡ length c.args.used.now.passed.items = c.path.invariant.places in
    let owned_in : c.in-Some.owned < length c.path.used.passed.items = omega arith in
    let planned_long : length c.path.mates.planned.items ≡ length c.args.graph.now.owned = ap length c.path.invariant.planned ∙ c.requires.owned in
    let at_group : group c.path.path.items (c.len-at.result - 1)
    ≡ c.index.result.now.group = ap (λ e. e.group)
    (get_or_default c.path.path.items (c.len-at.result - 1) (record { group = 0; before = 0 }) c.index.result.now path_in ∙ sym c.index.ensures) in
    let planned : mate c.path.mates.planned.items c.in-Some.owned ≡ Some c.in-Some-index.next = grind (arith, get_or_default) in
    record {
      onto = c.path.invariant.onto;
      planned = c.path.invariant.planned;
      walk = rw (c.in_ok-push-in-Some-index.ensures.items, c.pass.ensures)
          (walk_more c.args.graph.now c.path.mates.onto.items c.path.path.items c.path.used.passed.items c.in-Some-index.next c.in-Some.owned
          (c.len-at.result - 1) c.path.invariant.walk path_in owned_in
          (ap (λ x. compatible_at c.args.graph.now x c.in-Some.owned) at_group ∙ c.in-Some.ensures.joined_to) c.in-Some.ensures.unused
          (c.path.mates.paired.back c.in-Some-index.next c.in-Some.owned planned));
      places = ap length c.pass.ensures ∙ length-set c.path.used.passed.items c.in-Some.owned true ∙ c.path.invariant.places;
    }
