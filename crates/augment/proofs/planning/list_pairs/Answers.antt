use Rattle.std.proofs.Common.{arith, rules, ◌≡◌, ◌<◌, ◌++◌, length, Some, None, sym, ◌∙◌, ap}
use Rattle.std.proofs.lemmas.List.{get_or_default, length-map}
use Rattle.mesh_graph.specs.Groups.{ids}
use Rattle.augment.specs.Mates.{mate}
use Rattle.augment.proofs.Pairing.{mate_in}
use Rattle.augment.proofs.Lists.{a_member, pairs_none, pairs_push, read_at}
use Rattle.augment.proofs.planning.list_pairs.Goals as goal
use Rattle.augment.proofs.planning.list_pairs.Goals.{in-Some+in_ok-push, in_default}

pub owned_id-requires : goal.owned_id-requires
owned_id-requires c =
    let planned : mate c.args.mates.now.onto.items c.loop-i.i ≡ Some c.in-Some.j = grind (arith, get_or_default) in
    let j_in : c.in-Some.j < length c.args.mates.now.planned.items = mate_in c.args.mates.now.onto.items c.args.mates.now.planned.items c.loop-i.i c.in-Some.j c.args.mates.now.paired planned in
    let long : length c.args.mates.now.planned.items ≡ length c.args.graph.now.owned = c.requires.planned in
    let j_owned : c.in-Some.j < length c.args.graph.now.owned = omega arith in
    search rules

pub loop-i-preserved : goal.loop-i-preserved
loop-i-preserved c =
    let left = ids c.args.graph.now.abandoned in
    let right = ids c.args.graph.now.owned in
    let onto = c.args.mates.now.onto.items in
    let left_long : length left ≡ length c.args.graph.now.abandoned = length-map c.args.graph.now.abandoned (λ x. x.id) in
    let right_long : length right ≡ length c.args.graph.now.owned = length-map c.args.graph.now.owned (λ x. x.id) in
    let long_onto : length onto ≡ length c.args.graph.now.abandoned = c.requires.onto in
    let i_onto : c.loop-i.i < length onto = grind arith in
    let i_in : c.loop-i.i < length left = omega arith in
    let long : length c.args.mates.now.planned.items ≡ length c.args.graph.now.owned = c.requires.planned in
    elim c.match-mate.branch [
      | in-Some+in_ok-push w ↦
          let planned : mate onto c.loop-i.i ≡ Some w.in-Some.j = grind (arith, get_or_default) in
          let j_in : w.in-Some.j < length c.args.mates.now.planned.items = mate_in onto c.args.mates.now.planned.items c.loop-i.i w.in-Some.j c.args.mates.now.paired planned in
          let j_owned : w.in-Some.j < length right = omega arith in
          rw (w.pairs-is, w.in_ok-push.ensures.items)
          (pairs_push right left onto c.loop-i.pairs.items _ c.loop-i.i w.in-Some.j w.abandoned_id.result w.owned_id.result i_in i_onto j_owned planned
          (read_at left c.loop-i.i w.abandoned_id.result w.abandoned_id.ensures)
          (read_at right w.in-Some.j w.owned_id.result w.owned_id.ensures) c.loop-i.invariant)
      | in_default w ↦
          let none : mate onto c.loop-i.i ≡ None = grind (arith, get_or_default) in
          rw w.pairs-is
          (ap (λ x. c.loop-i.pairs.items ++ x) (sym (pairs_none right left onto c.loop-i.i (a_member left c.loop-i.i i_in) i_in i_onto none)) ∙ c.loop-i.invariant)
    ]
