use Rattle.std.proofs.Common.{arith, ◌≡◌, ◌<◌, length, Some, None, sym, ◌∙◌, ap}
use Rattle.std.proofs.lemmas.List.{get_or_default, length-map}
use Rattle.mesh_graph.specs.Groups.{ids}
use Rattle.augment.specs.Mates.{mate}
use Rattle.augment.specs.Listed.{is_short}
use Rattle.augment.proofs.Pairing.{mate_in}
use Rattle.augment.proofs.Lists.{a_member, read_at, short_push, short_skip}
use Rattle.augment.proofs.planning.list_short.Goals as goal
use Rattle.augment.proofs.planning.list_short.Goals.{in-None, in-Some, then-is_short+in_ok-push, else-is_short}

pub bounds-reached-j : goal.bounds-reached-j
bounds-reached-j c =
    let planned : mate c.args.mates.now.onto.items c.loop-i.i ≡ Some c.in-Some.j = grind (arith, get_or_default) in
    let j_in : c.in-Some.j < length c.args.mates.now.planned.items = mate_in c.args.mates.now.onto.items c.args.mates.now.planned.items c.loop-i.i c.in-Some.j c.args.mates.now.paired planned in
    let long : length c.args.mates.now.planned.items ≡ length c.args.reached.now = c.requires.planned in
    omega arith

pub loop-i-preserved : goal.loop-i-preserved
loop-i-preserved c =
    let left = ids c.args.graph.now.abandoned in
    let onto = c.args.mates.now.onto.items in
    let left_long : length left ≡ length c.args.graph.now.abandoned = length-map c.args.graph.now.abandoned (λ x. x.id) in
    let long_onto : length onto ≡ length c.args.graph.now.abandoned = c.requires.onto in
    let i_onto : c.loop-i.i < length onto = grind arith in
    let i_in : c.loop-i.i < length left = omega arith in
    let long : length c.args.mates.now.planned.items ≡ length c.args.reached.now = c.requires.planned in
    let means : is_short c.args.reached.now (mate onto c.loop-i.i) ≡ c.match-mate.is_short =
    elim c.match-mate.branch [
      | in-None w ↦
          let none : mate onto c.loop-i.i ≡ None = grind arith in
          ap (is_short c.args.reached.now) none ∙ sym w.is_short-is
      | in-Some w ↦
          let planned : mate onto c.loop-i.i ≡ Some w.in-Some.j = grind arith in
          ap (is_short c.args.reached.now) planned ∙ sym w.is_short-is
    ] in
    elim c.if-is_short.branch [
      | then-is_short+in_ok-push w ↦
          rw (w.short-is, w.in_ok-push.ensures.items)
          (short_push c.args.reached.now left onto c.loop-i.short.items _ c.loop-i.i w.abandoned_id.result i_in i_onto (means ∙ w.if-is_short.true)
          (read_at left c.loop-i.i w.abandoned_id.result w.abandoned_id.ensures) c.loop-i.invariant)
      | else-is_short w ↦
          rw w.short-is
          (short_skip c.args.reached.now left onto c.loop-i.short.items _ c.loop-i.i (a_member left c.loop-i.i i_in) i_in i_onto (means ∙ w.if-is_short.false) c.loop-i.invariant)
    ]
