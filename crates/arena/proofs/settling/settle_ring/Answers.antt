use Rattle.std.proofs.Common.{◌∙◌, ◌++◌, ◌∷◌, [], ap, sym, arith, take, length-drop, append_assoc}
use Rattle.arena.proofs.Frees.{AddsFrees-one, AddsFrees-more, next_left}
use Rattle.arena.proofs.settling.settle_ring.Goals as goal

pub take_known-key-requires : goal.take_known-key-requires
take_known-key-requires g c =
    let inv = c.loop.invariant in
    let left = length-drop c.loop.counter c.args.inbox.now.known in
    rw inv.known (omega (arith, c.requires.left))

pub loop-preserved : goal.loop-preserved
loop-preserved g c =
    let inv = c.loop.invariant in
    let keys = c.args.inbox.now.known in
    let key = c.take_known-key.result in
    let step = next_left keys _ c.loop.counter key (omega (arith, c.requires.left)) (sym inv.known ∙ c.take_known-key.ensures.known) in
    let one = AddsFrees-one _ _ _ _ c.tell.ensures.told c.free_key.ensures in
    record {
      room = omega (arith, inv.room, c.tell.ensures.room);
      ring = c.take_known-key.ensures.ring ∙ inv.ring;
      taken = rw step.0 (c.take_known-key.ensures.taken ∙ ap (λ l. l ++ key ∷ []) inv.taken ∙ append_assoc c.args.inbox.now.taken (take c.loop.counter keys) (key ∷ []));
      known = sym step.1;
      freed = rw step.0 (AddsFrees-more _ _ _ _ _ inv.freed one);
    }
