use Rattle.std.proofs.Common.{◌≡◌, ◌<◌, ◌∙◌, ◌≢◌, ◌++◌, ap, length, rules, arith}
use Rattle.std.proofs.Math.Seq.{map-set_same}
use Rattle.std.proofs.lemmas.List.Sums.{sum_by-drop_more}
use Rattle.std.proofs.lemmas.List.{get_or-set_other, length-map}
use Rattle.remote_queue.specs.Rings.{Taking}
use Rattle.arena.specs.Seats.{known_lists}
use Rattle.arena.proofs.Made.{same_both}
use Rattle.arena.proofs.SettledRings.{counted_here, set_each, settled_more}
use Rattle.arena.proofs.settling.settle_rings.Goals as goal

pub settle_ring-requires-clause-left : goal.settle_ring-requires-clause-left
settle_ring-requires-clause-left g c =
    (counted_here c.args.inboxes.now.items c.args.counts.now c.loop-from.from c.index_mut.result.now c.requires.counts (search rules)
    (c.index_mut.ensures.value ∙ c.loop-from.invariant.rest c.loop-from.from c.index_mut.result.now (omega arith))).1

pub loop-from-preserved : goal.loop-from-preserved
loop-from-preserved g c =
    let inv = c.loop-from.invariant in
    let n = c.loop-from.from in
    let now = c.loop-from.inboxes.items in
    let one = c.settle_ring.ensures in
    let here = c.index_mut.ensures.value ∙ inv.rest n c.index_mut.result.now (omega arith) in
    let counted = counted_here c.args.inboxes.now.items c.args.counts.now n c.index_mut.result.now c.requires.counts (search rules) here in
    let within : n < length now = omega (arith, counted.0, inv.wide, c.args.inboxes.now.ok.0, c.loop-from.inboxes.ok.0) in
    record {
      wide = search rules;
      rest = λ k d past. let other : k ≢ n = omega arith in rw get_or-set_other (inv.rest k d (omega arith));
      rings = map-set_same (λ (i : Taking). i.ring) now n c.settle_ring.new.inbox c.index_mut.result.now (one.ring ∙ ap (λ (i : Taking). i.ring) c.index_mut.ensures.value) ∙ inv.rings;
      taken = set_each (λ (i : Taking). i.taken) (λ (i : Taking). i.taken ++ i.known) c.args.inboxes.now.items now n c.settle_ring.new.inbox c.index_mut.result.now within counted.0
          (one.taken ∙ ap (λ (i : Taking). i.taken ++ i.known) here) inv.taken;
      room = omega (arith, one.room, inv.room, sum_by-drop_more (λ x. x) c.args.counts.now n 0 (search rules));
      freed = settled_more c.args.inboxes.now.items n c.index_mut.result.now c.index_mut.result.now _ _ _ counted.0 here inv.freed one.freed;
    }

pub returns-clause-taken : goal.returns-clause-taken
returns-clause-taken g c =
    let inv = c.loop-from.invariant in
    let old = c.args.inboxes.now.items in
    let now = c.loop-from.inboxes.items in
    let counted : length c.args.counts.now ≡ length old = ap length c.requires.counts ∙ length-map (known_lists old) length ∙ length-map old (λ (i : Taking). i.known) in
    let long : length now ≡ length old = omega (arith, inv.wide, c.args.inboxes.now.ok.0, c.loop-from.inboxes.ok.0) in
    same_both (λ (i : Taking). i.taken) (λ (i : Taking). i.taken ++ i.known) now old long (λ k d e h. inv.taken k d e (omega (arith, counted, long)))
