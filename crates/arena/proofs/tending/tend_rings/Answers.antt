use Rattle.std.proofs.Common.{◌≡◌, ◌≢◌, ◌≤◌, ◌∙◌, ap, arith, get_or, refl, rules, sym}
use Rattle.std.proofs.lemmas.List.{get_or-set_other}
use Rattle.std.proofs.lemmas.List.Sums.{sum_by-drop_more}
use Rattle.arena.specs.Tended.{known_count}
use Rattle.arena.proofs.TendedRings.{tended_none, tended_more}
use Rattle.arena.proofs.tending.tend_rings.Goals as goal

pub loop-from-init : goal.loop-from-init
loop-from-init g c = record {
  wide = refl;
  few = omega arith;
  rest = λ k d h. refl;
  room = c.requires.room;
  tended = tended_none c.args.inboxes.now.items (g.K.Receipts.told c.args.receipts.now);
}

pub loop-from-preserved : goal.loop-from-preserved
loop-from-preserved g c =
    let inv = c.loop-from.invariant in
    let one = c.tend_ring-tended.ensures in
    let n = c.loop-from.from in
    let d = c.index.result.now in
    let same : known_count c.args.most (get_or c.args.inboxes.now.items n d) ≡ known_count c.args.most d =
    ap (known_count c.args.most) (sym (c.index.ensures ∙ inv.rest n d (omega arith)))
    in
    let here = c.keys_to_take-known.ensures in
    let fits : c.tend_ring-tended.result.count ≤ c.args.most = omega (arith, one.few, here) in
    record {
      wide = search rules;
      few = omega (arith, inv.few, fits);
      rest = λ k d past. let other : k ≢ n = omega arith in rw get_or-set_other (inv.rest k d (omega arith));
      room = omega (arith, inv.room, one.room, one.few, here, sum_by-drop_more (known_count c.args.most) c.args.inboxes.now.items n d (search rules), same);
      tended = tended_more c.args.inboxes.now.items c.loop-from.inboxes.items c.tend_ring-tended.new.inbox _ c.loop-from.from c.loop-from.total
          c.tend_ring-tended.result.count _ _ _ (search rules) inv.tended fits (rw c.index_mut.ensures.value at one.tended);
    }
