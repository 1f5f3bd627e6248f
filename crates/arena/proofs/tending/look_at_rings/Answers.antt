use Rattle.std.proofs.Common.{◌≡◌, ◌≢◌, ◌∙◌, ◌<◌, ap, arith, get_or, inl, inr, length, refl, rules, slice_set, subst, sum_by, sym, take_all}
use mathlib.Core.List.{IsPrefix}
use Rattle.std.proofs.lemmas.Bool.{cases_eq}
use Rattle.std.proofs.lemmas.Grind.{get_or-set_at}
use Rattle.std.proofs.lemmas.List.{get_or_default, get_or-set_other}
use Rattle.arena.specs.Tended.{known_count}
use Rattle.arena.proofs.CountedRings.{same_taking}
use Rattle.arena.proofs.TendedRings.{known_more}
use Rattle.arena.proofs.tending.look_at_rings.Goals as goal

pub loop-from-init : goal.loop-from-init
loop-from-init c = record { wide = refl; same = refl; rest = λ k d h. refl; seen = λ k d e h. absurd (omega arith); few = omega arith; counted = refl }

pub loop-from-preserved : goal.loop-from-preserved
loop-from-preserved c =
    let inv = c.loop-from.invariant in
    let items = c.loop-from.inboxes.items in
    let n = c.loop-from.from in
    let after = c.look.new.self in
    let below : n < length items = omega (arith, inv.wide, c.loop-from.inboxes.ok.0) in
    record {
      wide = search rules;
      same = same_taking items n after c.index_mut.result.now c.index_mut.ensures.value c.look.ensures.ring c.look.ensures.taken ∙ inv.same;
      rest = λ k d past. let other : k ≢ n = omega arith in rw get_or-set_other (inv.rest k d (omega arith));
      seen = λ k d e h. elim (cases_eq k n) [
        | inl here ↦
            let at : get_or (slice_set items n after) k e ≡ after = get_or-set_at items n k after e here below in
            let old : get_or c.args.inboxes.now.items k d ≡ c.index_mut.result.now = ap (λ k. get_or c.args.inboxes.now.items k d) here
            ∙ get_or_default c.args.inboxes.now.items n d c.index_mut.result.now
            (omega (arith, below, inv.wide, c.args.inboxes.now.ok.0, c.loop-from.inboxes.ok.0))
            ∙ sym (c.index_mut.ensures.value ∙ inv.rest n c.index_mut.result.now (omega arith)) in
            rw (at, old) c.look.ensures.known
        | inr other ↦ subst (λ i. IsPrefix (get_or c.args.inboxes.now.items k d).known i.known) (sym (get_or-set_other items n k after e other)) (inv.seen k d e (omega arith))
      ];
      few = omega (arith, inv.few);
      counted = omega (arith, inv.counted, known_more (known_count c.args.most) items n after below, c.look.ensures.count);
    }

pub returns-clause-count : goal.returns-clause-count
returns-clause-count c =
    let inv = c.loop-from.invariant in
    inv.counted ∙ ap (sum_by (known_count c.args.most)) (take_all c.loop-from.from c.loop-from.inboxes.items (omega (arith, inv.wide, c.loop-from.inboxes.ok.0)))
