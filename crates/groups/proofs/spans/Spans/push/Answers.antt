use Rattle.std.proofs.Common.{◌∙◌, ◌∷◌, ap, subst, sym}
use Rattle.std.specs.FinSet.{union}
use Rattle.bitmap.specs.Slots.{AreDisjoint}
use Rattle.span.specs.Log.{live_slots, worn_slots}
use Rattle.groups.specs.Spans.{SpansState, all_spans, union_of}
use Rattle.groups.proofs.Guests.{AreApart-push, union_of-push}
use Rattle.groups.proofs.spans.Spans.push.Goals as goal

pub invariant_of-self-2 : goal.invariant_of-self-2
invariant_of-self-2 g c =
    let inside = c.self.inside in
    let spans = inside.head ∷ inside.guests.items in
    let apart = subst (λ (s : SpansState). AreDisjoint (live_slots c.args.guest.log) (union_of (all_spans s))) (sym c.self.view_is) c.requires in
    record {
      occupied_is =
          rw (c.push_reserved.ensures.items, c.in_ok-reserve.ensures.items)
          (c.union-self-inside.ensures ∙ rw (c.live.ensures) (ap (λ s. union s (live_slots c.args.guest.log)) c.self.invariant.occupied_is) ∙ sym (union_of-push spans c.args.guest));
      apart = rw (c.push_reserved.ensures.items, c.in_ok-reserve.ensures.items) (AreApart-push spans c.args.guest c.self.invariant.apart apart);
    }
