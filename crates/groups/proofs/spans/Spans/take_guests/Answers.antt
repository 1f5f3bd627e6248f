use Rattle.std.proofs.Common.{◌∙◌, ◌∷◌, subst, sym}
use Rattle.bitmap.specs.Slots.{AreDisjoint}
use Rattle.groups.specs.Spans.{SpansState, all_spans, union_of}
use Rattle.span.specs.Log.{worn_slots}
use Rattle.groups.proofs.Guests.{AreApart-append, union_of-append}
use Rattle.groups.proofs.spans.Spans.take_guests.Goals as goal

pub invariant_of-self : goal.invariant_of-self
invariant_of-self g c =
    let mine = c.self.inside.head ∷ c.self.inside.guests.items in
    let theirs = c.spans.inside.head ∷ c.spans.inside.guests.items in
    let apart : AreDisjoint (union_of mine) (union_of theirs) =
    subst (λ (s : SpansState). AreDisjoint (union_of mine) (union_of (all_spans s))) (sym c.spans.view_is)
    (subst (λ (s : SpansState). AreDisjoint (union_of (all_spans s)) (union_of (all_spans c.args.spans))) (sym c.self.view_is) c.requires.apart) in
    record {
      occupied_is = rw c.append_all.ensures.guests (c.union-self-inside.ensures ∙ rw (c.self.invariant.occupied_is, c.spans.invariant.occupied_is) (sym (union_of-append mine theirs)));
      apart = rw c.append_all.ensures.guests (AreApart-append mine theirs c.self.invariant.apart c.spans.invariant.apart apart);
    }
