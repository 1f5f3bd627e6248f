use Rattle.std.proofs.Common.{◌≡◌, ◌∙◌, ◌∷◌, ap, sym, refl, subst, zero}
use Rattle.std.specs.FinSet as finset
use Rattle.span.specs.State.{SpanState}
use Rattle.groups.specs.Spans.{union_of, AreApart, with_free_at}
use Rattle.span.specs.Log.{worn_slots}
use Rattle.span.proofs.Slots.{worn_slots-free}
use Rattle.groups.proofs.Unions.{lose_held}
use Rattle.groups.proofs.spans.Spans.free_in_head.Goals as goal

pub invariant_of-self-2 : goal.invariant_of-self-2
invariant_of-self-2 g c =
    let inside = c.self.inside in
    let lost = lose_held (inside.head ∷ inside.guests.items) zero inside.head c.args.slot c.args.generation refl (c.if-not-free_held.ensures.found.0 refl) c.self.invariant.apart in
    let is : c.free_held.new.self ≡ with_free_at inside.head c.args.slot c.args.generation = c.if-not-free_held.ensures.freed in
    record {
      occupied_is = c.remove.ensures ∙ ap (λ s. finset.remove s c.args.slot) c.self.invariant.occupied_is ∙ sym lost.0 ∙ ap (λ (s : SpanState). union_of (s ∷ inside.guests.items)) (sym is);
      apart = subst (λ (s : SpanState). AreApart (s ∷ inside.guests.items)) (sym is) lost.1;
    }
