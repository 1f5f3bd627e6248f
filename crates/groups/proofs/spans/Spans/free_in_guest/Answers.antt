use Rattle.std.proofs.Common.{◌≡◌, ◌∙◌, ◌∷◌, Some, ap, sym, refl, subst, suc, slice_get, set, rules}
use Rattle.std.specs.FinSet as finset
use Rattle.std.proofs.lemmas.Option.{slice_get_read}
use Rattle.span.specs.State.{SpanState}
use Rattle.groups.specs.Spans.{SpansState, union_of, AreApart, with_free_at}
use Rattle.groups.proofs.Lists.{same_some}
use Rattle.span.specs.Log.{worn_slots}
use Rattle.groups.proofs.Unions.{lose_held}
use Rattle.groups.proofs.spans.Spans.free_in_guest.Goals as goal

here : (g : _) (c : goal.After-remove g) → slice_get c.self.inside.guests.items c.args.at ≡ Some c.index_mut.result.now
here g c = search (rules, slice_get_read)

same_span : (g : _) (c : goal.After-remove g) (span : SpanState) → slice_get c.args.self.now.guests c.args.at ≡ Some span → c.index_mut.result.now ≡ span
same_span g c span at = same_some (sym (here g c) ∙ ap (λ (g : SpansState). slice_get g.guests c.args.at) c.self.view_is ∙ at)

pub invariant_of-self-2 : goal.invariant_of-self-2
invariant_of-self-2 g c =
    let inside = c.self.inside in
    let span = c.index_mut.result.now in
    let lost = lose_held (inside.head ∷ inside.guests.items) (suc c.args.at) span c.args.slot c.args.generation (here g c) (c.if-not-free_held.ensures.found.0 refl) c.self.invariant.apart in
    let is : c.free_held.new.self ≡ with_free_at span c.args.slot c.args.generation = c.if-not-free_held.ensures.freed in
    record {
      occupied_is = c.remove.ensures ∙ ap (λ s. finset.remove s c.args.slot) c.self.invariant.occupied_is ∙ sym lost.0
          ∙ ap (λ (s : SpanState). union_of (inside.head ∷ set inside.guests.items c.args.at s)) (sym is);
      apart = subst (λ (s : SpanState). AreApart (inside.head ∷ set inside.guests.items c.args.at s)) (sym is) lost.1;
    }

pub returns-clause-found : goal.returns-clause-found
returns-clause-found g c span at = rw (← same_span g c span at) c.if-not-free_held.ensures.found

pub returns-clause-freed : goal.returns-clause-freed
returns-clause-freed g c span at = rw (← same_span g c span at, ← c.self.view_is, c.if-not-free_held.ensures.freed) refl
