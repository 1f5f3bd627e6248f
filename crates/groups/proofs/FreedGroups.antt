-- A group stays sound where a key of one of its spans is freed.
use Rattle.std.proofs.Common.{◌≡◌, ℕ, Option, None, Some, MatchOption, slice_get, sym, subst, inl, inr, rules}
use Rattle.std.specs.FinSet.{empty}
use Rattle.span.proofs.Keeping.{live-if_held}
use Rattle.span.proofs.Changes.{IsLegal-push}
use Rattle.span.specs.Log.{Holds, IsLegal}
use Rattle.span.specs.State.{SpanState}
use Rattle.span.specs.declared.change.Change.TheVariants.{Free}
use Rattle.span.specs.declared.key.Key.{Key}
use Rattle.page.specs.Words.{Words}
use Rattle.groups.specs.Group.{Group, spans_of, with_span}
use Rattle.groups.specs.Sound.{AreStored, IsSoundGroup}
use Rattle.groups.specs.Spans.{AreApart, union_of, with_free}
use Rattle.groups.proofs.Logs.{was_held}
use Rattle.groups.proofs.Standing.{AreSpansOf-with_span, IsSpanOf-with_free, cases-with_span, page-with_span, spans_of-with_span}
use Rattle.groups.proofs.StoredObjects.{none_live}
use Rattle.groups.proofs.Unions.{lose_held}

-- a group with no live slot needs no page
pub IsSoundGroup-unpaged : {Closed : Type 0} (group : Group Closed) → IsSoundGroup group → union_of (spans_of group) ≡ empty → IsSoundGroup (record group { page = None })
IsSoundGroup-unpaged group sound none = record { apart = sound.apart; legal = sound.legal; classes = sound.classes; page = none }

module _ {Closed : Type 0} (group : Group Closed) (sound : IsSoundGroup group) (place : ℕ) (span : SpanState) (key : Key)
    (here : slice_get (spans_of group) place ≡ Some span) (holds : Holds span.log key.slot key.generation) where
  abbrev changed : SpanState
  changed = with_free span key

  abbrev after : Group Closed
  after = with_span group place changed

  page_now : (page : Option Words) → MatchOption page (union_of (spans_of group) ≡ empty) (AreStored (spans_of group))
      → MatchOption page (union_of (spans_of after) ≡ empty) (AreStored (spans_of after))
  page_now page none = search (rules, none_live, live-if_held, (cases-with_span group place changed), was_held)

  pub IsSoundGroup-free : IsSoundGroup after
  IsSoundGroup-free = record {
    apart = subst AreApart (sym (spans_of-with_span group place changed)) (lose_held (spans_of group) place span key.slot key.generation here holds sound.apart).1;
    legal = λ at other there. elim (cases-with_span group place changed at other there) [
      | inl this ↦ subst (λ (s : SpanState). IsLegal s.gens s.log) this.1 (IsLegal-push span.gens span.log (Free key.slot key.generation) (sound.legal place span here) holds)
      | inr that ↦ sound.legal at other that.1
    ];
    classes = AreSpansOf-with_span group place changed sound.classes (IsSpanOf-with_free group.head.class span key (sound.classes place span here));
    page = subst (λ page. MatchOption page (union_of (spans_of after) ≡ empty) (AreStored (spans_of after))) (sym (page-with_span group place changed)) (page_now group.page sound.page);
  }
