-- A group that gives its page up where no slot is live, and a group that keeps it since a key of it is live.
use Rattle.std.proofs.Common.{◌≡◌, ℕ, None, Some, is_some, slice_get, ◌∙◌, ap, subst, sym, inl, inr, ◌≢◌, IsSome}
use Rattle.std.specs.FinSet.{empty}
use Rattle.std.proofs.lemmas.Bool.{false≢true}
use Rattle.span.specs.Log.{Holds}
use Rattle.span.specs.State.{SpanState}
use Rattle.groups.specs.Group.{spans_of, with_span}
use Rattle.groups.specs.Sound.{IsSoundGroup}
use Rattle.groups.specs.Spans.{union_of}
use Rattle.groups.proofs.EmptySets.{empty_or_not}
use Rattle.groups.proofs.FreedGroups.{IsSoundGroup-unpaged}
use Rattle.groups.proofs.GuestDirectory.{HaveSameIds}
use Rattle.groups.proofs.ReplacedGroups.{AreAlike, AreAlike-with_span}
use Rattle.groups.proofs.StoredObjects.{paged_if_held}
use Rattle.pool.specs.Calls.{GivesUp}
use Rattle.pool.specs.Sound.{IsSound}
use Rattle.pool.specs.State.{PoolState, PooledState}

module _ (group now : PooledState) (gives : GivesUp group now) where
  -- it keeps its spans
  pub spans-GivesUp : spans_of now ≡ spans_of group
  spans-GivesUp = elim (empty_or_not (union_of (spans_of group))) [
    | inl none ↦ ap (λ (g : PooledState). spans_of g) (gives.emptied none)
    | inr live ↦ ap (λ (g : PooledState). spans_of g) (gives.live live)
  ]

  pub IsSoundGroup-GivesUp : IsSoundGroup group → IsSoundGroup now
  IsSoundGroup-GivesUp sound = elim (empty_or_not (union_of (spans_of group))) [
    | inl none ↦ subst IsSoundGroup (sym (gives.emptied none)) (IsSoundGroup-unpaged group sound none)
    | inr live ↦ subst IsSoundGroup (sym (gives.live live)) sound
  ]

  -- it has a page only where a slot is live
  pub in_use-GivesUp : IsSome now.page → union_of (spans_of now) ≢ empty
  in_use-GivesUp paged none =
      let none_before = ap union_of (sym spans-GivesUp) ∙ none in
      false≢true (sym (ap (λ (g : PooledState). is_some g.page) (gives.emptied none_before)) ∙ paged)

-- where one of its spans gave way to one of its id before
pub AreAlike-GivesUp : (group now : PooledState) (place : ℕ) (span changed : SpanState) → slice_get (spans_of group) place ≡ Some span → changed.id ≡ span.id
    → GivesUp (with_span group place changed) now → AreAlike group now
AreAlike-GivesUp group now place span changed here same gives =
    subst (HaveSameIds (spans_of group)) (sym (spans-GivesUp (with_span group place changed) now gives)) (AreAlike-with_span group place span changed here same)

-- of a sound pool a group with a live key is not without a page
pub has_page_if_held : (pool : PoolState) → IsSound pool → (index place : ℕ) (group : PooledState) (span : SpanState) (slot generation : ℕ)
    → slice_get pool.groups index ≡ Some group → slice_get (spans_of group) place ≡ Some span → Holds span.log slot generation → group.page ≡ None → ⊥
has_page_if_held pool sound index place group span slot generation here there holds none =
    false≢true (sym (ap is_some none) ∙ paged_if_held group (sound.groups index group here) place span slot generation there holds)
