-- A span that was found, in the group that is lent with it.
use Rattle.std.proofs.Common.{◌≡◌, ◌<◌, ℕ, List, length, Option, Some, ◌∙◌, ap, sym, subst, slice_get, rules}
use Rattle.std.specs.FinMap as map
use Rattle.std.proofs.lemmas.Option.{slice_get_within}
use Rattle.span.specs.Ids.{rank}
use Rattle.span.specs.State.{SpanState}
use Rattle.span.specs.declared.id.SpanId.{SpanId}
use Rattle.groups.specs.Directory.{Entries, KnowsGuests}
use Rattle.groups.specs.Group.{Ascend, IsHeadOf, IsHere, spans_of}
use Rattle.groups.specs.declared.directory.Place.{Place}
use Rattle.groups.proofs.FoundGuests.{place_or_head}
use Rattle.groups.proofs.KnownGuests.{Somewhere-guest}
use Rattle.groups.proofs.Lists.{same_some}
use Rattle.pool.specs.Groups.{HasHeadAt}
use Rattle.pool.specs.State.{PooledState}

module _ (groups : List PooledState) (id : SpanId) (index place : ℕ) (group : PooledState) (span : SpanState) (here : IsHere groups id index place group span) where
  pub place_within : place < length (spans_of group)
  place_within = slice_get_within (spans_of group) place span here.span_is

  pub IsHere-read : (other : SpanState) → slice_get (spans_of group) place ≡ Some other → IsHere groups id index place group other
  IsHere-read other at = search (rules, same_some)

  -- its group stands there by its head
  pub IsHeadOf-here : (others : List PooledState) (head : SpanId) → others ≡ groups → head ≡ group.head.id → IsHeadOf others head index group
  IsHeadOf-here others head same named = record { here = ap (λ gs. slice_get gs index) same ∙ here.group_is; head_is = sym named }

-- the span of this id stands at the place of the group
abbrev pub HasSpanAt : List PooledState → SpanId → ℕ → PooledState → Type 0
HasSpanAt groups id place group = (index : ℕ) × (span : SpanState) × IsHere groups id index place group span

-- what a look-up in the directory finds, in the group of the head that it names
pub HasSpanAt-guest : (groups : List PooledState) (entries : Entries) → KnowsGuests groups entries → (id : SpanId) (entry : Option Place)
    → entry ≡ map.get entries (rank id) → (at : Place) → at ≡ place_or_head entry id
    → Ascend groups → (group : PooledState) → HasHeadAt groups at.head group → HasSpanAt groups id at.place group
HasSpanAt-guest groups entries knows id entry is at at_is ascend group (index, here) =
    let (other, span, found) = Somewhere-guest groups entries knows id entry is at at_is ascend index group here in
    let same : other ≡ group = same_some (sym found.group_is ∙ here.here) in
    (index, span, record { group_is = here.here; span_is = subst (λ (g : PooledState). slice_get (spans_of g) at.place ≡ Some span) same found.span_is; id_is = found.id_is })
