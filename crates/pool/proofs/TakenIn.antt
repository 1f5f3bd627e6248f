-- A pool stays sound where it takes groups in.
use Rattle.std.proofs.Common.{◌≡◌, ℕ, ◌+◌, List, [], ◌∷◌, Option, None, Some, slice_get, ap, sym, subst, ◌∙◌, refl, inl, inr, arith, ◌≢◌, insert}
use Rattle.std.specs.FinSet as set
use Rattle.std.specs.List.{flat_map}
use Rattle.std.specs.Option.{IsSome}
use Rattle.span.specs.Ids.{same_span}
use Rattle.span.specs.State.{SpanState}
use Rattle.span.specs.declared.id.SpanId.{SpanId}
use Rattle.page.specs.Words.{Words}
use Rattle.groups.specs.Group.{HasNoHead, IsElsewhere, spans_in, spans_of}
use Rattle.groups.specs.Sound.{IsSoundGroup}
use Rattle.groups.specs.Spans.{union_of}
use Rattle.groups.specs.Whole.{IsSoundWhole, WholeState, spans_moved}
use Rattle.groups.proofs.EmptySets.{empty_or_not}
use Rattle.groups.proofs.FreedGroups.{IsSoundGroup-unpaged}
use Rattle.groups.proofs.GroupSpans.{count-spans_insert, times}
use Rattle.groups.proofs.Lists.{count-append}
use Rattle.pool.specs.Calls.{TakesAll, TakesIn, with_rooms}
use Rattle.pool.specs.Sound.{IsSound}
use Rattle.pool.specs.State.{PoolState, PooledState}
use Rattle.pool.proofs.Inserted.{IsSound-inserted}

-- the group as it stands in the pool
abbrev pub pooled : WholeState → Option Words → PooledState
pooled whole page = record { head = whole.head; guests = whole.guests; page = page; closed = tt }

abbrev pub IsElsewhereWhole : PoolState → WholeState → Type 0
IsElsewhereWhole pool whole = (place : ℕ) (span : SpanState) → slice_get (spans_moved whole) place ≡ Some span → IsElsewhere pool.groups span.id

-- a head whose span is elsewhere is not here
pub HasNoHead-elsewhere : (groups : List PooledState) (id : SpanId) → IsElsewhere groups id → HasNoHead groups id
HasNoHead-elsewhere groups id elsewhere index group is = elsewhere index group is.here 0 (group.head, refl, is.head_is)

module _ (old new : PoolState) (whole : WholeState) (takes : TakesIn old whole new) where
  abbrev group : PooledState
  group = pooled whole takes.page

  pub groups-TakesIn : new.groups ≡ insert old.groups takes.index group
  groups-TakesIn = ap (λ (p : PoolState). p.groups) takes.after

  -- each id stands as often as in the pool before and in the group
  pub times-TakesIn : (id : SpanId) → times id (spans_in new.groups) ≡ times id (spans_moved whole) + times id (spans_in old.groups)
  times-TakesIn id = ap (λ groups. times id (spans_in groups)) groups-TakesIn ∙ count-spans_insert spans_of (λ (s : SpanState). same_span s.id id) old.groups takes.index group

  -- the group came with its page, or has no live slot
  IsSoundGroup-come : IsSoundWhole whole → IsSoundGroup group
  IsSoundGroup-come fits = elim (empty_or_not (union_of (spans_moved whole))) [
    | inl none ↦ subst (λ page. IsSoundGroup (pooled whole page)) (sym (takes.emptied none)) (IsSoundGroup-unpaged (pooled whole whole.words) as_it_was none)
    | inr live ↦ subst (λ page. IsSoundGroup (pooled whole page)) (sym (takes.live live)) as_it_was
  ]
    where
      as_it_was : IsSoundGroup (pooled whole whole.words)
      as_it_was = record { apart = fits.apart; legal = fits.legal; classes = fits.classes; page = fits.words }

  -- where it has a page, some slot is live
  in_use : IsSome takes.page → union_of (spans_moved whole) ≢ set.empty
  in_use some none = let e : IsSome {T = Words} None = subst IsSome (takes.emptied none) some in absurd cc

  pub IsSound-TakesIn : IsSound old → IsSoundWhole whole → IsElsewhereWhole old whole → IsSound new
  IsSound-TakesIn sound fits elsewhere = subst IsSound (sym takes.after) (IsSound-inserted old sound group takes.index takes.place (IsSoundGroup-come fits) in_use fits.once elsewhere _ _)

-- the pool is sound whatever room it has
pub IsSound-with_rooms : (pool : PoolState) (groups spans : ℕ) → IsSound pool → IsSound (with_rooms pool groups spans)
IsSound-with_rooms pool groups spans sound = record { ascending = sound.ascending; groups = sound.groups; in_use = sound.in_use; once = sound.once }

-- several groups come, one after another: each id stands as often as in the pool before and in the groups
pub times-TakesAll : (wholes : List WholeState) (old new : PoolState) → TakesAll old wholes new → (id : SpanId)
    → times id (spans_in new.groups) ≡ times id (flat_map spans_moved wholes) + times id (spans_in old.groups)
times-TakesAll [] old new same id = ap (λ (p : PoolState). times id (spans_in p.groups)) same ∙ omega arith
times-TakesAll (whole ∷ wholes) old new (mid, rest, takes) id = omega (
  arith,
  times-TakesIn mid new whole takes id,
  times-TakesAll wholes old mid rest id,
  count-append (λ (s : SpanState). same_span s.id id) (spans_moved whole) (flat_map spans_moved wholes),
)
