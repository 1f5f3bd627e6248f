-- Groups where one is replaced by a group whose spans have the same ids, at the same places.
use Rattle.std.proofs.Common.{suc, ◌≡◌, ℕ, cond, List, [], ◌∷◌, length, Some, set, slice_get, ◌∙◌, ap, subst, refl, arith, inl, inr, rules}
use Rattle.std.specs.Prelude.{remove}
use Rattle.std.proofs.lemmas.Option.{none-some}
use Rattle.span.specs.Ids.{same_span}
use Rattle.span.specs.State.{SpanState}
use Rattle.span.specs.declared.id.SpanId.{SpanId}
use Rattle.groups.specs.Group.{Ascend, Group, spans_in, spans_of, with_span}
use Rattle.groups.specs.Sound.{AreSoundGroups, IsSoundGroup}
use Rattle.groups.proofs.GroupSpans.{count-spans_insert, count-spans_remove, times}
use Rattle.groups.proofs.GuestDirectory.{HaveSameIds, HaveSameIds-same, HaveSameIds-set}
use Rattle.groups.proofs.Lists.{before-set, cases-set, count-cons, same_some}
use Rattle.groups.proofs.Removed.{set-insert}
use Rattle.groups.proofs.Standing.{spans_of-with_span}

-- each id stands as often among spans of the same ids
times-same : (before after : List SpanState) → HaveSameIds before after → (id : SpanId) → times id after ≡ times id before
times-same [] [] ids id = refl
times-same [] (new ∷ news) ids id = absurd (let was = ids.back 0 new refl in none-some was.0 was.1)
times-same (old ∷ olds) [] ids id = absurd (let now = ids.forth 0 old refl in none-some now.0 now.1)
times-same (old ∷ olds) (new ∷ news) ids id =
    let now = ids.forth 0 old refl in
    let same : new.id ≡ old.id = ap (λ (s : SpanState). s.id) (same_some now.1) ∙ now.2 in
    let one : cond {A = ℕ} (same_span new.id id) 1 0 ≡ cond (same_span old.id id) 1 0 = ap (λ i. cond {A = ℕ} (same_span i id) 1 0) same in
    let rest = times-same olds news (record { forth = λ place span here. ids.forth (suc place) span here; back = λ place span here. ids.back (suc place) span here }) id in
    omega (arith, one, rest, count-cons (λ (s : SpanState). same_span s.id id) old olds, count-cons (λ (s : SpanState). same_span s.id id) new news)

-- spans of the same ids are as many
pub length-same : (before after : List SpanState) → HaveSameIds before after → length after ≡ length before
length-same [] [] ids = refl
length-same [] (new ∷ news) ids = absurd (let was = ids.back 0 new refl in none-some was.0 was.1)
length-same (old ∷ olds) [] ids = absurd (let now = ids.forth 0 old refl in none-some now.0 now.1)
length-same (old ∷ olds) (new ∷ news) ids = search (rules, (length-same olds news (record { forth = λ place span here. ids.forth (suc place) span here; back = λ place span here. ids.back (suc place) span here })))

module _ {Closed : Type 0} where
  -- the groups have spans of the same ids, at the same places
  abbrev pub AreAlike : Group Closed → Group Closed → Type 0
  AreAlike old new = HaveSameIds (spans_of old) (spans_of new)

  pub head-alike : (old new : Group Closed) → AreAlike old new → new.head.id ≡ old.head.id
  head-alike old new ids = let now = ids.forth 0 old.head refl in ap (λ (s : SpanState). s.id) (same_some now.1) ∙ now.2

  pub guests-alike : (old new : Group Closed) → AreAlike old new → HaveSameIds old.guests new.guests
  guests-alike old new ids = record { forth = λ place span here. ids.forth (suc place) span here; back = λ place span here. ids.back (suc place) span here }

  -- a change of one span that leaves its id
  pub AreAlike-with_span : (group : Group Closed) (place : ℕ) (span changed : SpanState) → slice_get (spans_of group) place ≡ Some span → changed.id ≡ span.id
      → AreAlike group (with_span group place changed)
  AreAlike-with_span group place span changed here same = search (rules, HaveSameIds, spans_of-with_span, HaveSameIds-set)

  module _ (groups : List (Group Closed)) (index : ℕ) (group after : Group Closed) (here : slice_get groups index ≡ Some group) (ids : AreAlike group after) where
    -- where a group of these ids stood before
    pub was_alike : (other : ℕ) (g : Group Closed) → slice_get (set groups index after) other ≡ Some g → (was : Group Closed) × (slice_get groups other ≡ Some was) × AreAlike was g
    was_alike = before-set AreAlike (λ g. HaveSameIds-same (spans_of g)) groups index group after here ids

    pub Ascend-replaced : Ascend groups → Ascend (set groups index after)
    Ascend-replaced ascend low high a b less at_low at_high = search (rules, was_alike, head-alike)

    -- each id stands as often as before
    pub times-replaced : (id : SpanId) → times id (spans_in (set groups index after)) ≡ times id (spans_in groups)
    times-replaced id =
        let p = λ (s : SpanState). same_span s.id id in
        omega (
          arith,
          ap (λ groups. times id (spans_in groups)) (set-insert groups index group after here),
          count-spans_insert spans_of p (remove groups index) index after,
          count-spans_remove spans_of p groups index group here,
          times-same (spans_of group) (spans_of after) ids id,
        )

  pub AreSoundGroups-replaced : (groups : List (Group Closed)) (index : ℕ) (after : Group Closed) → AreSoundGroups groups → IsSoundGroup after → AreSoundGroups (set groups index after)
  AreSoundGroups-replaced groups index after sound after_sound other g there = elim (cases-set groups index after other g there) [
    | inl this ↦ subst IsSoundGroup this.1 after_sound
    | inr that ↦ sound other g that.1
  ]
