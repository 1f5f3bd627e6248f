-- A pool that forgets what can never be live again stays sound, and shows the same values.
use Rattle.std.proofs.Common.{suc, ◌≡◌, ℕ, ◌+◌, ◌≤◌, Bool, true, false, not, cond, List, [], ◌∷◌, ◌++◌, length, map, is_some, Option, Some, None, ap, sym, subst, ◌∙◌, refl, arith, MatchOption, sum_by, length-append}
use Rattle.std.specs.FinSet.{empty}
use Rattle.std.proofs.lemmas.List.Sums.{sum_by-append}
use Rattle.page.specs.Words.{Words}
use Rattle.span.specs.Ids.{same_span}
use Rattle.span.specs.State.{SpanState}
use Rattle.span.specs.declared.id.SpanId.{SpanId}
use Rattle.span.specs.declared.key.Key.{Key}
use Rattle.groups.specs.Dead.{dead_guests, live_among, without_dead}
use Rattle.groups.specs.Group.{HaveGuestsOnce, paged_in, spans_in, spans_of}
use Rattle.groups.specs.Shown.{shown_by}
use Rattle.groups.specs.Sound.{AreSoundGroups, AreStored, IsSoundGroup}
use Rattle.groups.specs.Spans.{union_of}
use Rattle.groups.proofs.DeadGuests.{IsSoundGroup-without_dead, length-without_dead, live_among-none, live_slots-none, occupied-without_dead, times-without_dead}
use Rattle.groups.proofs.ForgottenShown.{AreThinned, AreThinned-live, AreThinned-stays}
use Rattle.groups.proofs.GroupSpans.{count-spans_remove, times}
use Rattle.groups.proofs.Lists.{before-map, count-append, count-cons}
use Rattle.groups.proofs.ShownGroups.{value-logged}
use Rattle.pool.specs.Forgets.{gone_from, left_in, unpaged_in}
use Rattle.pool.specs.Sound.{IsSound}
use Rattle.pool.specs.State.{PoolState, PooledState}
use Rattle.pool.proofs.ForgottenGroups.{before-left}
use Rattle.pool.proofs.Heads.{Ascend-filter}
use Rattle.pool.proofs.Walked.{paged}

-- each span is of a group with a page, or of one with none

module _ (w : SpanState → ℕ) where
  pub sum-paged : (groups : List PooledState) → sum_by w (spans_in (paged_in groups)) + sum_by w (spans_in (unpaged_in groups)) ≡ sum_by w (spans_in groups)
  sum-paged [] = refl
  sum-paged (group ∷ groups) = by_test (is_some group.page) (sum-paged groups)
    where
      by_test : (b : Bool) → sum_by w (spans_in (paged_in groups)) + sum_by w (spans_in (unpaged_in groups)) ≡ sum_by w (spans_in groups)
          → sum_by w (spans_in (cond b (group ∷ paged_in groups) (paged_in groups)))
          + sum_by w (spans_in (cond (not b) (group ∷ unpaged_in groups) (unpaged_in groups))) ≡ sum_by w (spans_in (group ∷ groups))
      by_test true rest = omega (arith, rest, sum_by-append w (spans_of group) (spans_in (paged_in groups)), sum_by-append w (spans_of group) (spans_in groups))
      by_test false rest = omega (arith, rest, sum_by-append w (spans_of group) (spans_in (unpaged_in groups)), sum_by-append w (spans_of group) (spans_in groups))

length-paged : (groups : List PooledState) → length (spans_in (paged_in groups)) + length (spans_in (unpaged_in groups)) ≡ length (spans_in groups)
length-paged [] = refl
length-paged (group ∷ groups) = by_test (is_some group.page) (length-paged groups)
  where
    by_test : (b : Bool) → length (spans_in (paged_in groups)) + length (spans_in (unpaged_in groups)) ≡ length (spans_in groups)
        → length (spans_in (cond b (group ∷ paged_in groups) (paged_in groups))) + length (spans_in (cond (not b) (group ∷ unpaged_in groups) (unpaged_in groups))) ≡ length (spans_in (group ∷ groups))
    by_test true rest = omega (arith, rest, length-append (spans_of group) (spans_in (paged_in groups)), length-append (spans_of group) (spans_in groups))
    by_test false rest = omega (arith, rest, length-append (spans_of group) (spans_in (unpaged_in groups)), length-append (spans_of group) (spans_in groups))

-- as many spans are left as have not gone
pub length-left : (groups : List PooledState) → length (spans_in (left_in groups)) + length (gone_from groups) ≡ length (spans_in groups)
length-left groups = omega (arith, length-without_dead (paged_in groups), length-paged groups, length-append (dead_guests (paged_in groups)) (spans_in (unpaged_in groups)))

times-left : (id : SpanId) (groups : List PooledState) → times id (spans_in (left_in groups)) ≤ times id (spans_in groups)
times-left id groups = omega (arith, times-without_dead id (paged_in groups), sum-paged (λ (s : SpanState). cond {A = ℕ} (same_span s.id id) 1 0) groups)

-- no id stands twice among the guests of a group
pub HaveGuestsOnce-sound : (groups : List PooledState) → ((id : SpanId) → times id (spans_in groups) ≤ 1) → HaveGuestsOnce groups
HaveGuestsOnce-sound groups once index group here id =
    let p = λ (s : SpanState). same_span s.id id in
    omega (arith, once id, count-spans_remove spans_of p groups index group here, count-cons p group.head group.guests)

pub IsSound-left : (old : PoolState) → IsSound old → IsSound (record old { groups = left_in old.groups })
IsSound-left old sound = record {
  ascending = λ low high a b less at_low at_high.
      let x = before-map without_dead (paged_in old.groups) low a at_low in
      let y = before-map without_dead (paged_in old.groups) high b at_high in
      rw (heads a x.0 x.2, heads b y.0 y.2) (Ascend-filter paged old.groups sound.ascending low high x.0 y.0 less x.1 y.1);
  groups = λ index group here.
      let was = before-left old.groups index group here in
      subst (λ (g : PooledState). IsSoundGroup g) was.4 (IsSoundGroup-without_dead was.0 (sound.groups was.1 was.0 was.2));
  in_use = λ index group here has none.
      let was = before-left old.groups index group here in
      sound.in_use was.1 was.0 was.2 was.3 (sym (occupied-without_dead was.0) ∙ ap (λ (g : PooledState). union_of (spans_of g)) was.4 ∙ none);
  once = λ id. omega (arith, times-left id old.groups, sound.once id);
}
  where
    heads : (a b : PooledState) → without_dead b ≡ a → a.head.id ≡ b.head.id
    heads a b is = ap (λ (g : PooledState). g.head.id) (sym is)

-- the values

module _ (key : Key) where
  -- spans in which no slot is live may go
  thinned-none : (spans many few : List SpanState) → union_of spans ≡ empty → times key.span (spans ++ many) ≤ 1 → AreThinned key many few → AreThinned key (spans ++ many) few
  thinned-none spans many few none once thin =
      subst (λ (live : List SpanState). AreThinned key (spans ++ many) (live ++ few)) (live_among-none spans (live_slots-none spans none)) (AreThinned-live key spans many few once thin)

  thinned : (groups : List PooledState) → AreSoundGroups groups → times key.span (spans_in groups) ≤ 1 → AreThinned key (spans_in groups) (spans_in (left_in groups))
  thinned [] sound once = record { value = refl; times_in = omega arith }
  thinned (group ∷ groups) sound once =
      by_page group.page (sound 0 group refl).page
      (thinned groups (λ index g at. sound (suc index) g at) (omega (arith, once, count-append p (spans_of group) (spans_in groups))))
    where
      p : SpanState → Bool
      p s = same_span s.id key.span

      by_page : (page : Option Words) → MatchOption page (union_of (spans_of group) ≡ empty) (AreStored (spans_of group)) → AreThinned key (spans_in groups) (spans_in (left_in groups))
          → AreThinned key (spans_in (group ∷ groups)) (spans_in (map without_dead (cond (is_some page) (group ∷ paged_in groups) (paged_in groups))))
      by_page None none later = thinned-none (spans_of group) (spans_in groups) (spans_in (left_in groups)) none once later
      by_page (Some words) stored later =
          AreThinned-stays key group.head (group.guests ++ spans_in groups) (live_among group.guests ++ spans_in (left_in groups))
          (AreThinned-live key group.guests (spans_in groups) (spans_in (left_in groups)) (omega (arith, once, count-cons p group.head (group.guests ++ spans_in groups))) later)

pub value_of-left : (old : PoolState) → IsSound old → (key : Key) → (shown_by (left_in old.groups)).value_of key ≡ (shown_by old.groups).value_of key
value_of-left old sound key =
    let now = IsSound-left old sound in
    value-logged (left_in old.groups) now.groups now.once key ∙ (thinned key old.groups sound.groups (sound.once key.span)).value ∙ sym (value-logged old.groups sound.groups sound.once key)
