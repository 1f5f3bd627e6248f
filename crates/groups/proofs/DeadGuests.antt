-- Spans without those in which no slot is live.
use Rattle.std.proofs.Common.{zero, suc, ◌≡◌, ℕ, ◌+◌, Bool, true, false, not, cond, List, [], ◌∷◌, ◌++◌, Some, MatchOption, filter, length, map, slice_get, ◌∙◌, ap, sym, refl, arith, rules}
use Rattle.std.specs.FinSet.{contains, contains-empty, empty, empty_of_len, len, len-empty, union}
use Rattle.std.specs.Ordering.{nat_cmp}
use Rattle.std.specs.Prelude.{nat_lt}
use Rattle.std.proofs.lemmas.Bool.{ltb-false}
use Rattle.std.proofs.lemmas.List.{length-append}
use Rattle.std.proofs.lemmas.List.Filters.{length-filter_both}
use Rattle.bitmap.specs.Slots.{SlotSet}
use Rattle.bitmap.specs.Words.{same_slots}
use Rattle.span.specs.Log.{live_slots}
use Rattle.span.specs.Ids.{same_span}
use Rattle.span.specs.State.{SpanState}
use Rattle.span.specs.declared.id.SpanId.{SpanId}
use Rattle.groups.specs.Dead.{dead_among, dead_guests, is_dead, is_live, live_among, without_dead}
use Rattle.groups.specs.Group.{Group, spans_in, spans_of}
use Rattle.groups.specs.Sound.{IsSoundGroup}
use Rattle.groups.specs.Spans.{AreApart, union_of}
use Rattle.groups.proofs.GroupSpans.{times}
use Rattle.groups.proofs.Lists.{count-append, count-cons, same_some}
use Rattle.groups.proofs.Unions.{outside_left, union-empty, union-swap}

-- what a filter leaves

module _ {X : Type 0} (p : X → Bool) where
  -- what is left stood there and passes
  pub before-filter : (xs : List X) (place : ℕ) (x : X) → slice_get (filter p xs) place ≡ Some x → (was : ℕ) × (slice_get xs was ≡ Some x) × (p x ≡ true)
  before-filter [] place x there = absurd cc
  before-filter (first ∷ rest) place x there = by_test (p first) refl place there (before-filter rest)
    where
      by_test : (b : Bool) → p first ≡ b → (at : ℕ) → slice_get (cond b (first ∷ filter p rest) (filter p rest)) at ≡ Some x
          → ((k : ℕ) (y : X) → slice_get (filter p rest) k ≡ Some y → (was : ℕ) × (slice_get rest was ≡ Some y) × (p y ≡ true))
          → (was : ℕ) × (slice_get (first ∷ rest) was ≡ Some x) × (p x ≡ true)
      by_test true passes zero here later = (0, here, ap p (sym (same_some here)) ∙ passes)
      by_test true passes (suc at) here later = let found = later at x here in (suc found.0, found.1, found.2)
      by_test false fails at here later = let found = later at x here in (suc found.0, found.1, found.2)

  -- what stood there and passes is left
  pub after-filter : (xs : List X) (place : ℕ) (x : X) → slice_get xs place ≡ Some x → p x ≡ true → (now : ℕ) × (slice_get (filter p xs) now ≡ Some x)
  after-filter [] place x there passes = absurd cc
  after-filter (first ∷ rest) zero x there passes = search (rules, p, filter, same_some)
  after-filter (first ∷ rest) (suc place) x there passes = by_test (p first) (after-filter rest place x there passes)
    where
      by_test : (b : Bool) → (now : ℕ) × (slice_get (filter p rest) now ≡ Some x) → (now : ℕ) × (slice_get (cond b (first ∷ filter p rest) (filter p rest)) now ≡ Some x)
      by_test true later = (suc later.0, later.1)
      by_test false later = later

-- live spans

-- a span that is not live has no live slot
pub live_slots-dead : (span : SpanState) → is_live span ≡ false → live_slots span.log ≡ empty
live_slots-dead span dead = empty_of_len (live_slots span.log) (omega (arith, ltb-false 0 (len (live_slots span.log)) dead))

-- and one with no live slot is not live
pub is_live-none : (span : SpanState) → live_slots span.log ≡ empty → is_live span ≡ false
is_live-none span none = ap (λ (slots : SlotSet). nat_lt 0 (len slots)) none ∙ ap (nat_lt 0) (len-empty nat_cmp)

empty_left : (a b : SlotSet) → union a b ≡ empty → a ≡ empty
empty_left a b none = same_slots _ _ (λ q. outside_left a b q (ap (λ (s : SlotSet). contains s q) none ∙ contains-empty nat_cmp q) ∙ sym (contains-empty nat_cmp q))

-- where no slot is live in any of the spans, it is so of each
pub live_slots-none : (spans : List SpanState) → union_of spans ≡ empty → (place : ℕ) (span : SpanState) → slice_get spans place ≡ Some span → live_slots span.log ≡ empty
live_slots-none [] none place span there = absurd cc
live_slots-none (first ∷ rest) none zero span there = ap (λ (s : SpanState). live_slots s.log) (sym (same_some there)) ∙ empty_left (live_slots first.log) (union_of rest) none
live_slots-none (first ∷ rest) none (suc place) span there = search (rules, empty_left, union-swap, (live_slots-none rest (empty_left (union_of rest) (live_slots first.log) (union-swap (union_of rest) (live_slots first.log) ∙ none)) place span there))

-- and none of them is live
pub live_among-none : (spans : List SpanState) → ((place : ℕ) (span : SpanState) → slice_get spans place ≡ Some span → live_slots span.log ≡ empty) → live_among spans ≡ []
live_among-none [] none = refl
live_among-none (span ∷ rest) none = by_test (is_live span) (is_live-none span (none 0 span refl)) (live_among-none rest (λ place other there. none (suc place) other there))
  where
    by_test : (b : Bool) → b ≡ false → live_among rest ≡ [] → cond b (span ∷ live_among rest) (live_among rest) ≡ []
    by_test b dead later = search rules

-- no slot is live in the others
pub union_of-live : (spans : List SpanState) → union_of (live_among spans) ≡ union_of spans
union_of-live [] = refl
union_of-live (span ∷ rest) = search (rules, union-empty, union-swap, live_slots-dead, (union_of-live rest))

pub AreApart-live : (spans : List SpanState) → AreApart spans → AreApart (live_among spans)
AreApart-live [] apart = tt
AreApart-live (span ∷ rest) apart = search (rules, union_of-live, (AreApart-live rest apart.1))

-- each id stands among the live spans and the others as often as among all
pub times-live : (id : SpanId) (spans : List SpanState) → times id (live_among spans) + times id (dead_among spans) ≡ times id spans
times-live id [] = refl
times-live id (span ∷ rest) = by_test (is_live span) (times-live id rest)
  where
    p : SpanState → Bool
    p s = same_span s.id id

    by_test : (b : Bool) → times id (live_among rest) + times id (dead_among rest) ≡ times id rest
        → times id (cond b (span ∷ live_among rest) (live_among rest)) + times id (cond (not b) (span ∷ dead_among rest) (dead_among rest)) ≡ times id (span ∷ rest)
    by_test true later = omega (arith, later, count-cons p span (live_among rest), count-cons p span rest)
    by_test false later = omega (arith, later, count-cons p span (dead_among rest), count-cons p span rest)

pub length-live : (spans : List SpanState) → length (live_among spans) + length (dead_among spans) ≡ length spans
length-live spans = length-filter_both is_live is_dead (λ s. refl) spans

-- the group without its guests in which no slot is live

module _ {Closed : Type 0} (group : Group Closed) where
  -- its spans stood in the group before
  pub before-without_dead : (place : ℕ) (span : SpanState) → slice_get (spans_of (without_dead group)) place ≡ Some span → (was : ℕ) × (slice_get (spans_of group) was ≡ Some span)
  before-without_dead zero span there = (0, there)
  before-without_dead (suc place) span there = let was = before-filter is_live group.guests place span there in (suc was.0, was.1)

  pub occupied-without_dead : union_of (spans_of (without_dead group)) ≡ union_of (spans_of group)
  occupied-without_dead = ap (union (live_slots group.head.log)) (union_of-live group.guests)

  pub IsSoundGroup-without_dead : IsSoundGroup group → IsSoundGroup (without_dead group)
  IsSoundGroup-without_dead sound = search (rules, union_of-live, AreApart-live, before-without_dead, MatchOption, occupied-without_dead)

-- groups that lose such guests

module _ {Closed : Type 0} where
  -- each id stands in the groups as often as among what is left and what went
  pub times-without_dead : (id : SpanId) (groups : List (Group Closed)) → times id (spans_in (map without_dead groups)) + times id (dead_guests groups) ≡ times id (spans_in groups)
  times-without_dead id [] = refl
  times-without_dead id (group ∷ groups) =
      let p = λ (s : SpanState). same_span s.id id in
      omega (
        arith,
        times-without_dead id groups,
        times-live id group.guests,
        count-cons p group.head (live_among group.guests ++ spans_in (map without_dead groups)),
        count-cons p group.head (group.guests ++ spans_in groups),
        count-append p (live_among group.guests) (spans_in (map without_dead groups)),
        count-append p group.guests (spans_in groups),
        count-append p (dead_among group.guests) (dead_guests groups),
      )

  pub length-without_dead : (groups : List (Group Closed)) → length (spans_in (map without_dead groups)) + length (dead_guests groups) ≡ length (spans_in groups)
  length-without_dead [] = refl
  length-without_dead (group ∷ groups) = search (rules, length-live, length-append, (length-without_dead groups))
