-- How the groups of a plan are closed, one pair after another, and a list written one element after another.
use Rattle.std.proofs.Common.{◌≡◌, ℕ, zero, suc, ◌+◌, ◌<◌, ◌&&◌, ◌||◌, Bool, true, false, is_some, List, [], ◌∷◌, ◌++◌, length, map, refl, sym, ap, subst, ◌∙◌, arith, inl, inr, Some, None, slice_get, set, take, drop, get_or, append_assoc}
use Rattle.std.proofs.lemmas.Bool.{cases_Bool, cases_eq, cases_lt, false≢true, or_right}
use Rattle.std.proofs.lemmas.List.{drop_more, get_or_at, length-append, length-drop, length-map, length-take, length-take-le, map-append, set_at, take_more}
use Rattle.std.proofs.lemmas.List.Folds.{list_any-append}
use Rattle.std.proofs.Math.Bool.{and-false, or-false}
use Rattle.span.specs.declared.id.SpanId.{SpanId}
use Rattle.span.specs.Ids.{rank, same_span}
use Rattle.span.proofs.Ids.{same_id_from_test, test_from_same_id}
use Rattle.groups.specs.Group.{Ascend}
use Rattle.shard.specs.Closes.{Closes, closed_group}
use Rattle.shard.specs.Group.{GroupState}
use Rattle.shard.specs.State.{ShardState}
use Rattle.marks.specs.Closings.{AreOpen, closed_as_planned, closed_by, closed_onto, closing}
use Rattle.marks.specs.Plans.{AreClosedAsPlanned, plans_onto}
use Rattle.shard.specs.Sound.{IsSound as IsSoundShard}
use Rattle.groups.proofs.Lists.{same_some}
use Rattle.marks.specs.Seen.{AreSound}
use Rattle.marks.proofs.Flagged.{IsSoundShard-flagged, map_back}
use Rattle.marks.proofs.Lists.{slice_get-map_at, slice_get-set_other, slice_get-set_same}

-- a list written one element after another

-- the element at the index gives way to what the function makes of it
pub written-more : {X : Type 0} (f : X → X) (before now : List X) (index : ℕ) (item after : X) → now ≡ map f (take index before) ++ drop index before
    → index < length now → after ≡ f (get_or now index item)
    → set now index after ≡ map f (take (index + 1) before) ++ drop (index + 1) before
written-more {X = X} f before now index item after now_is within after_is =
    ap (λ xs. set xs index after) split
    ∙ set_at done read rest after index done_long
    ∙ ap (λ x. done ++ x ∷ rest) (after_is ∙ ap f (ap (λ xs. get_or xs index item) split ∙ get_or_at done read rest item index done_long))
    ∙ sym (append_assoc done (f read ∷ []) rest)
    ∙ ap (λ xs. xs ++ rest) (sym (ap (map f) (take_more before index item below) ∙ map-append f (take index before) (read ∷ [])))
  where
    below : index < length before
    below = elim (cases_lt index (length before)) [
      | inl fine ↦ fine
      | inr past ↦ absurd (omega (
        arith,
        within,
        ap length now_is,
        length-append (map f (take index before)) (drop index before),
        length-map (take index before) f,
        length-take index before,
        length-drop index before,
      ))
    ]

    read : X
    read = get_or before index item

    done : List X
    done = map f (take index before)

    rest : List X
    rest = drop (index + 1) before

    done_long : length done ≡ index
    done_long = length-map (take index before) f ∙ length-take-le index before (omega (arith, below))

    split : now ≡ done ++ read ∷ rest
    split = now_is ∙ ap (λ xs. done ++ xs) (drop_more before index item below)

-- groups closed one pair after another

plans_onto-more : (pairs : List (SpanId × SpanId)) (pair : SpanId × SpanId) (head : SpanId) → plans_onto (pairs ++ pair ∷ []) head ≡ (plans_onto pairs head || same_span pair.1 head)
plans_onto-more pairs pair head =
    list_any-append (λ (p : SpanId × SpanId). same_span p.1 head) pairs (pair ∷ [])
    ∙ ap (λ b. plans_onto pairs head || b) (or-false (same_span pair.1 head))

-- a group that the pair does not name, or that has no page, stays as it was
closed_by-other : (pairs : List (SpanId × SpanId)) (pair : SpanId × SpanId) (group : GroupState) → (is_some group.page ≡ true → group.head.id ≡ pair.1 → ⊥)
    → closed_by pairs group ≡ closed_by (pairs ++ pair ∷ []) group
closed_by-other pairs pair group other = ap (λ b. record group { closed = group.closed || b }) (by_page (is_some group.page) other)
  where
    by_page : (paged : Bool) → (paged ≡ true → group.head.id ≡ pair.1 → ⊥) → (paged && plans_onto pairs group.head.id) ≡ (paged && plans_onto (pairs ++ pair ∷ []) group.head.id)
    by_page false other = refl
    by_page true other = sym (plans_onto-more pairs pair group.head.id ∙ ap (λ b. plans_onto pairs group.head.id || b) unlike ∙ or-false (plans_onto pairs group.head.id))
      where
        unlike : same_span pair.1 group.head.id ≡ false
        unlike = elim (cases_Bool (same_span pair.1 group.head.id)) [
          | inl e ↦ absurd (other refl (sym (same_id_from_test pair.1 group.head.id e)))
          | inr e ↦ e
        ]

-- the group with a page that the pair names is closed
closed_by-named : (pairs : List (SpanId × SpanId)) (pair : SpanId × SpanId) (group : GroupState) → is_some group.page ≡ true → group.head.id ≡ pair.1
    → closed_group (closed_by pairs group) ≡ closed_by (pairs ++ pair ∷ []) group
closed_by-named pairs pair group paged named =
    ap (λ b. record group { closed = b }) (sym (or_right group.closed (is_some group.page && plans_onto (pairs ++ pair ∷ []) group.head.id)
    (ap (λ b. b && plans_onto (pairs ++ pair ∷ []) group.head.id) paged ∙ plans_onto-more pairs pair group.head.id
    ∙ or_right (plans_onto pairs group.head.id) (same_span pair.1 group.head.id) (test_from_same_id pair.1 group.head.id (sym named)))))

pub closed-others : (pairs : List (SpanId × SpanId)) (pair : SpanId × SpanId) (groups : List GroupState)
    → ((index : ℕ) (group : GroupState) → slice_get groups index ≡ Some group → is_some group.page ≡ true → group.head.id ≡ pair.1 → ⊥)
    → map (closed_by pairs) groups ≡ map (closed_by (pairs ++ pair ∷ [])) groups
closed-others pairs pair [] others = refl
closed-others pairs pair (group ∷ groups) others =
    ap (λ g. g ∷ map (closed_by pairs) groups) (closed_by-other pairs pair group (others 0 group refl))
    ∙ ap (λ gs. closed_by (pairs ++ pair ∷ []) group ∷ gs) (closed-others pairs pair groups (λ index other here. others (suc index) other here))

closed-one : (pairs : List (SpanId × SpanId)) (pair : SpanId × SpanId) (groups : List GroupState) (index : ℕ) (group : GroupState)
    → slice_get (map (closed_by pairs) groups) index ≡ Some group → is_some group.page ≡ true → group.head.id ≡ pair.1
    → ((place : ℕ) (other : GroupState) → slice_get groups place ≡ Some other → other.head.id ≡ pair.1 → place ≡ index)
    → set (map (closed_by pairs) groups) index (closed_group group) ≡ map (closed_by (pairs ++ pair ∷ [])) groups
closed-one pairs pair [] index group here paged named only = absurd cc
closed-one pairs pair (first ∷ groups) zero group here paged named only =
    let same : closed_by pairs first ≡ group = cc in
    ap (λ g. g ∷ map (closed_by pairs) groups)
    (ap closed_group (sym same) ∙ closed_by-named pairs pair first (ap (λ (g : GroupState). is_some g.page) same ∙ paged)
    (ap (λ (g : GroupState). g.head.id) same ∙ named))
    ∙ ap (λ gs. closed_by (pairs ++ pair ∷ []) first ∷ gs)
    (closed-others pairs pair groups (λ place other there paged is. let past : suc place ≡ 0 = only (suc place) other there is in
    absurd (omega (arith, past))))
closed-one pairs pair (first ∷ groups) (suc index) group here paged named only =
    ap (λ g. g ∷ set (map (closed_by pairs) groups) index (closed_group group))
    (closed_by-other pairs pair first (λ paged is. let past : 0 ≡ suc index = only 0 first refl is in absurd (omega (arith, past))))
    ∙ ap (λ gs. closed_by (pairs ++ pair ∷ []) first ∷ gs)
    (closed-one pairs pair groups index group here paged named
    (λ place other there is. let next : suc place ≡ suc index = only (suc place) other there is in omega (arith, next)))

-- where the heads ascend, one group at most has the head
one_head : (groups : List GroupState) (head : SpanId) (low high : ℕ) (a b : GroupState) → Ascend groups → slice_get groups low ≡ Some a
    → slice_get groups high ≡ Some b → a.head.id ≡ head → b.head.id ≡ head → low ≡ high
one_head groups head low high a b up here there a_is b_is = elim (cases_eq low high) [
  | inl same ↦ same
  | inr differ ↦ elim (cases_lt low high) [
    | inl below ↦ absurd (omega (arith, up low high a b below here there, ap rank (a_is ∙ sym b_is)))
    | inr above ↦ absurd (omega (arith, up high low b a (omega (arith, above, differ)) there here, ap rank (a_is ∙ sym b_is)))
  ]
]

-- one pair more
pub closing-more : (shard : ShardState) (pairs : List (SpanId × SpanId)) (pair : SpanId × SpanId) (told : Bool) (after : ShardState) → Ascend after.groups
    → Closes (closing pairs shard) pair.1 told after → after ≡ closing (pairs ++ pair ∷ []) shard
closing-more shard pairs pair false after up (none, after_is) =
    after_is ∙ ap (λ groups. record shard { groups = groups })
    (closed-others pairs pair shard.groups
    (λ index group here paged is. false≢true
    (sym (ap is_some (none index (closed_by pairs group)
    (record { here = slice_get-map_at (closed_by pairs) shard.groups index group here; head_is = is }))) ∙ paged)))
closing-more shard pairs pair true after up (index, group, found, paged, after_is) =
    after_is ∙ ap (λ groups. record shard { groups = groups }) (closed-one pairs pair shard.groups index group found.here paged found.head_is only)
  where
    so_far : List GroupState
    so_far = map (closed_by pairs) shard.groups

    ascend : Ascend (set so_far index (closed_group group))
    ascend = subst (λ (s : ShardState). Ascend s.groups) after_is up

    only : (place : ℕ) (other : GroupState) → slice_get shard.groups place ≡ Some other → other.head.id ≡ pair.1 → place ≡ index
    only place other here is = elim (cases_eq place index) [
      | inl same ↦ same
      | inr differ ↦ one_head (set so_far index (closed_group group)) pair.1 place index (closed_by pairs other) (closed_group group) ascend
          (slice_get-set_other so_far index place (closed_group group) differ ∙ slice_get-map_at (closed_by pairs) shard.groups place other here)
          (slice_get-set_same so_far index group (closed_group group) found.here) is found.head_is
    ]

-- no pair has closed no group
pub closing-none : (shard : ShardState) → shard ≡ closing [] shard
closing-none shard = ap (λ groups. record shard { groups = groups }) (each shard.groups)
  where
    each : (groups : List GroupState) → groups ≡ map (closed_by []) groups
    each [] = refl
    each (group ∷ groups) =
        ap (λ b. record group { closed = b } ∷ groups) (sym (ap (λ b. group.closed || b) (and-false (is_some group.page)) ∙ or-false group.closed))
        ∙ ap (λ gs. closed_by [] group ∷ gs) (each groups)

-- where no group was closed, just those with a page are onto which the pairs fold
closed_as_planned-open : (pairs : List (SpanId × SpanId)) (groups : List GroupState) → AreClosedAsPlanned None groups → map (closed_by pairs) groups ≡ map (closed_as_planned pairs) groups
closed_as_planned-open pairs [] none = refl
closed_as_planned-open pairs (group ∷ groups) none =
    ap (λ b. record group { closed = b || (is_some group.page && plans_onto pairs group.head.id) } ∷ map (closed_by pairs) groups) (none 0 group refl)
    ∙ ap (λ gs. closed_as_planned pairs group ∷ gs) (closed_as_planned-open pairs groups (λ index other here. none (suc index) other here))

pub closing-open : (pairs : List (SpanId × SpanId)) (shards : List ShardState) → AreOpen shards → map (closing pairs) shards ≡ map (closed_onto pairs) shards
closing-open pairs [] none = refl
closing-open pairs (shard ∷ shards) none =
    ap (λ groups. record shard { groups = groups } ∷ map (closing pairs) shards) (closed_as_planned-open pairs shard.groups (none 0 shard refl))
    ∙ ap (λ rest. closed_onto pairs shard ∷ rest) (closing-open pairs shards (λ number other here. none (suc number) other here))

-- lists of values that lend shards

pub lent-set : {H : Type 0} (lent : H → ShardState) (items : List H) (index : ℕ) (item : H) → map lent (set items index item) ≡ set (map lent items) index (lent item)
lent-set lent [] index item = refl
lent-set lent (first ∷ items) zero item = refl
lent-set lent (first ∷ items) (suc index) item = ap (λ rest. lent first ∷ rest) (lent-set lent items index item)

-- lists of sound shards

AreSound-append : (shards : List ShardState) (shard : ShardState) → AreSound shards → IsSoundShard shard → AreSound (shards ++ shard ∷ [])
AreSound-append [] shard sound one zero other here = subst IsSoundShard (same_some here) one
AreSound-append [] shard sound one (suc number) other here = absurd cc
AreSound-append (first ∷ shards) shard sound one zero other here = sound 0 other here
AreSound-append (first ∷ shards) shard sound one (suc number) other here = AreSound-append shards shard (λ k s at. sound (suc k) s at) one number other here

-- of the lent shards, one more is sound
pub AreSound-more : {H : Type 0} (lent : H → ShardState) (lenders : List H) (index : ℕ) (lender : H) → index < length lenders → lender ≡ get_or lenders index lender
    → AreSound (map lent (take index lenders)) → IsSoundShard (lent lender) → AreSound (map lent (take (index + 1) lenders))
AreSound-more lent lenders index lender within is sound one =
    subst AreSound (sym (map-append lent (take index lenders) (lender ∷ [])) ∙ ap (map lent) (ap (λ l. take index lenders ++ l ∷ []) is ∙ sym (take_more lenders index lender within)))
    (AreSound-append (map lent (take index lenders)) (lent lender) sound one)

-- shards stay sound where groups of theirs are closed
pub AreSound-closing : (pairs : List (SpanId × SpanId)) (shards : List ShardState) → AreSound shards → AreSound (map (closing pairs) shards)
AreSound-closing pairs shards sound number shard here =
    let (was, there, is) = map_back (closing pairs) shards number shard here in
    subst IsSoundShard is (IsSoundShard-flagged (λ (group : GroupState). group.closed || (is_some group.page && plans_onto pairs group.head.id)) was (sound number was there))
