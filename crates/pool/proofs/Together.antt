-- What pool and shard show together stays as groups move between them.
use Rattle.std.proofs.Common.{◌≡◌, ℕ, ◌+◌, ◌≤◌, ◌⊎◌, Bool, true, false, cond, ◌||◌, List, [], ◌∷◌, ◌++◌, append_assoc, Option, Some, None, map, ap, sym, subst, ◌∙◌, refl, inl, inr, arith, rules}
use Rattle.std.specs.List.{flat_map}
use Rattle.std.proofs.Math.Bool.{or-false}
use Rattle.std.proofs.lemmas.Bool.{cases_eq}
use Rattle.span.specs.Ids.{same_span}
use Rattle.span.specs.Log.{Value}
use Rattle.span.specs.State.{SpanState}
use Rattle.span.specs.declared.id.SpanId.{SpanId}
use Rattle.span.specs.declared.key.Key.{Key}
use Rattle.shard.specs.Group.{GroupState}
use Rattle.groups.specs.Whole.{WholeState, spans_moved, whole_of}
use Rattle.shard.specs.Moves.{TakesIn as TakesInShard, with_room as with_room_in}
use Rattle.groups.specs.Shown.{issued_by, shown_by, span_named}
use Rattle.groups.specs.Sound.{AreSoundGroups}
use Rattle.shard.specs.Shown.{shown as shown_by_shard}
use Rattle.shard.specs.Sound.{IsSound as IsSoundShard}
use Rattle.shard.specs.State.{ShardState}
use Rattle.groups.specs.Group.{Group, spans_in, spans_of}
use Rattle.groups.proofs.GroupSpans.{put_in, taken_out, times}
use Rattle.groups.proofs.Lists.{count-append, find-none}
use Rattle.groups.proofs.Logged.{logged, logged_by, nothing_pending, same_plain_map}
use Rattle.groups.proofs.ShownGroups.{shown_by-logged}
use Rattle.shard.proofs.MovedGroups.{spans_in-TakesIn}
use Rattle.pool.specs.Calls.{Lifts, TakesAll, TakesIn, with_rooms}
use Rattle.pool.specs.Handover.{AreApart}
use Rattle.pool.specs.Shown.{first_of, shown, together}
use Rattle.pool.specs.Sound.{IsSound}
use Rattle.pool.specs.State.{PoolState}
use Rattle.pool.proofs.TakenIn.{groups-TakesIn, pooled, times-TakesAll}

-- the first span, if there is one, and else the second
abbrev first_span : Option SpanState → Option SpanState → Option SpanState
first_span None other = other
first_span (Some span) other = Some span

first_span-none : (o : Option SpanState) → first_span o None ≡ o
first_span-none None = refl
first_span-none (Some span) = refl

named-append : (xs ys : List SpanState) (id : SpanId) → span_named (xs ++ ys) id ≡ first_span (span_named xs id) (span_named ys id)
named-append [] ys id = refl
named-append (x ∷ xs) ys id = by_test (same_span x.id id) (named-append xs ys id)
  where
    by_test : (b : Bool) → span_named (xs ++ ys) id ≡ first_span (span_named xs id) (span_named ys id)
        → cond b (Some x) (span_named (xs ++ ys) id) ≡ first_span (cond b (Some x) (span_named xs id)) (span_named ys id)
    by_test true rest = refl
    by_test false rest = rest

none_named : (xs : List SpanState) (id : SpanId) → times id xs ≡ 0 → span_named xs id ≡ None
none_named xs id none = find-none (λ (s : SpanState). same_span s.id id) xs none

times-append : (id : SpanId) (xs ys : List SpanState) → times id (xs ++ ys) ≡ times id xs + times id ys
times-append id xs ys = count-append (λ (s : SpanState). same_span s.id id) xs ys

-- a span that is among those in the middle is found there, and one that is not is found without them
module _ (left middle right : List SpanState) (id : SpanId) (once : times id (left ++ (middle ++ right)) ≤ 1) where
  parts : times id (left ++ (middle ++ right)) ≡ times id left + (times id middle + times id right)
  parts = times-append id left (middle ++ right) ∙ ap (λ n. times id left + n) (times-append id middle right)

  named-without_middle : times id middle ≡ 0 → span_named (left ++ (middle ++ right)) id ≡ span_named (left ++ right) id
  named-without_middle none = search (rules, named-append, none_named)

  named-middle : (times id middle ≡ 0 → ⊥) → (span_named (left ++ (middle ++ right)) id ≡ span_named middle id) × (span_named (left ++ right) id ≡ None)
  named-middle some = search (rules, parts, none_named, named-append, first_span-none)

-- the lists find the same spans
abbrev pub Alike : List SpanState → List SpanState → Type 0
Alike xs ys = (id : SpanId) → span_named xs id ≡ span_named ys id

Alike-after : (zs xs ys : List SpanState) → Alike xs ys → Alike (zs ++ xs) (zs ++ ys)
Alike-after zs xs ys same id = named-append zs xs id ∙ ap (first_span (span_named zs id)) (same id) ∙ sym (named-append zs ys id)

-- spans that stand once may be moved to the front
Alike-front : (left middle right : List SpanState) → ((id : SpanId) → times id (left ++ (middle ++ right)) ≤ 1) → Alike (left ++ (middle ++ right)) (middle ++ (left ++ right))
Alike-front left middle right once id = elim (cases_eq (times id middle) 0) [
  | inl none ↦ named-without_middle left middle right id (once id) none
      ∙ sym (named-append middle (left ++ right) id ∙ ap (λ o. first_span o (span_named (left ++ right) id)) (none_named middle id none))
  | inr some ↦
      let found = named-middle left middle right id (once id) some in
      found.0 ∙ sym (named-append middle (left ++ right) id ∙ ap (first_span (span_named middle id)) found.1 ∙ first_span-none (span_named middle id))
]

logged-alike : (xs ys : List SpanState) → Alike xs ys → logged xs nothing_pending ≡ logged ys nothing_pending
logged-alike xs ys same = same_plain_map _ _ (λ key. ap (issued_by key) (same key.span)) (λ key. ap (logged_by key) (same key.span)) (λ worker owner. refl)

first_of-none : (o : Option Value) → first_of o None ≡ o
first_of-none None = refl
first_of-none (Some value) = refl

-- two lists show together what one after the other shows
logged-together : (xs ys : List SpanState) → ((id : SpanId) → times id xs + times id ys ≤ 1) → together (logged xs nothing_pending) (logged ys nothing_pending) ≡ logged (xs ++ ys) nothing_pending
logged-together xs ys once = same_plain_map _ _ (λ key. issued key) (λ key. value key) (λ worker owner. refl)
  where
    either : (id : SpanId) → (span_named xs id ≡ None) ⊎ (span_named ys id ≡ None)
    either id = elim (cases_eq (times id xs) 0) [
      | inl none ↦ inl (none_named xs id none)
      | inr some ↦ inr (none_named ys id (let most = once id in omega arith))
    ]

    issued : (key : Key) → (issued_by key (span_named xs key.span) || issued_by key (span_named ys key.span)) ≡ issued_by key (span_named (xs ++ ys) key.span)
    issued key = search (rules, either, named-append, or-false, first_span-none)

    value : (key : Key) → first_of (logged_by key (span_named xs key.span)) (logged_by key (span_named ys key.span)) ≡ logged_by key (span_named (xs ++ ys) key.span)
    value key = search (rules, either, logged_by, named-append, first_of-none, first_span-none)

-- groups show what the logs of their spans leave
pub shown_by-spans : {Closed : Type 0} (groups : List (Group Closed)) → AreSoundGroups groups → ((id : SpanId) → times id (spans_in groups) ≤ 1)
    → (spans : List SpanState) → spans_in groups ≡ spans → shown_by groups ≡ logged spans nothing_pending
shown_by-spans groups sound once spans is = shown_by-logged groups sound once ∙ ap (λ xs. logged xs nothing_pending) is

-- an adoption

-- where spans move from one list to another, both show together what they showed
module _ (left moved right fore aft : List SpanState) (once_here : (id : SpanId) → times id (left ++ (moved ++ right)) ≤ 1) (once_there : (id : SpanId) → times id (fore ++ (moved ++ aft)) ≤ 1) where
  abbrev was_here : List SpanState
  was_here = left ++ (moved ++ right)

  abbrev is_there : List SpanState
  is_there = fore ++ (moved ++ aft)

  pub together-moved : together (logged (left ++ right) nothing_pending) (logged (fore ++ (moved ++ aft)) nothing_pending)
      ≡ together (logged (left ++ (moved ++ right)) nothing_pending) (logged (fore ++ aft) nothing_pending)
  together-moved = same_plain_map _ _ (λ key. issued key) (λ key. value key) (λ worker owner. refl)
    where
      issued : (key : Key) → (issued_by key (span_named (left ++ right) key.span) || issued_by key (span_named is_there key.span))
          ≡ (issued_by key (span_named was_here key.span) || issued_by key (span_named (fore ++ aft) key.span))
      issued key = elim (cases_eq (times key.span moved) 0) [
        | inl none ↦
            ap (λ o. issued_by key o || issued_by key (span_named is_there key.span)) (sym (named-without_middle left moved right key.span (once_here key.span) none))
            ∙ ap (λ o. issued_by key (span_named was_here key.span) || issued_by key o) (named-without_middle fore moved aft key.span (once_there key.span) none)
        | inr some ↦
            let here = named-middle left moved right key.span (once_here key.span) some in
            let there = named-middle fore moved aft key.span (once_there key.span) some in
            ap (λ o. issued_by key o || issued_by key (span_named is_there key.span)) here.1
            ∙ ap (issued_by key) (there.0 ∙ sym here.0)
            ∙ sym (ap (λ o. issued_by key (span_named was_here key.span) || issued_by key o) there.1 ∙ or-false _)
      ]

      value : (key : Key) → first_of (logged_by key (span_named (left ++ right) key.span)) (logged_by key (span_named is_there key.span))
          ≡ first_of (logged_by key (span_named was_here key.span)) (logged_by key (span_named (fore ++ aft) key.span))
      value key = elim (cases_eq (times key.span moved) 0) [
        | inl none ↦
            ap (λ o. first_of (logged_by key o) (logged_by key (span_named is_there key.span))) (sym (named-without_middle left moved right key.span (once_here key.span) none))
            ∙ ap (λ o. first_of (logged_by key (span_named was_here key.span)) (logged_by key o)) (named-without_middle fore moved aft key.span (once_there key.span) none)
        | inr some ↦
            let here = named-middle left moved right key.span (once_here key.span) some in
            let there = named-middle fore moved aft key.span (once_there key.span) some in
            ap (λ o. first_of (logged_by key o) (logged_by key (span_named is_there key.span))) here.1
            ∙ ap (logged_by key) (there.0 ∙ sym here.0)
            ∙ sym (ap (λ o. first_of (logged_by key (span_named was_here key.span)) (logged_by key o)) there.1 ∙ first_of-none _)
      ]

-- after a lift the spans are the old ones without the group's
pub spans_in-Lifts : (old new : PoolState) (head : SpanId) (whole : WholeState) → Lifts old head (Some whole) new
    → (left : List SpanState) × (right : List SpanState) × (spans_in old.groups ≡ left ++ (spans_moved whole ++ right)) × (spans_in new.groups ≡ left ++ right)
spans_in-Lifts old new head whole (index, group, at, whole_is, new_is) =
    let out = taken_out spans_of old.groups index group at.here in (
      out.left,
      out.right,
      out.whole ∙ ap (λ (w : WholeState). out.left ++ (spans_moved w ++ out.right)) (sym whole_is),
      ap (λ (p : PoolState). spans_in p.groups) new_is ∙ out.after,
    )

pub together-Adopts : (old new : PoolState) (shard adopter : ShardState) (head : SpanId) (whole : WholeState) (spans : ℕ) → IsSound old → IsSound new → IsSoundShard shard → IsSoundShard adopter
    → Lifts old head (Some whole) new → TakesInShard (with_room_in shard None spans) whole adopter
    → together (shown new) (shown_by_shard adopter) ≡ together (shown old) (shown_by_shard shard)
together-Adopts old new shard adopter head whole spans sound sound_new sound_shard sound_adopter lifts takes =
    let out = spans_in-Lifts old new head whole lifts in
    let into = spans_in-TakesIn (with_room_in shard None spans) adopter whole takes in
    let here : (id : SpanId) → times id (out.0 ++ (spans_moved whole ++ out.1)) ≤ 1 = λ id. subst (λ xs. times id xs ≤ 1) out.2 (sound.once id) in
    let there : (id : SpanId) → times id (into.left ++ (spans_moved whole ++ into.right)) ≤ 1 = λ id. subst (λ xs. times id xs ≤ 1) into.with_is (sound_adopter.once id) in
    (λ i. together (shown_by-spans new.groups sound_new.groups sound_new.once (out.0 ++ out.1) out.3 i)
    (shown_by-spans adopter.groups sound_adopter.groups sound_adopter.once (into.left ++ (spans_moved whole ++ into.right)) into.with_is i))
    ∙ together-moved out.0 (spans_moved whole) out.1 into.left into.right here there
    ∙ sym (λ i. together (shown_by-spans old.groups sound.groups sound.once (out.0 ++ (spans_moved whole ++ out.1)) out.2 i)
    (shown_by-spans shard.groups sound_shard.groups sound_shard.once (into.left ++ into.right) into.without_is i))

-- the end of a shard

-- no span stands twice among the pool's and those of the groups
abbrev AreOnce : PoolState → List WholeState → Type 0
AreOnce pool wholes = (id : SpanId) → times id (flat_map spans_moved wholes) + times id (spans_in pool.groups) ≤ 1

Alike-TakesIn : (old new : PoolState) (whole : WholeState) → ((id : SpanId) → times id (spans_in new.groups) ≤ 1) → TakesIn old whole new
    → Alike (spans_in new.groups) (spans_moved whole ++ spans_in old.groups)
Alike-TakesIn old new whole once takes id =
    let part = put_in spans_of old.groups takes.index (pooled whole takes.page) in
    let is : spans_in new.groups ≡ part.left ++ (spans_moved whole ++ part.right) = ap spans_in (groups-TakesIn old new whole takes) ∙ part.after in
    let now : (other : SpanId) → times other (part.left ++ (spans_moved whole ++ part.right)) ≤ 1 = λ other. subst (λ xs. times other xs ≤ 1) is (once other) in
    ap (λ xs. span_named xs id) is ∙ Alike-front part.left (spans_moved whole) part.right now id ∙ ap (λ xs. span_named (spans_moved whole ++ xs) id) (sym part.whole)

Alike-TakesAll : (wholes : List WholeState) (old new : PoolState) → AreOnce old wholes → TakesAll old wholes new → Alike (spans_in new.groups) (flat_map spans_moved wholes ++ spans_in old.groups)
Alike-TakesAll [] old new once same id = ap (λ (p : PoolState). span_named (spans_in p.groups) id) same
Alike-TakesAll (whole ∷ wholes) old new once (mid, rest, takes) id =
    let others : List SpanState = flat_map spans_moved wholes in
    let both : (other : SpanId) → times other (flat_map spans_moved (whole ∷ wholes)) ≡ times other (spans_moved whole) + times other others = λ other. times-append other (spans_moved whole) others in
    let once_rest : AreOnce old wholes = λ other. omega (arith, once other, both other) in
    let once_now : (other : SpanId) → times other (spans_in new.groups) ≤ 1 = λ other. omega (arith, once other, times-TakesAll (whole ∷ wholes) old new (mid, rest, takes) other) in
    Alike-TakesIn mid new whole once_now takes id
    ∙ Alike-after (spans_moved whole) (spans_in mid.groups) (others ++ spans_in old.groups) (Alike-TakesAll wholes old mid once_rest rest) id
    ∙ ap (λ xs. span_named xs id) (sym (append_assoc (spans_moved whole) others (spans_in old.groups)))

-- lists that have no span in common may change places
Alike-swap : (xs ys : List SpanState) → ((id : SpanId) → times id xs + times id ys ≤ 1) → Alike (xs ++ ys) (ys ++ xs)
Alike-swap xs ys once id = elim (cases_eq (times id ys) 0) [
  | inl none ↦
      let nothing = none_named ys id none in
      named-append xs ys id ∙ ap (first_span (span_named xs id)) nothing ∙ first_span-none _ ∙ sym (named-append ys xs id ∙ ap (λ o. first_span o (span_named xs id)) nothing)
  | inr some ↦
      let nothing = none_named xs id (let most = once id in omega arith) in
      named-append xs ys id ∙ ap (λ o. first_span o (span_named ys id)) nothing ∙ sym (named-append ys xs id ∙ ap (first_span (span_named ys id)) nothing ∙ first_span-none _)
]

-- the spans of the groups on their way are those of the shard
flat_map-whole_of : (groups : List GroupState) → flat_map spans_moved (map whole_of groups) ≡ spans_in groups
flat_map-whole_of [] = refl
flat_map-whole_of (group ∷ groups) = ap (λ xs. spans_of group ++ xs) (flat_map-whole_of groups)

pub together-Receives : (old new : PoolState) (shard : ShardState) (groups spans : ℕ) → IsSound old → IsSound new → IsSoundShard shard → AreApart old shard
    → TakesAll (with_rooms old groups spans) (map whole_of shard.groups) new
    → shown new ≡ together (shown old) (shown_by_shard shard)
together-Receives old new shard groups spans sound sound_new sound_shard once all =
    let same = flat_map-whole_of shard.groups in
    let once_all : AreOnce (with_rooms old groups spans) (map whole_of shard.groups) = λ id. omega (arith, once id, ap (times id) same) in
    let mine : List SpanState = spans_in old.groups in
    let theirs : List SpanState = spans_in shard.groups in
    let alike : Alike (spans_in new.groups) (mine ++ theirs) = λ id.
    Alike-TakesAll (map whole_of shard.groups) (with_rooms old groups spans) new once_all all id
    ∙ ap (λ xs. span_named (xs ++ mine) id) same
    ∙ sym (Alike-swap mine theirs once id) in
    shown_by-logged new.groups sound_new.groups sound_new.once ∙ logged-alike (spans_in new.groups) (mine ++ theirs) alike
    ∙ sym (logged-together mine theirs once)
    ∙ sym (λ i. together (shown_by-logged old.groups sound.groups sound.once i) (shown_by-logged shard.groups sound_shard.groups sound_shard.once i))
