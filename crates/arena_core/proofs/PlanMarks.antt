-- A mark's pairs wait: what it sees are groups of the pool and of the shards.
use Rattle.std.proofs.Common.{◌≡◌, ℕ, suc, ◌<◌, ◌≤◌, Bool, true, false, cond, ◌&&◌, List, [], ◌∷◌, ◌⊎◌, inl, inr, refl, sym, ap, subst, ◌∙◌, arith, Some, slice_get, map, get_or, is_some, eqb, eqb-true, IsSome}
use Rattle.std.specs.List.{AllByRecursion, IsDistinct, list_any}
use Rattle.std.proofs.lemmas.Bool.{and_parts, cases_lt, or_cases}
use Rattle.std.proofs.lemmas.List.{length-map}
use Rattle.std.proofs.lemmas.List.Elements.{All-from_recursion, recursion_from_All}
use Rattle.std.proofs.lemmas.Option.{get_or_from_slice_get, slice_get_within}
use Rattle.std.proofs.lemmas.Map.Keys.{apart_from_distinct}
use Rattle.std.specs.FinSet.{intersection, len, empty_of_len}
use Rattle.bitmap.specs.Slots.{AreDisjoint}
use Rattle.span.specs.declared.id.SpanId.{SpanId}
use Rattle.span.specs.Ids.{same_span}
use Rattle.span.proofs.Ids.{same_id_from_test, test_from_same_id}
use Rattle.shard.specs.Group.{GroupState}
use Rattle.groups.specs.Group.{occupied, paged_in, summary, Group}
use Rattle.shard.specs.State.{ShardState}
use Rattle.pool.specs.State.{PooledState}
use Rattle.mesh_graph.specs.Groups.{Groups, any_compatible}
use Rattle.mesh_graph.specs.Sparsest.{AreSparsest}
use Rattle.mesh_graph.proofs.Sparsest.{All-sparsest}
use Rattle.span.proofs.Widths.{width_of-injective}
use Rattle.span.specs.Classes.{width_of}
use Rattle.span.specs.Entries.{are_compatible}
use Rattle.span.specs.declared.entry.Entry.{Entry}
use Rattle.certificate.specs.Plans.{IsPlanOf, sides_of}
use Rattle.arena_core.specs.Plan.{IsOwned, IsAbandoned, IsUnderWay, IsWaiting}
use Rattle.marks.specs.Seen.{IsSeenInPart, abandoned_entries, owned_entries}
use Rattle.arena_core.specs.State.{CoreState}
use Rattle.arena_core.proofs.Lists.{each-append}
use Rattle.marks.proofs.Lists.{slice_get-map_at}
use Rattle.mesh_graph.specs.declared.build.TheConstants.{MOST_GROUPS}

-- lists

each-to : {X : Type 0} {P Q : X → Type 0} (xs : List X) → ((x : X) → P x → Q x) → AllByRecursion P xs → AllByRecursion Q xs
each-to [] to all = tt
each-to (x ∷ xs) to all = (to x all.0, each-to xs to all.1)

-- what holds of each entry holds of those that a mark sees
each-chosen : (P : Entry → Type 0) (entries chosen : List Entry) → AreSparsest MOST_GROUPS entries chosen → AllByRecursion P entries → AllByRecursion P chosen
each-chosen P entries chosen sparsest all = recursion_from_All P chosen (All-sparsest P MOST_GROUPS entries chosen sparsest (All-from_recursion P entries all))

-- the element by which a test of the list passes
any-which : {X : Type 0} {P : X → Type 0} (test : X → Bool) (xs : List X) → AllByRecursion P xs → list_any test xs ≡ true → (x : X) × (test x ≡ true) × P x
any-which test [] all some = absurd cc
any-which test (x ∷ xs) all some = elim (or_cases (test x) (list_any test xs) some) [
  | inl e ↦ (x, e, all.0)
  | inr rest ↦ any-which test xs all.1 rest
]

-- what the entries tell

-- the entry is that of a group of these, which has a page
abbrev pub TellsGroup : {Closed : Type 0} → List (Group Closed) → Entry → Type 0
TellsGroup {Closed = Closed} groups entry = (index : ℕ) × (group : Group Closed) × (slice_get groups index ≡ Some group) × (summary group ≡ entry) × IsSome group.page

-- the entry is that of a group of a shard
abbrev pub TellsOwned : List ShardState → Entry → Type 0
TellsOwned shards entry = (number : ℕ) × (shard : ShardState) × (slice_get shards number ≡ Some shard) × TellsGroup shard.groups entry

tells_groups : {Closed : Type 0} (groups : List (Group Closed)) → AllByRecursion (TellsGroup groups) (map summary (paged_in groups))
tells_groups [] = tt
tells_groups (group ∷ groups) = by_page (is_some group.page) refl (each-to _ (λ entry tells. (suc tells.0, tells.1, tells.2, tells.3, tells.4)) (tells_groups groups))
  where
    by_page : (b : Bool) → is_some group.page ≡ b → AllByRecursion (TellsGroup (group ∷ groups)) (map summary (paged_in groups))
        → AllByRecursion (TellsGroup (group ∷ groups)) (map summary (cond b (group ∷ paged_in groups) (paged_in groups)))
    by_page true some rest = ((0, group, refl, refl, some), rest)
    by_page false none rest = rest

tells_owned : (shards : List ShardState) → AllByRecursion (TellsOwned shards) (owned_entries shards)
tells_owned [] = tt
tells_owned (shard ∷ shards) =
    each-append (TellsOwned (shard ∷ shards)) (map summary (paged_in shard.groups)) (owned_entries shards)
    (each-to _ (λ entry tells. (0, shard, refl, tells)) (tells_groups shard.groups))
    (each-to _ (λ entry tells. (suc tells.0, tells.1, tells.2, tells.3)) (tells_owned shards))

-- two groups that the test calls compatible are of one class and share no slot
class_from_test : (x y : Entry) → are_compatible x y ≡ true → x.class ≡ y.class
class_from_test x y e = width_of-injective x.class y.class
    (eqb-true (width_of x.class) (width_of y.class)
    (and_parts (eqb (width_of x.class) (width_of y.class)) (eqb (len (intersection x.occupied y.occupied)) 0) e).0)

apart_from_test : (x y : Entry) → are_compatible x y ≡ true → AreDisjoint x.occupied y.occupied
apart_from_test x y e =
    empty_of_len (intersection x.occupied y.occupied)
    (eqb-true (len (intersection x.occupied y.occupied)) 0 (and_parts (eqb (width_of x.class) (width_of y.class)) (eqb (len (intersection x.occupied y.occupied)) 0) e).1)

-- a compatible pair

pub IsWaiting-seen : (core : CoreState) (groups : Groups) → IsSeenInPart core.pool core.shards groups → (pair : SpanId × SpanId) → any_compatible groups pair.0 pair.1 ≡ true → IsWaiting core pair
IsWaiting-seen core groups seen pair compatible =
    let left = any-which (λ x. same_span x.id pair.0 && list_any (λ y. same_span y.id pair.1 && are_compatible x y) groups.owned) groups.abandoned
    (each-chosen (TellsGroup core.pool.groups) (abandoned_entries core.pool) groups.abandoned seen.abandoned (tells_groups core.pool.groups)) compatible in
    let x = left.0 in
    let parts = and_parts (same_span x.id pair.0) (list_any (λ y. same_span y.id pair.1 && are_compatible x y) groups.owned) left.1 in
    let right = any-which (λ y. same_span y.id pair.1 && are_compatible x y) groups.owned
    (each-chosen (TellsOwned core.shards) (owned_entries core.shards) groups.owned seen.owned (tells_owned core.shards)) parts.1 in
    let y = right.0 in
    let both = and_parts (same_span y.id pair.1) (are_compatible x y) right.1 in
    let (i, a, at_a, tells_a, paged_a) = left.2 in
    let (n, shard, at_shard, (j, b, at_b, tells_b, paged_b)) = right.2 in
    record {
      abandoned = a;
      owned = b;
      is_abandoned = record { index = i; head_of = record { here = at_a; head_is = ap (λ (e : Entry). e.id) tells_a ∙ same_id_from_test x.id pair.0 parts.0 } };
      is_owned = record {
        number = n;
        shard = shard;
        index = j;
        shard_is = at_shard;
        head_of = record { here = at_b; head_is = ap (λ (e : Entry). e.id) tells_b ∙ same_id_from_test y.id pair.1 both.0 };
      };
      paged = paged_b;
      class_is = ap (λ (e : Entry). e.class) tells_a ∙ class_from_test x y both.1 ∙ sym (ap (λ (e : Entry). e.class) tells_b);
      apart = subst (λ (e : Entry). AreDisjoint e.occupied (occupied b)) (sym tells_a) (subst (λ (e : Entry). AreDisjoint x.occupied e.occupied) (sym tells_b) (apart_from_test x y both.1));
    }

-- ids that stand once

pub once-IsDistinct : {X : Type 0} (f : X → SpanId) (xs : List X) → IsDistinct same_span (map f xs) → (i j : ℕ) (p q : X) → slice_get xs i ≡ Some p → slice_get xs j ≡ Some q → f p ≡ f q → i ≡ j
once-IsDistinct f xs distinct i j p q at_i at_j same = by_order (cases_lt i j) (cases_lt j i)
  where
    never : (a b : ℕ) (x y : _) → slice_get xs a ≡ Some x → slice_get xs b ≡ Some y → f x ≡ f y → a < b → ⊥
    never a b x y at_a at_b is below =
        let apart : same_span (get_or (map f xs) a (f x)) (get_or (map f xs) b (f x)) ≡ false =
        apart_from_distinct same_span (map f xs) a b (f x) distinct below (let inside = slice_get_within xs b y at_b in omega (arith, length-map xs f)) in
        let one : same_span (f x) (f y) ≡ true = test_from_same_id (f x) (f y) is in
        let e : true ≡ false = sym one ∙ ap (λ id. same_span id (f y)) (sym (get_or_from_slice_get (map f xs) a (f x) (f x) (slice_get-map_at f xs a x at_a)))
        ∙ ap (same_span (get_or (map f xs) a (f x))) (sym (get_or_from_slice_get (map f xs) b (f y) (f x) (slice_get-map_at f xs b y at_b))) ∙ apart in
        cc

    by_order : (i < j) ⊎ (j ≤ i) → (j < i) ⊎ (i ≤ j) → i ≡ j
    by_order (inl below) other = absurd (never i j p q at_i at_j same below)
    by_order (inr past) (inl below) = absurd (never j i q p at_j at_i (sym same) below)
    by_order (inr past) (inr low) = omega arith

-- the plan that a mark opens

compatible-sides_of : (groups : Groups) (a b : SpanId) → (sides_of groups).compatible a b ≡ any_compatible groups a b
unfolding sides_of
compatible-sides_of groups a b = refl

pub IsUnderWay-marked : (old new : CoreState) (groups : Groups) (pairs : List (SpanId × SpanId)) → IsSeenInPart old.pool old.shards groups → IsPlanOf groups pairs
    → ((head : SpanId) (group : PooledState) → IsAbandoned old head group → IsAbandoned new head group)
    → ((head : SpanId) (group : GroupState) → IsOwned old head group
    → (now : GroupState) × IsOwned new head now × (now.head.class ≡ group.head.class) × (occupied now ≡ occupied group) × (now.page ≡ group.page))
    → IsUnderWay new (record { pairs = pairs; done = 0 })
IsUnderWay-marked old new groups pairs seen plan pooled_still owned_still = record {
  within = omega arith;
  abandoned_once = once-IsDistinct (λ p. p.0) pairs plan.left.distinct;
  owned_once = once-IsDistinct (λ p. p.1) pairs plan.right.distinct;
  stands = λ k pair at. let waits = waits_at k pair at in (waits.owned, waits.is_owned);
  carried_out = λ k pair below at. absurd (omega arith);
  waiting = λ k pair past at. waits_at k pair at;
}
  where
    waits_at : (k : ℕ) (pair : SpanId × SpanId) → slice_get pairs k ≡ Some pair → IsWaiting new pair
    waits_at k pair at =
        let inside = slice_get_within pairs k pair at in
        let compatible : any_compatible groups pair.0 pair.1
        ≡ true = subst (λ (p : SpanId × SpanId). any_compatible groups p.0 p.1 ≡ true) (get_or_from_slice_get pairs k pair pair at)
        (sym (compatible-sides_of groups (get_or pairs k pair).0 (get_or pairs k pair).1) ∙ plan.compatible k pair inside) in
        let found = IsWaiting-seen old groups seen pair compatible in
        let (now, now_is, same_class, same, same_page) = owned_still pair.1 found.owned found.is_owned in
        record {
          abandoned = found.abandoned;
          owned = now;
          is_abandoned = pooled_still pair.0 found.abandoned found.is_abandoned;
          is_owned = now_is;
          paged = ap is_some same_page ∙ found.paged;
          class_is = found.class_is ∙ sym same_class;
          apart = subst (AreDisjoint (occupied found.abandoned)) (sym same) found.apart;
        }
