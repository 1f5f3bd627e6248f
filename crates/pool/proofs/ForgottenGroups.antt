-- A row of groups that forgets what can never be live again.
use Rattle.std.proofs.Common.{zero, suc, ◌≡◌, ℕ, ◌+◌, ◌<◌, ◌≤◌, Bool, true, false, cond, List, [], ◌∷◌, length, insert, map, filter, is_some, Option, Some, None, slice_get, ap, sym, subst, ◌∙◌, refl, arith, rules, IsSome, MatchOption, nat_lt, option_map}
use Rattle.std.specs.FinSet.{empty}
use Rattle.std.specs.List.{Contains}
use Rattle.std.proofs.lemmas.Bool.{cases_lt, false≢true}
use Rattle.page.specs.Words.{Words}
use Rattle.span.specs.Ids.{rank}
use Rattle.span.specs.State.{SpanState}
use Rattle.groups.specs.Dead.{live_among, without_dead}
use Rattle.groups.specs.Directory.{Entries, KnowsGuests}
use Rattle.groups.specs.Group.{HaveGuestsOnce, paged_in, spans_of}
use Rattle.groups.specs.Sound.{AreSoundGroups, AreStored}
use Rattle.groups.specs.Spans.{union_of}
use Rattle.groups.proofs.DeadGuests.{after-filter, before-filter, live_among-none, live_slots-none}
use Rattle.groups.proofs.GuestDirectory.{IsDirectory-left}
use Rattle.groups.proofs.Lists.{before-map, same_some}
use Rattle.shard.proofs.ChangedBelow.{changed_below}
use Rattle.pool.specs.Forgets.{left_in}
use Rattle.pool.specs.Noted.{AreNoted}
use Rattle.pool.specs.Ranked.{AreFound, HaveOwnHeads, KeepsPaged, LetsGo, arranged, head_rank, in_order, lower}
use Rattle.pool.specs.State.{PooledState}
use Rattle.pool.proofs.Arranged.{IsIn, arranged-in, in-arranged, same_up}
use Rattle.pool.proofs.Heads.{Ascend-filter}
use Rattle.pool.proofs.RankedGroups.{AreApart-found, AreUp-found}
use Rattle.pool.proofs.Walked.{paged}
use Rattle.std.proofs.lemmas.Option.{slice_get-map}

-- elements that change and keep their numbers

module _ {X : Type 0} (key : X → ℕ) (f : X → X) (same : (x : X) → key (f x) ≡ key x) where
  lower-map : (number : ℕ) (xs : List X) → lower key number (map f xs) ≡ lower key number xs
  lower-map number [] = refl
  lower-map number (x ∷ xs) =
      ap (λ k. cond (nat_lt k number) (suc (lower key number (map f xs))) 0) (same x)
      ∙ ap (λ n. cond (nat_lt (key x) number) (suc n) 0) (lower-map number xs)

  map-insert : (xs : List X) (at : ℕ) (x : X) → map f (insert xs at x) ≡ insert (map f xs) at (f x)
  map-insert xs zero x = refl
  map-insert [] (suc at) x = refl
  map-insert (y ∷ xs) (suc at) x = ap (λ ys. f y ∷ ys) (map-insert xs at x)

  arranged-map : (xs : List X) → arranged key (map f xs) ≡ map f (arranged key xs)
  arranged-map [] = refl
  arranged-map (x ∷ xs) =
      ap (λ ys. insert ys (lower key (key (f x)) ys) (f x)) (arranged-map xs)
      ∙ ap (λ k. insert (map f (arranged key xs)) (lower key k (map f (arranged key xs))) (f x)) (same x)
      ∙ ap (λ n. insert (map f (arranged key xs)) n (f x)) (lower-map (key x) (arranged key xs))
      ∙ sym (map-insert (arranged key xs) (lower key (key x) (arranged key xs)) x)

pub get-map : {X Y : Type 0} (f : X → Y) (xs : List X) (at : ℕ) (x : X) → slice_get xs at ≡ Some x → slice_get (map f xs) at ≡ Some (f x)
get-map f xs at x there = slice_get-map f xs at ∙ ap (option_map f) there

-- groups that forget guests, in a row

pub in_order-without_dead : (groups : List PooledState) → in_order (map without_dead groups) ≡ map without_dead (in_order groups)
in_order-without_dead groups = arranged-map head_rank without_dead (λ group. refl) groups

pub AreFound-without_dead : (groups : List PooledState) (place_of : ℕ → Option ℕ) → AreFound groups place_of → AreFound (map without_dead groups) place_of
AreFound-without_dead groups place_of found = record {
  known = λ place group there. let was = before-map without_dead groups place group there in ap (λ (g : PooledState). place_of (head_rank g)) (sym was.2) ∙ found.known place was.0 was.1;
  only = λ number place is. let old = found.only number place is in (without_dead old.0, get-map without_dead groups place old.0 old.1, old.2);
}

pub AreNoted-without_dead : (groups : List PooledState) (ranks : List ℕ) → AreNoted groups ranks → AreNoted (map without_dead groups) ranks
AreNoted-without_dead groups ranks noted index group there paged =
    let was = before-map without_dead groups index group there in
    subst (λ (g : PooledState). Contains ranks (head_rank g)) was.2 (noted index was.0 was.1 (subst (λ (g : PooledState). IsSome g.page) (sym was.2) paged))

-- the heads of a row of which some groups have forgotten guests
was_below : (at : ℕ) (groups : List PooledState) (index : ℕ) (group : PooledState) → slice_get (changed_below without_dead at groups) index ≡ Some group
    → (was : PooledState) × (slice_get groups index ≡ Some was) × (group.head.id ≡ was.head.id)
was_below zero groups index group there = (group, there, refl)
was_below (suc at) [] index group there = absurd cc
was_below (suc at) (first ∷ groups) zero group there = (first, refl, ap (λ (g : PooledState). g.head.id) (sym (same_some there)))
was_below (suc at) (first ∷ groups) (suc index) group there = was_below at groups index group there

pub HaveOwnHeads-changed_below : (at : ℕ) (groups : List PooledState) → HaveOwnHeads groups → HaveOwnHeads (changed_below without_dead at groups)
HaveOwnHeads-changed_below at groups heads i j a b at_i at_j same = search (rules, was_below)

pub HaveOwnHeads-found : (groups : List PooledState) (place_of : ℕ → Option ℕ) → AreFound groups place_of → HaveOwnHeads groups
HaveOwnHeads-found groups place_of found i j a b at_i at_j same = AreApart-found groups place_of found i j a b at_i at_j (ap rank same)

-- a row and the list in order have the same groups

pub KnowsGuests-row : (row : List PooledState) (entries : Entries) → KnowsGuests (in_order row) entries → KnowsGuests row entries
KnowsGuests-row row entries known =
    IsDirectory-left (λ (g : PooledState). g.head.id) (λ (g : PooledState). g.guests) (in_order row) row entries known
    (λ index group here. in-arranged head_rank row group (index, here))
    (λ index place group guest here there. arranged-in head_rank row group (index, here))

pub KnowsGuests-in_order : (row : List PooledState) (entries : Entries) → KnowsGuests row entries → KnowsGuests (in_order row) entries
KnowsGuests-in_order row entries known =
    IsDirectory-left (λ (g : PooledState). g.head.id) (λ (g : PooledState). g.guests) row (in_order row) entries known
    (λ index group here. arranged-in head_rank row group (index, here))
    (λ index place group guest here there. in-arranged head_rank row group (index, here))

pub HaveGuestsOnce-row : (row : List PooledState) → HaveGuestsOnce (in_order row) → HaveGuestsOnce row
HaveGuestsOnce-row row once index group here = let found = in-arranged head_rank row group (index, here) in once found.0 group found.1

-- groups with no page that go, one after another

pub record IsDropping (first now : List PooledState) (place : ℕ) : Type 0 where
  -- the groups before the place have a page
  pub low : (at : ℕ) (group : PooledState) → at < place → slice_get now at ≡ Some group → IsSome group.page
  pub stood : (index : ℕ) (group : PooledState) → slice_get now index ≡ Some group → IsIn first group
  pub stay : (index : ℕ) (group : PooledState) → slice_get first index ≡ Some group → IsSome group.page → IsIn now group

pub IsDropping-none : (groups : List PooledState) → IsDropping groups groups 0
IsDropping-none groups = search (rules, paged)

module _ (first now : List PooledState) (place : ℕ) (is : IsDropping first now place) (group : PooledState) (here : slice_get now place ≡ Some group) where
  pub IsDropping-paged : is_some group.page ≡ true → IsDropping first now (place + 1)
  IsDropping-paged paged = search (rules, cases_lt, same_some)

  pub IsDropping-gone : is_some group.page ≡ false → (left : List PooledState) → LetsGo now place left → ((at : ℕ) → at < place → slice_get left at ≡ slice_get now at) → IsDropping first left place
  IsDropping-gone unpaged left goes lower = search (rules, paged, same_some, false≢true)

pub KeepsPaged-all : (first now : List PooledState) (place : ℕ) → IsDropping first now place → length now ≤ place → KeepsPaged first now
KeepsPaged-all first now place is most = record {
  paged = λ at group there. is.low at group (let low = within now at group there in omega arith) there;
  stood = is.stood;
  stay = is.stay;
}
  where
    within : (xs : List PooledState) (at : ℕ) (x : PooledState) → slice_get xs at ≡ Some x → at < length xs
    within [] at x there = absurd cc
    within (y ∷ xs) zero x there = omega arith
    within (y ∷ xs) (suc at) x there = let low = within xs at x there in omega arith

-- what is left, as the list in order has it
pub in_order-paged : (groups : List PooledState) (place_of : ℕ → Option ℕ) → AreFound groups place_of → (left : List PooledState) (now : ℕ → Option ℕ) → AreFound left now
    → KeepsPaged groups left → in_order left ≡ paged_in (in_order groups)
in_order-paged groups place_of found left now found_now keeps = same_up head_rank (in_order left) (filter paged (in_order groups))
    (AreUp-found left now found_now) (Ascend-filter paged (in_order groups) (AreUp-found groups place_of found))
    (λ group there.
    let stands = arranged-in head_rank left group there in
    let was = keeps.stood stands.0 group stands.1 in
    let stood = in-arranged head_rank groups group was in
    after-filter paged (in_order groups) stood.0 group stood.1 (keeps.paged stands.0 group stands.1))
    (λ group there.
    let was = before-filter paged (in_order groups) there.0 group there.1 in
    let stood = arranged-in head_rank groups group (was.0, was.1) in
    in-arranged head_rank left group (keeps.stay stood.0 group stood.1 was.2))

-- groups that forget guests, and of which those with no page go

pub paged_in-without_dead : (groups : List PooledState) → paged_in (map without_dead groups) ≡ left_in groups
paged_in-without_dead [] = refl
paged_in-without_dead (group ∷ groups) = by_test (is_some group.page) (paged_in-without_dead groups)
  where
    by_test : (b : Bool) → paged_in (map without_dead groups) ≡ left_in groups
        → cond b (without_dead group ∷ paged_in (map without_dead groups)) (paged_in (map without_dead groups))
        ≡ map without_dead (cond b (group ∷ paged_in groups) (paged_in groups))
    by_test true rest = ap (λ gs. without_dead group ∷ gs) rest
    by_test false rest = rest

-- what is left of a row, as the list in order has it
pub in_order-left_in : (row : List PooledState) (place_of : ℕ → Option ℕ) → AreFound row place_of → (left : List PooledState) (now : ℕ → Option ℕ) → AreFound left now
    → KeepsPaged (map without_dead row) left → in_order left ≡ left_in (in_order row)
in_order-left_in row place_of found left now found_now keeps =
    in_order-paged (map without_dead row) place_of (AreFound-without_dead row place_of found) left now found_now keeps
    ∙ ap paged_in (in_order-without_dead row) ∙ paged_in-without_dead (in_order row)

-- a group that is left stood there with its page, and with more guests
pub before-left : (groups : List PooledState) (index : ℕ) (group : PooledState) → slice_get (left_in groups) index ≡ Some group
    → (was : PooledState) × (at : ℕ) × (slice_get groups at ≡ Some was) × (is_some was.page ≡ true) × (without_dead was ≡ group)
before-left groups index group there =
    let before = before-map without_dead (filter paged groups) index group there in
    let was = before-filter paged groups index before.0 before.1 in
    (before.0, was.0, was.1, was.2, before.2)

-- a sound group with no page keeps no guest
no_guest : (groups : List PooledState) → AreSoundGroups groups → (index : ℕ) (group : PooledState) → slice_get groups index ≡ Some group → is_some group.page ≡ false → live_among group.guests ≡ []
no_guest groups sound index group here unpaged = by_page group.page unpaged (sound index group here).page
  where
    by_page : (page : Option Words) → is_some page ≡ false → MatchOption page (union_of (spans_of group) ≡ empty) (AreStored (spans_of group)) → live_among group.guests ≡ []
    by_page None e none = live_among-none group.guests (λ place span there. live_slots-none (spans_of group) none (suc place) span there)
    by_page (Some words) e stored = absurd cc

pub KnowsGuests-left : (groups : List PooledState) (entries : Entries) → AreSoundGroups groups → KnowsGuests (map without_dead groups) entries → KnowsGuests (left_in groups) entries
KnowsGuests-left groups entries sound known =
    subst (λ gs. KnowsGuests gs entries) (paged_in-without_dead groups)
    (IsDirectory-left (λ (g : PooledState). g.head.id) (λ (g : PooledState). g.guests) (map without_dead groups) (filter paged (map without_dead groups)) entries known
    (λ index group here. let was = before-filter paged (map without_dead groups) index group here in (was.0, was.1))
    (λ index place group guest here there. by_test index place group guest here there (is_some group.page) refl))
  where
    by_test : (index place : ℕ) (group : PooledState) (guest : SpanState) → slice_get (map without_dead groups) index ≡ Some group
        → slice_get group.guests place ≡ Some guest → (b : Bool) → is_some group.page ≡ b
        → (now : ℕ) × (slice_get (filter paged (map without_dead groups)) now ≡ Some group)
    by_test index place group guest here there true has = after-filter paged (map without_dead groups) index group here has
    by_test index place group guest here there false none =
        let was = before-map without_dead groups index group here in
        let gone : live_among was.0.guests ≡ [] = no_guest groups sound index was.0 was.1 (ap (λ (g : PooledState). is_some g.page) was.2 ∙ none) in
        let none_there : None ≡ Some guest = ap (λ gs. slice_get gs place) (sym gone) ∙ ap (λ (g : PooledState). slice_get g.guests place) was.2 ∙ there in
        absurd cc
