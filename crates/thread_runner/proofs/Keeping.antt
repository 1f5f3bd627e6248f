-- What is kept of the keys that puts gave.
use Rattle.thread_runner.proofs.Names.{zero, suc, ◌≡◌, ◌∙◌, ℕ, ◌+◌, ◌<◌, ◌≤◌, ◌&&◌, true, false, List, [], ◌∷◌, ◌++◌, Option, Some, None, ap, arith, map, nat_le, nat_lt, refl, set, slice_get, subst, sym, All, AllByRecursion, IsPermutation, nat_tests, IsPermutation-sym, same_key-parts, Key, GivenKeys, AreApart, AreFresh, AreKept, IsGiven, given_by, key_from, Given, map-id}
use Rattle.std.proofs.lemmas.Map.Views.{All-map-IsPermutation}
use Rattle.span.proofs.Ids.{same_id}
use Rattle.thread_runner.proofs.Each.{All-each, each-All}

-- ---- one put more of those that go on

-- where the last of these has one put more, it was given too, and so was what that put gave
pub AreFresh-more : (fresh : List Given) (at : ℕ) (old new : Given) (key : Option Key) (place : ℕ) (given : GivenKeys) → slice_get fresh at ≡ Some old
    → new.place ≡ old.place → new.times ≡ old.times + 1 → new.key ≡ old.key
    → place ≡ old.place + old.times → key ≡ key_from old.key old.times → AreFresh (set fresh at new) given → AreFresh fresh given × (given place ≡ key)
AreFresh-more [] at old new key place given here same_place more same_key is_next is_key are = absurd cc
AreFresh-more (one ∷ fresh) zero old new key place given here same_place more same_key is_next is_key are =
    let same : one ≡ old = cc in
    let all : (by : ℕ) → by < old.times + 1 → given (old.place + by) ≡ key_from old.key by = λ by below.
    ap (λ n. given (n + by)) (sym same_place) ∙ (are.0 by (omega (arith, below, more)) ∙ ap (λ k. key_from k by) same_key) in (
      ((λ by below. subst (λ (g : Given). given (g.place + by) ≡ key_from g.key by) (sym same) (all by (omega (arith, below, ap (λ (g : Given). g.times) same)))), are.1),
      ap given is_next ∙ (all old.times (omega arith) ∙ sym is_key),
    )
AreFresh-more (one ∷ fresh) (suc at) old new key place given here same_place more same_key is_next is_key are =
    let later = AreFresh-more fresh at old new key place given here same_place more same_key is_next is_key are.1 in
    ((are.0, later.0), later.1)

-- what one put gave
pub IsGiven-one : (place : ℕ) (key : Option Key) (given : GivenKeys) → IsGiven given (record { place = place; times = 1; key = key }) → given place ≡ key
IsGiven-one place key given is =
    let here : given (place + 0) ≡ key_from key 0 = is 0 (omega arith) in
    ap given (omega arith) ∙ (here ∙ first key) where
      first : (k : Option Key) → key_from k 0 ≡ k
      first None = refl
      first (Some k) = ap (λ s. Some (record k { slot = s })) (omega arith)

-- ---- by place

pub AreApart-push : (from : ℕ) (kept : List Given) (end : ℕ) (one : Given) → AreApart from kept end → end ≤ one.place → AreApart from (kept ++ one ∷ []) (one.place + one.times)
AreApart-push from [] end one apart below = (omega (arith, apart, below), omega arith)
AreApart-push from (first ∷ kept) end one apart below = (apart.0, AreApart-push (first.place + first.times) kept end one apart.1 below)

-- what stands below these is not in them
outside : (one : Given) (place : ℕ) → one.place + one.times ≤ place → (nat_le one.place place && nat_lt place (one.place + one.times)) ≡ false
outside one place past = grind (arith, nat_tests)

inside : (one : Given) (by : ℕ) → by < one.times → (nat_le one.place (one.place + by) && nat_lt (one.place + by) (one.place + one.times)) ≡ true
inside one by below = grind (arith, nat_tests)

-- what is given by some, of puts that stand below another, is given by all
given_by-below : (one : Given) (base more : List Given) (from end : ℕ) → one.place + one.times ≤ from → AreApart from more end → AreKept more (given_by base) → AreKept more (given_by (one ∷ base))
given_by-below one base [] from end past apart are = tt
given_by-below one base (first ∷ more) from end past apart are = (
  (λ by below. let other : (nat_le one.place (first.place + by) && nat_lt (first.place + by) (one.place + one.times)) ≡ false = outside one (first.place + by) (omega (arith, past, apart.0)) in rw other (are.0 by below)),
  given_by-below one base more (first.place + first.times) end (omega (arith, past, apart.0)) apart.1 are.1,
)

-- what is kept is what was given, where nothing else is
pub AreKept-given_by : (from : ℕ) (kept : List Given) (end : ℕ) → AreApart from kept end → AreKept kept (given_by kept)
AreKept-given_by from [] end apart = tt
AreKept-given_by from (one ∷ kept) end apart = (
  (λ by below. let here : (nat_le one.place (one.place + by) && nat_lt (one.place + by) (one.place + one.times)) ≡ true = inside one by below in rw here (ap (key_from one.key) (omega arith))),
  given_by-below one kept kept (one.place + one.times) end (omega arith) apart.1 (AreKept-given_by (one.place + one.times) kept end apart.1),
)

-- ---- in another order

pub each-sorted : {X : Type 0} (P : X → Type 0) (xs ys : List X) → IsPermutation xs ys → AllByRecursion P ys → AllByRecursion P xs
each-sorted P xs ys moved each =
    let back : All P (map (λ x. x) ys) → All P (map (λ x. x) xs) = All-map-IsPermutation (λ x. x) P ys xs (IsPermutation-sym xs ys moved) in
    each-All P xs (subst (All P) (map-id xs) (back (subst (All P) (sym (map-id ys)) (All-each P ys each))))

-- ---- the same key

pub same_keys : (a b : Key) → a.span.shard ≡ b.span.shard → a.span.serial ≡ b.span.serial → a.slot ≡ b.slot → a.generation ≡ b.generation → a ≡ b
same_keys a b shards serials slots generations = same_key-parts a b (same_id a.span b.span shards serials) slots generations
