-- Ranks that are noted, and the least of them.
use Rattle.std.proofs.Common.{zero, suc, ◌≡◌, ℕ, ◌+◌, ◌<◌, ◌≤◌, false, List, [], ◌∷◌, ◌++◌, length, map, set, Some, None, take, get_or, slice_get, ap, sym, subst, ◌∙◌, refl, inl, inr, ◌⊎◌, arith, rules, is_some, take_all, IfNone, IfSome, IsSome, Option}
use Rattle.std.specs.BinaryHeap.{IsHeap, IsUpperBound, PopsGreatest}
use Rattle.std.specs.List.{All, Contains}
use Rattle.std.specs.List.Sorted.{IsPermutation}
use Rattle.std.specs.Ordering.{is_lt, nat_cmp}
use Rattle.std.specs.declared.cmp.Reverse.{Reverse}
use Rattle.std.proofs.lemmas.Bool.{false≢true, false_from_ne_true}
use Rattle.std.proofs.lemmas.Bool.Decides.{nat_tests}
use Rattle.std.proofs.lemmas.List.{length-map}
use Rattle.std.proofs.lemmas.List.Sorted.{Contains-permutation, IsPermutation-map}
use Rattle.page.specs.Words.{Words}
use Rattle.span.specs.declared.id.SpanId.{SpanId}
use Rattle.groups.proofs.Lists.{cases-set, same_some}
use Rattle.pool.specs.Calls.{HasNoPage}
use Rattle.pool.specs.Noted.{AreNoted, HasNoPageAt, IsHeadOfFirstPaged, IsLeastOf, IsPagedHead}
use Rattle.pool.specs.Ranked.{HasRankAt, head_rank, in_order}
use Rattle.pool.specs.State.{PooledState}
use Rattle.pool.proofs.Arranged.{AreApart, AreUp, arranged-in}
use Rattle.pool.proofs.RankedGroups.{get-push}
use Rattle.pool.proofs.Walked.{before-more}
use Rattle.std.proofs.option.Match.{None-if_not_some}

-- the number of a rank in the heap
abbrev pub number : Reverse ℕ → ℕ
number one = one.0

not_lower : (x y : ℕ) → is_lt (nat_cmp y x) ≡ false → x ≤ y
not_lower x y is = grind (arith, nat_tests)

-- the top of the heap is the least
pub All-top : (items : List (Reverse ℕ)) (x : Reverse ℕ) → IsUpperBound (λ (a b : Reverse ℕ). nat_cmp b.0 a.0) x items → All (λ other. x.0 ≤ other) (map number items)
All-top [] x bound k d low = absurd (omega arith)
All-top (y ∷ items) x bound zero d low = not_lower x.0 y.0 bound.0
All-top (y ∷ items) x bound (suc k) d low = All-top items x bound.1 k d (omega arith)

pub Contains-top : (items : List (Reverse ℕ)) (x : Reverse ℕ) → 0 < length items → x ≡ get_or items 0 x → Contains (map number items) x.0
Contains-top [] x some is = absurd (omega arith)
Contains-top (y ∷ items) x some is = (0, omega arith, ap number (sym is))

-- two that are least are one
pub same_least : (numbers : List ℕ) (a b : ℕ) → IsLeastOf numbers a → IsLeastOf numbers b → a ≡ b
same_least numbers a b least least' = search rules

pub Contains-cons : (numbers : List ℕ) (x n : ℕ) → Contains (x ∷ numbers) n → (n ≡ x) ⊎ Contains numbers n
Contains-cons numbers x n (zero, low, is) = inl (sym is)
Contains-cons numbers x n (suc k, low, is) = inr (k, omega arith, is)

-- the top of the heap goes, which is the least
pub dropped : (old new : List (Reverse ℕ)) → IsHeap (λ (a b : Reverse ℕ). nat_cmp b.0 a.0) old → (len : ℕ) → length old ≡ len → (r : Option (Reverse ℕ)) → IfSome r (λ x. IsPermutation old (x ∷ new))
    → IfSome r (λ x. PopsGreatest (λ (a b : Reverse ℕ). nat_cmp b.0 a.0) old x new) → IfSome r (λ x. x ≡ get_or old 0 x) → IfNone r (len ≡ 0)
    → (n : ℕ) → IsLeastOf (map number old) n → IsPermutation (map number old) (n ∷ map number new)
dropped old new ordered len len_is None moved pops top none n least = absurd (let low : least.0.0 < length (map number old) = least.0.1 in omega (arith, low, length-map old number, len_is, none))
dropped old new ordered len len_is (Some x) moved pops top none n least =
    let some : 0 < length old = (let low : least.0.0 < length (map number old) = least.0.1 in omega (arith, low, length-map old number)) in
    let same : x.0 ≡ n = same_least (map number old) x.0 n (Contains-top old x some top, All-top old x (pops ordered).1) least in
    subst (λ m. IsPermutation (map number old) (m ∷ map number new)) same (IsPermutation-map number old (x ∷ new) moved)

-- a rank that is put in

pub Contains-more : (numbers more : List ℕ) (x n : ℕ) → IsPermutation (x ∷ numbers) more → Contains numbers n → Contains more n
Contains-more numbers more x n moved (k, low, is) = Contains-permutation (x ∷ numbers) more n moved (suc k, omega arith, is)

pub Contains-put : (numbers more : List ℕ) (x : ℕ) → IsPermutation (x ∷ numbers) more → Contains more x
Contains-put numbers more x moved = Contains-permutation (x ∷ numbers) more x moved (0, omega arith, refl)

-- what is noted of the groups after a change of them

pub AreNoted-push : (groups : List PooledState) (group : PooledState) (ranks more : List ℕ) → ((n : ℕ) → Contains ranks n → Contains more n)
    → (IsSome group.page → Contains more (head_rank group)) → AreNoted groups ranks → AreNoted (groups ++ group ∷ []) more
AreNoted-push groups group ranks more grown its noted index other there paged = search (rules, get-push)

pub AreNoted-set : (groups : List PooledState) (place : ℕ) (group now : PooledState) → slice_get groups place ≡ Some group → now.head.id ≡ group.head.id
    → (IsSome now.page → IsSome group.page) → (ranks : List ℕ) → AreNoted groups ranks → AreNoted (set groups place now) ranks
AreNoted-set groups place group now here same pages ranks noted index other there paged = search (rules, cases-set)

-- of groups that all stood before
pub AreNoted-stood : (groups left : List PooledState) → ((now : ℕ) (group : PooledState) → slice_get left now ≡ Some group → (was : ℕ) × (slice_get groups was ≡ Some group))
    → (ranks : List ℕ) → AreNoted groups ranks → AreNoted left ranks
AreNoted-stood groups left stood ranks noted index group there paged = let was = stood index group there in noted was.0 group was.1 paged

pub AreNoted-in_order : (row : List PooledState) (ranks : List ℕ) → AreNoted row ranks → AreNoted (in_order row) ranks
AreNoted-in_order row ranks = AreNoted-stood row (in_order row) (λ index group there. arranged-in head_rank row group (index, there)) ranks

pub AreNoted-more : (groups : List PooledState) (at : ℕ) (group : PooledState) → slice_get groups at ≡ Some group → (ranks more : List ℕ)
    → ((n : ℕ) → Contains ranks n → Contains more n) → (IsSome group.page → Contains more (head_rank group))
    → AreNoted (take at groups) ranks → AreNoted (take (at + 1) groups) more
AreNoted-more groups at group here ranks more grown its noted =
    subst (λ gs. AreNoted gs more) (sym (before-more groups at group here)) (AreNoted-push (take at groups) group ranks more grown its noted)

-- a page, or none
page_none : (page : Option Words) → (IsSome page → ⊥) → page ≡ None
page_none page none = None-if_not_some page (false_from_ne_true (is_some page) none)

module _ (groups : List PooledState) (ranks : List ℕ) (noted : AreNoted groups ranks) where
  -- a rank of no group with a page is of no account
  pub AreNoted-dropped : (n : ℕ) → HasNoPageAt groups n → (left : List ℕ) → IsPermutation ranks (n ∷ left) → AreNoted groups left
  AreNoted-dropped n none left moved index group there paged = elim
      (Contains-cons left n (head_rank group) (Contains-permutation ranks (n ∷ left) (head_rank group) moved (noted index group there paged))) [
        | inl same ↦ absurd (false≢true (sym (ap is_some (none group (index, there, same))) ∙ paged))
        | inr rest ↦ rest
      ]

  pub HasNoPage-none : ranks ≡ [] → HasNoPage groups
  HasNoPage-none none index group there = page_none group.page
      (λ paged. let among = subst (λ ns. Contains ns (head_rank group)) none (noted index group there paged) in let low = among.1 in omega arith)

  -- the least rank of a group with a page is that of the first
  pub IsHeadOfFirstPaged-least : AreUp head_rank groups → (n : ℕ) → IsLeastOf ranks n → (head : SpanId) → IsPagedHead groups n head → IsHeadOfFirstPaged groups head
  IsHeadOfFirstPaged-least up n least head its = (
    its.1.0,
    its.0,
    record {
      here = its.1.1;
      paged = its.2;
      lower = λ other before low there. page_none before.page (λ paged.
          let among = noted other before there paged in
          let most : n ≤ get_or ranks among.0 (head_rank before) = least.1 among.0 (head_rank before) among.1 in
          let less = up other its.1.0 before its.0 low there its.1.1 in
          let rank_is = its.1.2 in
          omega (arith, most, less, rank_is, among.2));
    },
    its.3,
  )

-- where the group of a rank has no page, no group of the rank has one
pub HasNoPageAt-unpaged : (groups : List PooledState) → AreApart head_rank groups → (n : ℕ) (group : PooledState) → HasRankAt groups n group → is_some group.page ≡ false → HasNoPageAt groups n
HasNoPageAt-unpaged groups apart n group its off other its_too = search (rules, same_some, page_none, false≢true)

-- all of the first
pub AreNoted-all : (groups : List PooledState) (at : ℕ) → length groups ≤ at → (ranks : List ℕ) → AreNoted (take at groups) ranks → AreNoted groups ranks
AreNoted-all groups at most ranks noted = subst (λ gs. AreNoted gs ranks) (take_all at groups most) noted
