-- The mates that a search leaves, and the places that it has passed, name a best plan and its short set
use Rattle.std.proofs.Common.{ℕ, ◌+◌, ◌<◌, ◌≤◌, ◌≡◌, ◌≢◌, Bool, true, false, List, [], ◌∷◌, length, map, Option, Some, None, refl, sym, ◌∙◌, ap, subst, ◌⊎◌, inl, inr, arith, get_or, rules}
use Rattle.std.specs.List.{All, IsDistinct, list_any}
use Rattle.std.proofs.lemmas.Bool.{cases_Bool, both_ways, or_cases, or_left, or_right}
use Rattle.std.proofs.lemmas.List.{get_or_default}
use Rattle.std.proofs.lemmas.List.Elements.{recursion_from_All, All-from_recursion}
use Rattle.certificate.specs.Sides.{Sides, among, partners, IsPlan, IsChoice, IsBest, IsCertificate, IsClosed, IsShort}
use Rattle.augment.specs.Mates.{mate}
use Rattle.augment.specs.Walks.{is_passed}
use Rattle.augment.specs.Listed.{pairs_of, is_short, short_of}
use Rattle.certificate.proofs.Members.{Tells, all_among, length-le_from_distinct}
use Rattle.augment.proofs.Pairing.{mate_within}
use Rattle.certificate.proofs.Duality.{at_most, best_from_certificate}
use Rattle.augment.proofs.Listing.{place_of, among_at, apart_at, each_pair, pair_at, place_of_left, left_at, each_short, place_of_short, short_at}
use Rattle.augment.proofs.Counting.{each_left, each_second, left_distinct, short_distinct, right_distinct, filter_distinct, each_in_filter, passed_of, passed_at, counted}

-- what the mates and the passed places of the last search keep, by places
pub record IsOutcome {K : Type 0} (same : K → K → Bool) (g : Sides K) (onto : List (Option ℕ)) (reached : List Bool) : Type 0 where
  pub left_once : IsDistinct same g.left
  pub right_once : IsDistinct same g.right
  pub long : length onto ≡ length g.left
  pub joins : (i j : ℕ) (d : K) → mate onto i ≡ Some j → g.compatible (get_or g.left i d) (get_or g.right j d) ≡ true
  pub right_in : (i j : ℕ) → mate onto i ≡ Some j → j < length g.right
  pub once : (i a j : ℕ) → mate onto i ≡ Some j → mate onto a ≡ Some j → i ≡ a
  pub closed : (i j : ℕ) (d : K) → i < length g.left → is_short reached (mate onto i) ≡ true → j < length g.right
      → g.compatible (get_or g.left i d) (get_or g.right j d) ≡ true → is_passed reached j ≡ true
  pub are_planned : (j : ℕ) → is_passed reached j ≡ true → (i : ℕ) × (mate onto i ≡ Some j)
  pub least : (test : ℕ → Bool) → ((i : ℕ) → i < length g.left → mate onto i ≡ None → test i ≡ true)
      → ((i j a : ℕ) → i < length g.left → test i ≡ true → ((d : K) → g.compatible (get_or g.left i d) (get_or g.right j d) ≡ true) → mate onto a ≡ Some j → test a ≡ true)
      → (i : ℕ) → i < length g.left → is_short reached (mate onto i) ≡ true → test i ≡ true

pub mate_cases : (m : Option ℕ) → (m ≡ None) ⊎ ((j : ℕ) × (m ≡ Some j))
mate_cases None = inl refl
mate_cases (Some j) = inr (j, refl)

-- a list with a member that passes has such a member
any_member : {K : Type 0} (same : K → K → Bool) → Tells same → (test : K → Bool) (xs : List K) → list_any test xs ≡ true → (x : K) × (among same x xs ≡ true) × (test x ≡ true)
any_member same t test [] h = absurd (both_ways false refl h)
any_member same t test (x ∷ xs) h = elim (or_cases (test x) (list_any test xs) h) [
  | inl e ↦ (x, or_left (same x x) _ (t.itself x), e)
  | inr r ↦ let p : (x : _) × (among same x xs ≡ true) × (test x ≡ true) = any_member same t test xs r in (p.0, or_right (same p.0 x) _ p.1, p.2)
]

pub plan_from_outcome : {K : Type 0} (same : K → K → Bool) → Tells same → (g : Sides K) (onto : List (Option ℕ)) (reached : List Bool)
    → IsOutcome same g onto reached → IsPlan same g (pairs_of g.right g.left onto)
plan_from_outcome same t g onto reached o = record {
  left = record {
    within = All-from_recursion (λ x. among same x g.left ≡ true) (map (λ p. p.0) (pairs_of g.right g.left onto))
        (each_left (λ x. among same x g.left ≡ true) g.right g.left onto (all_among same t g.left));
    distinct = left_distinct same g.right g.left onto o.left_once;
  };
  right = record {
    within = All-from_recursion (λ x. among same x g.right ≡ true) (map (λ p. p.1) (pairs_of g.right g.left onto))
        (each_second (λ x. among same x g.right ≡ true) g.right g.left onto (λ i j d m. among_at same t g.right j d (o.right_in i j m)));
    distinct = right_distinct same t g.right g.left onto o.right_once o.right_in o.once;
  };
  compatible = All-from_recursion (λ p. g.compatible p.0 p.1 ≡ true) (pairs_of g.right g.left onto)
      (each_pair (λ p. g.compatible p.0 p.1 ≡ true) g.right g.left onto (λ i j d l m. o.joins i j d m) o.right_in);
}

short_choice : {K : Type 0} (same : K → K → Bool) → Tells same → (g : Sides K) (onto : List (Option ℕ)) (reached : List Bool) → IsOutcome same g onto reached
    → IsChoice same g.left (short_of reached g.left onto)
short_choice same t g onto reached o = search (rules, All-from_recursion, each_short, among_at, short_distinct)

-- each partner of the short set is a mate that was passed
partner_passed : {K : Type 0} (same : K → K → Bool) → Tells same → (g : Sides K) (onto : List (Option ℕ)) (reached : List Bool) → IsOutcome same g onto reached
    → (b : K) → among same b g.right ≡ true → list_any (λ a. g.compatible a b) (short_of reached g.left onto) ≡ true
    → among same b (passed_of reached g.right g.left onto) ≡ true
partner_passed same t g onto reached o b h any =
    let member : (a : _) × (among same a (short_of reached g.left onto) ≡ true) × (g.compatible a b ≡ true) = any_member same t (λ a. g.compatible a b) (short_of reached g.left onto) any in
    let at : (i : ℕ) × (i < length g.left) × (get_or g.left i member.0 ≡ member.0) × (is_short reached (mate onto i) ≡ true) = place_of_short same t member.0 reached g.left onto member.1 in
    let there : (j : ℕ) × (j < length g.right) × (get_or g.right j b ≡ b) = place_of same t b g.right h in
    let compatible : g.compatible (get_or g.left at.0 b) (get_or g.right there.0 b)
    ≡ true = ap (λ x. g.compatible x (get_or g.right there.0 b)) (get_or_default g.left at.0 b member.0 at.1 ∙ at.2)
    ∙ (ap (g.compatible member.0) there.2 ∙ member.2) in
    let passed : is_passed reached there.0 ≡ true = o.closed at.0 there.0 b at.1 at.3 there.1 compatible in
    let mates : (i : ℕ) × (mate onto i ≡ Some there.0) = o.are_planned there.0 passed in
    subst (λ x. among same x (passed_of reached g.right g.left onto) ≡ true) there.2 (passed_at same t reached g.right g.left onto mates.0 there.0 b o.long mates.1 there.1 passed)

pub certificate_from_outcome : {K : Type 0} (same : K → K → Bool) → Tells same → (g : Sides K) (onto : List (Option ℕ)) (reached : List Bool)
    → IsOutcome same g onto reached → IsCertificate same g (pairs_of g.right g.left onto) (short_of reached g.left onto)
certificate_from_outcome same t g onto reached o =
    let plan : IsPlan same g (pairs_of g.right g.left onto) = plan_from_outcome same t g onto reached o in
    let chosen : IsChoice same g.left (short_of reached g.left onto) = short_choice same t g onto reached o in
    let most : length (pairs_of g.right g.left onto) + length (short_of reached g.left onto) ≤ length g.left
    + length (partners g (short_of reached g.left onto)) = at_most same t g (short_of reached g.left onto) (pairs_of g.right g.left onto) chosen plan in
    let count : length (pairs_of g.right g.left onto) + length (short_of reached g.left onto) ≡ length g.left
    + length (passed_of reached g.right g.left onto) = counted reached g.right g.left onto o.long in
    let few : length (partners g (short_of reached g.left onto)) ≤ length (passed_of reached g.right g.left onto) =
    length-le_from_distinct same t (partners g (short_of reached g.left onto)) (passed_of reached g.right g.left onto)
    (filter_distinct same (λ b. list_any (λ a. g.compatible a b) (short_of reached g.left onto)) g.right o.right_once)
    (each_in_filter same t (λ b. among same b (passed_of reached g.right g.left onto) ≡ true)
    (λ b. list_any (λ a. g.compatible a b) (short_of reached g.left onto)) g.right (partner_passed same t g onto reached o)) in
    record {
      plan = plan;
      chosen = chosen;
      equation = omega arith;
    }

short_closed : {K : Type 0} (same : K → K → Bool) → Tells same → (g : Sides K) (onto : List (Option ℕ)) (reached : List Bool) → IsOutcome same g onto reached
    → IsClosed same g (pairs_of g.right g.left onto) (λ a. among same a (short_of reached g.left onto))
short_closed same t g onto reached o = record {
  left_out = λ a h n.
      let at : (i : ℕ) × (i < length g.left) × (get_or g.left i a ≡ a) = place_of same t a g.left h in
      elim (mate_cases (mate onto at.0)) [
        | inl e ↦ subst (λ x. among same x (short_of reached g.left onto) ≡ true) at.2 (short_at same t reached g.left onto at.0 a o.long at.1 (ap (is_short reached) e))
        | inr e ↦ absurd (both_ways (among same a (map (λ p. p.0) (pairs_of g.right g.left onto))) n
            (subst (λ x. among same x (map (λ p. p.0) (pairs_of g.right g.left onto)) ≡ true) at.2 (left_at same t g.right g.left onto at.0 e.0 a at.1 e.1)))
      ];
  planned = λ a h s.
      let at : (i : ℕ) × (i < length g.left) × (get_or g.left i a ≡ a) × (is_short reached (mate onto i) ≡ true) = place_of_short same t a reached g.left onto s in
      All-from_recursion (λ p. g.compatible a p.1 ≡ true → among same p.0 (short_of reached g.left onto) ≡ true) (pairs_of g.right g.left onto)
      (each_pair (λ p. g.compatible a p.1 ≡ true → among same p.0 (short_of reached g.left onto) ≡ true) g.right g.left onto
      (λ i j d l m c.
      let passed : is_passed reached j ≡ true = o.closed at.0 j d at.1 at.3 (o.right_in i j m) (ap (λ x. g.compatible x (get_or g.right j d)) (get_or_default g.left at.0 d a at.1 ∙ at.2) ∙ c) in
      short_at same t reached g.left onto i d o.long l (ap (is_short reached) m ∙ passed))
      o.right_in);
}

short_least : {K : Type 0} (same : K → K → Bool) → Tells same → (g : Sides K) (onto : List (Option ℕ)) (reached : List Bool) → IsOutcome same g onto reached
    → (test : K → Bool) → IsClosed same g (pairs_of g.right g.left onto) test → (i : ℕ) (d : K) → i < length g.left → is_short reached (mate onto i) ≡ true
    → test (get_or g.left i d) ≡ true
short_least same t g onto reached o test c i d l s =
    o.least (λ k. test (get_or g.left k d))
    (λ k k_in none. c.left_out (get_or g.left k d) (among_at same t g.left k d k_in)
    (elim (cases_Bool (among same (get_or g.left k d) (map (λ p. p.0) (pairs_of g.right g.left onto)))) [
      | inl e ↦
          let at : (i : ℕ) × (j : ℕ) × (i < length g.left) × (get_or g.left i (get_or g.left k d) ≡ get_or g.left k d)
          × (mate onto i ≡ Some j) = place_of_left same t (get_or g.left k d) g.right g.left onto e in
          let other : at.0 ≢ k = λ q. let no : None ≡ Some at.1 = sym none ∙ (ap (mate onto) (sym q) ∙ at.4) in let f : ⊥ = cc in f in
          let one : get_or g.left at.0 d ≡ get_or g.left k d = get_or_default g.left at.0 d (get_or g.left k d) at.2 ∙ at.3 in
          absurd (both_ways (same (get_or g.left at.0 d) (get_or g.left k d)) (apart_at same t g.left at.0 k d o.left_once at.2 k_in other)
          (ap (λ x. same x (get_or g.left k d)) one ∙ t.itself (get_or g.left k d)))
      | inr e ↦ e
    ]))
    (λ k j a k_in passes compatible m.
    let a_in : a < length g.left = subst (λ n. a < n) o.long (mate_within onto a j m) in
    let each : All (λ p. g.compatible (get_or g.left k d) p.1 ≡ true → test p.0 ≡ true) (pairs_of g.right g.left onto) = c.planned (get_or g.left k d) (among_at same t g.left k d k_in) passes in
    let found : (x : _) × (y : _) × (g.compatible (get_or g.left k d) y ≡ true → test x ≡ true) × ((e : _) → get_or g.left a e ≡ x) × (y ≡ get_or g.right j x) =
    pair_at (λ p. g.compatible (get_or g.left k d) p.1 ≡ true
    → test p.0 ≡ true) g.right g.left onto
    (recursion_from_All (λ p. g.compatible (get_or g.left k d) p.1 ≡ true → test p.0 ≡ true) (pairs_of g.right g.left onto) each) a j a_in m in
    let j_in : j < length g.right = o.right_in a j m in
    let same_y : found.1 ≡ get_or g.right j d = found.4 ∙ get_or_default g.right j found.0 d j_in in
    ap test (found.3 d) ∙ found.2 (ap (g.compatible (get_or g.left k d)) same_y ∙ compatible d))
    i l s

pub short_from_outcome : {K : Type 0} (same : K → K → Bool) → Tells same → (g : Sides K) (onto : List (Option ℕ)) (reached : List Bool)
    → IsOutcome same g onto reached → IsShort same g (pairs_of g.right g.left onto) (short_of reached g.left onto)
short_from_outcome same t g onto reached o = record {
  choice = short_choice same t g onto reached o;
  closed = short_closed same t g onto reached o;
  least = λ test c. All-from_recursion (λ a. test a ≡ true) (short_of reached g.left onto) (each_short (λ a. test a ≡ true) reached g.left onto (short_least same t g onto reached o test c));
}

pub best_from_outcome : {K : Type 0} (same : K → K → Bool) → Tells same → (g : Sides K) (onto : List (Option ℕ)) (reached : List Bool)
    → IsOutcome same g onto reached → IsBest same g (pairs_of g.right g.left onto)
best_from_outcome same t g onto reached o = best_from_certificate same t g (pairs_of g.right g.left onto) (short_of reached g.left onto) (certificate_from_outcome same t g onto reached o)
