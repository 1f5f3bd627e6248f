-- What the tests of the checker mean
use Rattle.std.proofs.lemmas.Grind.{common_steps}
use Rattle.std.proofs.Common.{◌+◌, ◌≡◌, Bool, true, false, ◌&&◌, ◌||◌, List, [], ◌∷◌, length, map, refl, sym, ◌∙◌, arith, rules}
use Rattle.std.specs.List.{All, IsDistinct, list_all, list_any}
use Rattle.std.proofs.lemmas.Bool.{cases_Bool, both_ways, or_cases, or_left, or_right, and_parts, and_from}
use Rattle.std.proofs.lemmas.List.Elements.{All-map, All-weaker}
use Rattle.std.proofs.lemmas.List.Sums.{AllPass-from_list_all, list_all-from_AllPass}
use Rattle.std.proofs.lemmas.List.{length-map}
use Rattle.span.specs.declared.id.SpanId.{SpanId}
use Rattle.span.specs.Ids.{same_span}
use Rattle.span.proofs.Ids.{same_id_from_test, test_from_same_id}
use Rattle.span.specs.declared.entry.Entry.{Entry}
use Rattle.certificate.specs.Sides.{among, IsChoice}
use Rattle.mesh_graph.specs.Groups.{Groups, any_compatible, has_id, ids}
use Rattle.span.specs.Entries.{are_compatible}
use Rattle.certificate.specs.Plans.{IsCertificateOf, IsPlanOf, partners_of, sides_of}
use Rattle.certificate.proofs.Members.{Tells}

pub tells_span : Tells same_span
tells_span = record { one = same_id_from_test; itself = λ x. test_from_same_id x x refl }

flip : {K : Type 0} (same : K → K → Bool) → Tells same → (x y : K) → same x y ≡ same y x
flip same t x y = search (rules, cases_Bool, both_ways)

-- what each member that passes shows, the list's test shows
any_elim : {X : Type 0} (test : X → Bool) (r : Bool) (xs : List X) → ((x : X) → test x ≡ true → r ≡ true) → list_any test xs ≡ true → r ≡ true
any_elim test r [] h e = absurd (both_ways false refl e)
any_elim test r (x ∷ xs) h e = search (rules, or_cases, (any_elim test r xs h))

any_less : {X : Type 0} (p q : X → Bool) (xs : List X) → list_any (λ x. p x && q x) xs ≡ true → list_any p xs ≡ true
any_less p q [] h = h
any_less p q (x ∷ xs) h = search (rules, or_cases, or_left, and_parts, or_right, (any_less p q xs))

-- an id that some group has is among the ids
pub among-ids : (xs : List Entry) (a : SpanId) → list_any (λ x. same_span x.id a) xs ≡ among same_span a (ids xs)
among-ids [] a = refl
among-ids (x ∷ xs) a = (λ i. flip same_span tells_span x.id a i || among-ids xs a i)

pub among_left : (s : Groups) (a b : SpanId) → any_compatible s a b ≡ true → among same_span a (ids s.abandoned) ≡ true
among_left s a b h = sym (among-ids s.abandoned a) ∙ any_less (λ x. same_span x.id a) (λ x. list_any (λ y. same_span y.id b && are_compatible x y) s.owned) s.abandoned h

pub among_right : (s : Groups) (a b : SpanId) → any_compatible s a b ≡ true → among same_span b (ids s.owned) ≡ true
among_right s a b h = sym (among-ids s.owned b) ∙
    any_elim (λ x. same_span x.id a && list_any (λ y. same_span y.id b && are_compatible x y) s.owned) (has_id s.owned b) s.abandoned
    (λ x e. any_less (λ y. same_span y.id b) (are_compatible x) s.owned (and_parts (same_span x.id a) _ e).1) h

-- a list in which each passes
module _ {X : Type 0} (test : X → Bool) (P : X → Type 0) where
  pub All-from_list_all : (xs : List X) → ((x : X) → test x ≡ true → P x) → list_all test xs ≡ true → All P xs
  All-from_list_all xs h all = All-weaker (λ x. test x ≡ true) P h xs (AllPass-from_list_all test xs all)

  pub list_all-from_All : (xs : List X) → ((x : X) → P x → test x ≡ true) → All P xs → list_all test xs ≡ true
  list_all-from_All xs h all = list_all-from_AllPass test xs (All-weaker P (λ x. test x ≡ true) h xs all)

-- the ids of groups, none twice
pub choice-from_tests : (entries : List Entry) (chosen : List SpanId) → list_all (λ id. has_id entries id) chosen ≡ true → IsDistinct same_span chosen → IsChoice same_span (ids entries) chosen
choice-from_tests entries chosen all distinct = grind (arith, common_steps, All-from_list_all, among-ids)

pub tests-from_choice : (entries : List Entry) (chosen : List SpanId) → IsChoice same_span (ids entries) chosen → list_all (λ id. has_id entries id) chosen ≡ true
tests-from_choice entries chosen c =
    list_all-from_All (λ id. has_id entries id) (λ id. among same_span id (ids entries) ≡ true) chosen (λ id h. among-ids entries id ∙ h) c.within

-- the test whether each pair is compatible
abbrev pub all_compatible : Groups → List (SpanId × SpanId) → Bool
all_compatible s pairs = list_all (λ p. any_compatible s p.0 p.1) pairs

-- of compatible pairs each has its groups
module _ (s : Groups) where
  pub left_have_ids : (pairs : List (SpanId × SpanId)) → all_compatible s pairs ≡ true → list_all (λ id. has_id s.abandoned id) (map (λ p. p.0) pairs) ≡ true
  left_have_ids [] all = refl
  left_have_ids (p ∷ pairs) all =
      let both = and_parts (any_compatible s p.0 p.1) (all_compatible s pairs) all in
      and_from (has_id s.abandoned p.0) _ (any_less (λ x. same_span x.id p.0) (λ x. list_any (λ y. same_span y.id p.1 && are_compatible x y) s.owned) s.abandoned both.0) (left_have_ids pairs both.1)

  pub right_have_ids : (pairs : List (SpanId × SpanId)) → all_compatible s pairs ≡ true → list_all (λ id. has_id s.owned id) (map (λ p. p.1) pairs) ≡ true
  right_have_ids [] all = refl
  right_have_ids (p ∷ pairs) all = search (rules, and_parts, and_from, among-ids, among_right, (right_have_ids pairs))

pub plan-from_tests : (s : Groups) (pairs : List (SpanId × SpanId)) → all_compatible s pairs ≡ true → IsDistinct same_span (map (λ p. p.0) pairs)
    → IsDistinct same_span (map (λ p. p.1) pairs) → IsPlanOf s pairs
unfolding sides_of
plan-from_tests s pairs all left right = record {
  left = record {
    within = All-map (λ a. among same_span a (ids s.abandoned) ≡ true) (λ p. p.0) pairs
        (All-from_list_all (λ p. any_compatible s p.0 p.1) (λ p. among same_span p.0 (ids s.abandoned) ≡ true) pairs (λ p h. among_left s p.0 p.1 h) all);
    distinct = left;
  };
  right = record {
    within = All-map (λ b. among same_span b (ids s.owned) ≡ true) (λ p. p.1) pairs
        (All-from_list_all (λ p. any_compatible s p.0 p.1) (λ p. among same_span p.1 (ids s.owned) ≡ true) pairs (λ p h. among_right s p.0 p.1 h) all);
    distinct = right;
  };
  compatible = AllPass-from_list_all (λ p. any_compatible s p.0 p.1) pairs all;
}

pub tests-from_plan : (s : Groups) (pairs : List (SpanId × SpanId)) → IsPlanOf s pairs → all_compatible s pairs ≡ true
unfolding sides_of
tests-from_plan s pairs p = list_all-from_AllPass (λ p. any_compatible s p.0 p.1) pairs p.compatible

-- the parts of a certificate
pub certificate-from_tests : (s : Groups) (pairs : List (SpanId × SpanId)) (short : List SpanId) → IsPlanOf s pairs → IsChoice same_span (ids s.abandoned) short
    → length pairs + length short ≡ length s.abandoned + length (partners_of s short) → IsCertificateOf s pairs short
unfolding sides_of
certificate-from_tests s pairs short plan chosen equal = search (rules, length-map)

pub equation-from_certificate : (s : Groups) (pairs : List (SpanId × SpanId)) (short : List SpanId) → IsCertificateOf s pairs short
    → length pairs + length short ≡ length s.abandoned + length (partners_of s short)
unfolding sides_of
equation-from_certificate s pairs short shown =
    let left : length (ids s.abandoned) ≡ length s.abandoned = length-map s.abandoned (λ (x : Entry). x.id) in
    shown.equation ∙ (λ i. left i + length (partners_of s short))
