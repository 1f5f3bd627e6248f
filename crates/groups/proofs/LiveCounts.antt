-- How many keys are live in spans that have no slot in common.
use Rattle.std.proofs.Common.{◌≡◌, ℕ, ◌+◌, Bool, true, false, cond, ◌||◌, List, [], ◌∷◌, ◌∙◌, ap, sym, refl, arith, eq-eqb, rules}
use Rattle.std.specs.Ordering.{nat_cmp, eq_by_cmp}
use Rattle.std.specs.Cmp.{nat_cmp_total, unsigned_tied}
use Rattle.std.specs.FinSet.{contains, from_list, insert, items, len, union, contains-from_list, contains-insert, contains-items, contains-union, len-empty, len-insert}
use Rattle.std.proofs.Math.Bool.{or-true}
use Rattle.std.proofs.lemmas.Bool.{false_from_ne_true}
use Rattle.std.proofs.lemmas.List.Sums.{sum_by-cons}
use Rattle.bitmap.specs.Slots.{SlotSet, AreDisjoint}
use Rattle.bitmap.specs.Words.{same_slots}
use Rattle.bitmap.specs.Operations.{AreDisjoint-at}
use Rattle.span.specs.State.{SpanState}
use Rattle.groups.specs.Spans.{AreApart, union_of, live_count}
use Rattle.groups.proofs.Unions.{union-empty}

from_list-items : (s : SlotSet) → from_list (items s) ≡ s
from_list-items s = same_slots _ _ (λ q. contains-from_list nat_cmp_total (items s) q ∙ sym (contains-items s q))

or_turned : (a b c : Bool) → (a || (b || c)) ≡ (b || (a || c))
or_turned a b c = search rules

union-insert_right : (a b : SlotSet) (slot : ℕ) → union a (insert b slot) ≡ insert (union a b) slot
union-insert_right a b slot = same_slots _ _ (λ q.
    contains-union nat_cmp_total a (insert b slot) q
    ∙ ap (λ x. contains a q || x) (contains-insert nat_cmp_total b slot q)
    ∙ or_turned (contains a q) (eq_by_cmp nat_cmp q slot) (contains b q)
    ∙ ap (λ x. eq_by_cmp nat_cmp q slot || x) (sym (contains-union nat_cmp_total a b q))
    ∙ sym (contains-insert nat_cmp_total (union a b) slot q))

len-union_list : (a : SlotSet) (ks : List ℕ) → ((q : ℕ) → contains (from_list {R = nat_cmp} ks) q ≡ true → contains a q ≡ false)
    → len (union a (from_list ks)) ≡ len a + len (from_list {R = nat_cmp} ks)
len-union_list a [] apart = ap len (union-empty a) ∙ omega (arith, len-empty nat_cmp)
len-union_list a (k ∷ ks) apart =
    let rest : SlotSet = from_list ks in
    let out : contains a k ≡ false = apart k (contains-insert nat_cmp_total rest k k ∙ rw (unsigned_tied k k, eq-eqb k k refl) refl) in
    let more = len-union_list a ks (λ q inside. apart q (contains-insert nat_cmp_total rest k q ∙ ap (λ x. eq_by_cmp nat_cmp q k || x) inside ∙ or-true (eq_by_cmp nat_cmp q k))) in
    ap len (union-insert_right a rest k)
    ∙ len-insert nat_cmp_total (union a rest) k
    ∙ ap (λ b. cond b (len (union a rest)) (len (union a rest) + 1)) (contains-union nat_cmp_total a rest k ∙ ap (λ b. b || contains rest k) out)
    ∙ by_test (contains rest k) (len (union a rest)) (len a) (len rest) more
    ∙ ap (λ n. len a + n) (sym (len-insert nat_cmp_total rest k))
  where
    by_test : (b : Bool) (both left right : ℕ) → both ≡ left + right → cond b both (both + 1) ≡ left + cond b right (right + 1)
    by_test b both left right e = search rules

pub len-union : (a b : SlotSet) → AreDisjoint a b → len (union a b) ≡ len a + len b
len-union a b apart =
    ap (λ s. len (union a s)) (sym (from_list-items b))
    ∙ len-union_list a (items b) (λ q inside. false_from_ne_true (contains a q) (λ in_a. AreDisjoint-at a b apart q in_a (ap (λ s. contains s q) (sym (from_list-items b)) ∙ inside)))
    ∙ ap (λ s. len a + len s) (from_list-items b)

pub len-union_of : (spans : List SpanState) → AreApart spans → len (union_of spans) ≡ live_count spans
len-union_of [] apart = len-empty nat_cmp
len-union_of (span ∷ spans) apart = search (rules, len-union, sum_by-cons, (len-union_of spans apart.1))
