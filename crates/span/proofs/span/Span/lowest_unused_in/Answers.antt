use Rattle.std.proofs.Common.{◌≡◌, ◌∙◌, ◌||◌, ◌↔◌, Bool, true, false, ap, refl, subst, sym, rules}
use Rattle.std.specs.Prelude.{IfSome, IsTrue, MatchOption}
use Rattle.std.specs.Cmp.{nat_cmp_total}
use Rattle.std.specs.FinSet.{contains, contains-empty, contains-union, empty, insert, union}
use Rattle.std.specs.Ordering.{nat_cmp}
use Rattle.bitmap.specs.Slots.{HasWord, IsLowestOutsideIn, SlotSet}
use Rattle.bitmap.specs.Words.{same_slots}
use Rattle.bitmap.specs.declared.bits.Vacancy.{Vacancy}
use Rattle.span.specs.Log.{worn_slots}
use Rattle.span.proofs.span.Span.lowest_unused_in.Goals as goal

or_self : (b : Bool) → (b || b) ≡ (b || false)
or_self true = refl
or_self false = refl

-- with no slot in the other set, the union is that with itself
union-self : (used none : SlotSet) → none ≡ empty → union used used ≡ union used none
union-self used none is = same_slots _ _ (λ q. contains-union nat_cmp_total used used q ∙ or_self (contains used q)
    ∙ sym (contains-union nat_cmp_total used none q ∙ ap (λ s. contains used q || contains s q) is ∙ ap (λ b. contains used q || b) (contains-empty nat_cmp q)))

unused : (g : _) (c : goal.After-lowest_outside_both_in-2 g) → union c.args.used.now c.args.used.now ≡ union c.args.used.now (worn_slots c.args.self.now.gens c.args.self.now.log)
unused g c = search (rules, union-self)

pub returns-clause-lowest : goal.returns-clause-lowest
returns-clause-lowest g c = subst (λ slots. MatchOption c.lowest_outside_both_in-2.result (HasWord slots c.args.word) (λ (found : Vacancy). IsLowestOutsideIn slots c.args.word found.slot))
    (unused g c) c.lowest_outside_both_in-2.ensures.lowest

pub returns-clause-last : goal.returns-clause-last
returns-clause-last g c = subst (λ slots. IfSome c.lowest_outside_both_in-2.result (λ (found : Vacancy). IsTrue found.is_last ↔ HasWord (insert slots found.slot) c.args.word))
    (unused g c) c.lowest_outside_both_in-2.ensures.last
