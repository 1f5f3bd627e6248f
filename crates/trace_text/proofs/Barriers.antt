-- The threads that have ended, and those that wait for a barrier, one line more.
use Rattle.trace_text.proofs.Names.{◌≡◌, ℕ, ◌&&◌, ◌||◌, not, Bool, true, false, cond, List, [], ◌∷◌, ◌++◌, Option, Some, reverse, refl, ap, ◌∙◌, rules, find, take_while, option_map_or, reverse-append, reverse-reverse, take_while-cons, cases_Bool, begins, ends, has_ended, Line}
use Rattle.trace_text.specs.Barrier.{is_barrier, open_lines}

-- a line that ends a thread lets none begin
pub begins-ending : (t : ℕ) (l : Line) → ends t l ≡ true → begins t l ≡ false
begins-ending t l e = search rules

-- whether the last line by which the thread turns is an end, by what the line does
turned : (t : ℕ) (l : Line) (o : Option Line) (end begin : Bool) → ends t l ≡ end → (end ≡ true → begin ≡ false)
    → option_map_or (ends t) (cond (end || begin) (Some l) o) false ≡ (not begin && (end || option_map_or (ends t) o false))
turned t l o true true is apart = let bad = apart refl in cc
turned t l o false false is apart = refl
turned t l o end begin is apart = is

-- whether a thread has ended, one line later
pub has_ended-push : (t : ℕ) (ls : List Line) (l : Line) → has_ended (ls ++ l ∷ []) t ≡ (not (begins t l) && (ends t l || has_ended ls t))
has_ended-push t ls l = search (rules, reverse-append, turned, begins-ending)

abbrev passes : Line → Bool
passes line = not (is_barrier line)

take_while-next : (ls : List Line) (l : Line) (b : Bool) → passes l ≡ b → take_while passes (reverse (ls ++ l ∷ [])) ≡ cond b (l ∷ take_while passes (reverse ls)) []
take_while-next ls l b e = ap (take_while passes) (reverse-append ls (l ∷ [])) ∙ take_while-cons passes l (reverse ls) ∙ ap (λ x. cond x (l ∷ take_while passes (reverse ls)) []) e

open_lines-push : (ls : List Line) (l : Line) → is_barrier l ≡ false → open_lines (ls ++ l ∷ []) ≡ open_lines ls ++ l ∷ []
open_lines-push ls l e = ap reverse (take_while-next ls l true (ap not e)) ∙ reverse-append (l ∷ []) (take_while passes (reverse ls))

open_lines-barrier : (ls : List Line) (l : Line) → is_barrier l ≡ true → open_lines (ls ++ l ∷ []) ≡ []
open_lines-barrier ls l e = ap reverse (take_while-next ls l false (ap not e))

-- the threads that wait, one line more
pub has_ended-open-push : (ls : List Line) (l : Line) (t : ℕ) → has_ended (open_lines (ls ++ l ∷ [])) t ≡ (not (is_barrier l) && (not (begins t l) && (ends t l || has_ended (open_lines ls) t)))
has_ended-open-push ls l t = search (rules, cases_Bool, open_lines-barrier, open_lines-push, has_ended-push)

-- what is found among the first of a list is found in it
find-take_while : {X : Type 0} (p q : X → Bool) (xs : List X) (x : X) → find p (take_while q xs) ≡ Some x → find p xs ≡ Some x
find-take_while p q [] x e = e
find-take_while p q (y ∷ ys) x e = search (rules, take_while-cons, (find-take_while p q ys x))

-- a thread that waits has ended
pub has_ended-open : (ls : List Line) (t : ℕ) → has_ended (open_lines ls) t ≡ true → has_ended ls t ≡ true
has_ended-open ls t e = search (rules, reverse-reverse, find-take_while)
