-- A log has a put for each generation that it gave out, so it has at most two changes for each generation of each slot.
use Rattle.std.proofs.Common.{zero, suc, ◌≡◌, ℕ, ◌+◌, ◌*◌, ◌<◌, ◌≤◌, List, [], ◌∷◌, ◌++◌, sym, arith, rules}
use Rattle.std.specs.Int.{sum_through}
use Rattle.std.proofs.lemmas.Bool.{cases_eq}
use Rattle.span.specs.declared.change.Change.{Change}
use Rattle.span.specs.declared.change.Change.TheVariants.{Put, Free}
use Rattle.span.specs.Log.{Value, puts_of, all_puts, IsLegal}
use Rattle.span.proofs.Changes.{puts_of-put_same, puts_of-put_other, puts_of-free}
use Rattle.span.proofs.LegalLogs.{puts_of-empty, puts_of-le}
use Rattle.bitmap.specs.declared.bits.TheConstants.{SLOTS}

sum_through-same : (f g : ℕ → ℕ) (n : ℕ) → ((q : ℕ) → q ≤ n → g q ≡ f q) → sum_through g n ≡ sum_through f n
sum_through-same f g zero same = same 0 (omega arith)
sum_through-same f g (suc n) same = omega (arith, sum_through-same f g n (λ q small. same q (omega (arith, small))), same (suc n) (omega arith))

-- one more at one of the numbers is one more in all
sum_through-more : (f g : ℕ → ℕ) (n at : ℕ) → at ≤ n → g at ≡ f at + 1 → ((q : ℕ) → (q ≡ at → ⊥) → g q ≡ f q) → sum_through g n ≡ sum_through f n + 1
sum_through-more f g zero at within more same = let first : at ≡ 0 = omega (arith, within) in rw (← first) more
sum_through-more f g (suc n) at within more same = search (rules, cases_eq, sum_through-same, (sum_through-more f g n at))

sum_through-le : (f : ℕ → ℕ) (n most : ℕ) → ((q : ℕ) → f q ≤ most) → sum_through f n ≤ (n + 1) * most
sum_through-le f zero most low = omega (arith, low 0)
sum_through-le f (suc n) most low = omega (arith, sum_through-le f n most low, low (suc n))

sum_through-none : (f : ℕ → ℕ) (n : ℕ) → ((q : ℕ) → f q ≡ 0) → sum_through f n ≡ 0
sum_through-none f zero none = none 0
sum_through-none f (suc n) none = omega (arith, sum_through-none f n none, none (suc n))

pub all_puts-empty : all_puts [] ≡ 0
unfolding all_puts
all_puts-empty = sum_through-none (λ slot. puts_of slot []) 255 puts_of-empty

pub all_puts-put : (log : List Change) (slot generation : ℕ) (value : Value) → slot < SLOTS
    → all_puts (log ++ Put slot generation value ∷ []) ≡ all_puts log + 1
unfolding all_puts
all_puts-put log slot generation value within =
    sum_through-more (λ q. puts_of q log) (λ q. puts_of q (log ++ Put slot generation value ∷ [])) 255 slot (omega (arith, within))
    (puts_of-put_same log slot generation value)
    (λ q other. puts_of-put_other log slot generation value q (λ e. other (sym e)))

pub all_puts-free : (log : List Change) (slot generation : ℕ) → all_puts (log ++ Free slot generation ∷ []) ≡ all_puts log
unfolding all_puts
all_puts-free log slot generation = search (rules, sum_through-same, puts_of-free)

pub all_puts-le : (gens : ℕ) (log : List Change) → IsLegal gens log → all_puts log ≤ SLOTS * gens
unfolding all_puts
all_puts-le gens log legal = sum_through-le (λ q. puts_of q log) 255 gens (λ q. puts_of-le gens log q legal)
