-- Bytes that went in one after another.
use Rattle.trace_runner.proofs.Names.{◌≡◌, ℕ, ◌+◌, List, Option, Ok, Err, take, drop, rules, Result, take-add, Appends-trans, Keeps-trans, Appends, Keeps, WriteAppends}

-- a prefix of the bytes, and then a prefix of the rest
pub Appends-take : (a b c : Option (List ℕ)) (n m : ℕ) (bytes rest : List ℕ) → rest ≡ drop n bytes → Appends a b (take n bytes) → Appends b c (take m rest) → Appends a c (take (n + m) bytes)
Appends-take a b c n m bytes rest e p q = rw (take-add n m bytes) (Appends-trans a b c (take n bytes) (take m (drop n bytes)) p (rw e at q))

-- a write after which nothing was taken before
pub Keeps-write : {E : Type 0} (o p q : Option (List ℕ)) (r : Result ℕ E) (bytes : List ℕ) → Keeps o p → WriteAppends p q r bytes → WriteAppends o q r bytes
Keeps-write o p q r bytes kept written = search (rules, Keeps-trans)

-- a write that failed has taken nothing
pub WriteAppends-err : {E : Type 0} (o p : Option (List ℕ)) (r : Result ℕ E) (e : E) (bytes : List ℕ) → r ≡ Err e → WriteAppends o p r bytes → Keeps o p
WriteAppends-err o p (Err f) e bytes is written = written
WriteAppends-err o p (Ok n) e bytes is written = absurd cc
