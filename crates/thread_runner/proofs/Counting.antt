-- How many replies there are, by thread and in all.
use Rattle.thread_runner.proofs.Names.{◌≡◌, ◌∙◌, ◌+◌, ◌++◌, ◌==◌, ◌<◌, ◌≤◌, ℕ, Bool, true, false, List, [], ◌∷◌, Some, ap, arith, length, length-append, refl, slice_get, subst, suc, sym, take, zero, zero-add, add-zero, inl, inr, nat_le, if◌then◌else◌, sum_by, option_map_or, eqb_tells, nat_tests, sum_by-cons, all_fine, IsSound, Header, Call, Line, SeatState, carried_by, AreDiaries, IsDiaryOf, Diary, GivenKeys, is_line_of, places_from, places_of, replies_at, replies_in, replies_on, rules}
use Rattle.trace_text.specs.declared.line.Line.TheVariants as line
use Rattle.thread_runner.specs.Asked.{replies_by as replies_by_call}

-- how many replies the lines of one thread have
replies_by : ℕ → List Line → ℕ
replies_by thread [] = 0
replies_by thread (l ∷ lines) = (if is_line_of thread l then replies_at l else 0) + replies_by thread lines

-- they are those at its places, for whatever counts those of the lines
sum-places_from : (f : ℕ → ℕ) (thread from : ℕ) (lines : List Line) → ((k : ℕ) (l : Line) → slice_get lines k ≡ Some l → f (from + k) ≡ replies_at l)
    → sum_by f (places_from thread from lines) ≡ replies_by thread lines
unfolding replies_by
sum-places_from f thread from [] counts = refl
sum-places_from f thread from (l ∷ lines) counts = by_test (is_line_of thread l)
    (sum-places_from f thread (from + 1) lines (λ k m at. subst (λ p. f p ≡ replies_at m) (omega arith) (counts (suc k) m at)))
  where
    by_test : (b : Bool) → sum_by f (places_from thread (from + 1) lines) ≡ replies_by thread lines
        → sum_by f (if b then from ∷ places_from thread (from + 1) lines else places_from thread (from + 1) lines) ≡ (if b then replies_at l else 0) + replies_by thread lines
    by_test true rest = let here : f (from + 0) ≡ replies_at l = counts 0 l refl in sum_by-cons f from (places_from thread (from + 1) lines) ∙ omega (arith, rest, here, ap f (add-zero from))
    by_test false rest = rest ∙ sym (zero-add (replies_by thread lines))

sum-places : (thread : ℕ) (lines : List Line) → sum_by (replies_on lines) (places_of thread lines) ≡ replies_by thread lines
sum-places thread lines = sum-places_from (replies_on lines) thread 0 lines (λ k l at. ap (λ n. replies_on lines n) (zero-add k) ∙ ap (λ o. option_map_or replies_at o 0) at)

-- the sum of a function over the numbers below n
below : (ℕ → ℕ) → ℕ → ℕ
below f zero = 0
below f (suc n) = below f n + f n

below-add : (f g : ℕ → ℕ) (n : ℕ) → below (λ k. f k + g k) n ≡ below f n + below g n
unfolding below
below-add f g zero = refl
below-add f g (suc n) = omega (arith, below-add f g n)

below-nothing : (f : ℕ → ℕ) (n : ℕ) → ((k : ℕ) → f k ≡ 0) → below f n ≡ 0
unfolding below
below-nothing f zero none = refl
below-nothing f (suc n) none = omega (arith, below-nothing f n none, none n)

nothing-either : (b : Bool) → let nothing : ℕ = 0 in (if b then nothing else nothing) ≡ nothing
nothing-either b = search rules

below-none : (n : ℕ) → below (λ k. 0) n ≡ 0
unfolding below
below-none zero = refl
below-none (suc n) = omega (arith, below-none n)

-- of the numbers below n, one is this one
below-past : (caller m n : ℕ) → n ≤ caller → below (λ k. if caller == k then m else 0) n ≡ 0
unfolding below
below-past caller m zero few = refl
below-past caller m (suc n) few = elim (eqb_tells caller n) [
  | inl (passes, same) ↦ absurd (omega arith)
  | inr (fails, differ) ↦ rw fails (omega (arith, below-past caller m n (omega arith)))
]

below-one : (caller m n : ℕ) → caller < n → below (λ k. if caller == k then m else 0) n ≡ m
unfolding below
below-one caller m zero few = absurd (omega arith)
below-one caller m (suc n) few = elim (eqb_tells caller n) [
  | inl (passes, same) ↦ rw passes (omega (arith, below-past caller m n (omega arith)))
  | inr (fails, differ) ↦ rw fails (omega (arith, below-one caller m n (omega arith)))
]

below-first : (f : ℕ → ℕ) (n : ℕ) → below f (suc n) ≡ f 0 + below (λ k. f (suc k)) n
unfolding below
below-first f zero = omega arith
below-first f (suc n) = omega (arith, below-first f n)

-- the calls are of threads below n
pub AreBelow : ℕ → List Line → Type 0
AreBelow n lines = (place thread : ℕ) (call : Call) → slice_get lines place ≡ Some (line.Call thread call) → thread < n

-- the replies of one line, thread by thread
line-below : (n : ℕ) (l : Line) → ((thread : ℕ) (call : Call) → l ≡ line.Call thread call → thread < n) → below (λ thread. if is_line_of thread l then replies_at l else 0) n ≡ replies_at l
line-below n (line.Call caller call) of = below-one caller (replies_by_call call) n (of caller call refl)
line-below n (line.Adopt shard) of = below-nothing (λ thread. if shard == thread then 0 else 0) n (λ thread. nothing-either (shard == thread))
line-below n l of = below-none n

-- the replies of all lines
lines-below : (n : ℕ) (lines : List Line) → AreBelow n lines → below (λ thread. replies_by thread lines) n ≡ replies_in lines
unfolding AreBelow replies_by
lines-below n [] of = below-none n
lines-below n (l ∷ lines) of =
    below-add (λ thread. if is_line_of thread l then replies_at l else 0) (λ thread. replies_by thread lines) n
    ∙ omega (arith, line-below n l (λ thread call is. of 0 thread call (ap Some is)), lines-below n lines (λ place thread call at. of (suc place) thread call at))

-- where there are as many of both, each of the one stands beside one of the other
beside : {X Y : Type 0} (xs : List X) (ys : List Y) (at : ℕ) (y : Y) → length xs ≡ length ys → slice_get ys at ≡ Some y → (x : X) × (slice_get xs at ≡ Some x)
beside [] [] at y same there = absurd cc
beside (x ∷ xs) (z ∷ ys) zero y same there = (x, refl)
beside (x ∷ xs) (z ∷ ys) (suc at) y same there = beside xs ys at y (omega arith) there
beside xs ys at y same there = absurd (omega arith)

diaries-below : (f : ℕ → ℕ) (diaries : List Diary) → ((thread : ℕ) (diary : Diary) → slice_get diaries thread ≡ Some diary → diary.calls ≡ f thread)
    → sum_by (λ (diary : Diary). diary.calls) diaries ≡ below f (length diaries)
unfolding below
diaries-below f [] each = refl
diaries-below f (diary ∷ diaries) each =
    sum_by-cons (λ (d : Diary). d.calls) diary diaries
    ∙ omega (arith, each 0 diary refl, diaries-below (λ k. f (suc k)) diaries (λ k d at. each (suc k) d at), below-first f (length diaries))

-- the calls of a trace are of its threads
pub AreBelow-sound : (header : Header) (lines : List Line) → IsSound header lines → AreBelow header.shards lines
unfolding AreBelow
AreBelow-sound header lines sound place thread call here =
    let e : nat_le header.shards thread ≡ false = (all_fine header (take place lines) (line.Call thread call) (sound place (line.Call thread call) here)).thread in grind (arith, nat_tests)

-- the diaries of all threads count the replies of all lines
pub AreDiaries-counted : (lines : List Line) (shown : Bool) (given : GivenKeys) (threads : ℕ) (seats : List SeatState) (diaries : List Diary)
    → AreBelow threads lines → AreDiaries lines shown given threads seats diaries → sum_by (λ (diary : Diary). diary.calls) diaries ≡ replies_in lines
AreDiaries-counted lines shown given threads seats diaries of are =
    diaries-below (λ thread. replies_by thread lines) diaries
    (λ thread diary at. let (seat, sits) = beside seats diaries thread diary (are.each_seat ∙ sym are.each_thread) at in
    (are.follow thread seat diary sits at).counted ∙ sum-places thread lines)
    ∙ ap (below (λ thread. replies_by thread lines)) are.each_thread ∙ lines-below threads lines of

-- all that stands in a list at its place, after one more of these
pub each_at-push : {X : Type 0} (P : ℕ → X → Type 0) (xs : List X) (x : X) → ((at : ℕ) (y : X) → slice_get xs at ≡ Some y → P at y) → P (length xs) x
    → (at : ℕ) (y : X) → slice_get (xs ++ x ∷ []) at ≡ Some y → P at y
each_at-push P [] x each it zero y there = let same : x ≡ y = cc in subst (P 0) same it
each_at-push P [] x each it (suc at) y there = absurd cc
each_at-push P (z ∷ xs) x each it zero y there = each 0 y there
each_at-push P (z ∷ xs) x each it (suc at) y there = each_at-push (λ k. P (suc k)) xs x (λ k w. each (suc k) w) it at y there

-- all that stands in two lists at one place, after one more in each
pub each_beside-push : {X Y : Type 0} (P : ℕ → X → Y → Type 0) (xs : List X) (ys : List Y) (x : X) (y : Y) → length xs ≡ length ys
    → ((at : ℕ) (u : X) (v : Y) → slice_get xs at ≡ Some u → slice_get ys at ≡ Some v → P at u v)
    → P (length xs) x y → (at : ℕ) (u : X) (v : Y) → slice_get (xs ++ x ∷ []) at ≡ Some u → slice_get (ys ++ y ∷ []) at ≡ Some v → P at u v
each_beside-push P [] [] x y same each it zero u v there here = let left : x ≡ u = cc in let right : y ≡ v = cc in subst (λ z. P 0 z v) left (subst (P 0 x) right it)
each_beside-push P [] [] x y same each it (suc at) u v there here = absurd cc
each_beside-push P (z ∷ xs) (w ∷ ys) x y same each it zero u v there here = each 0 u v there here
each_beside-push P (z ∷ xs) (w ∷ ys) x y same each it (suc at) u v there here = each_beside-push (λ k. P (suc k)) xs ys x y (omega arith) (λ k a b. each (suc k) a b) it at u v there here
each_beside-push P xs ys x y same each it at u v there here = absurd (omega arith)

-- the seat and the diary of the next thread
pub AreDiaries-push : (lines : List Line) (shown : Bool) (given : GivenKeys) (threads : ℕ) (seats : List SeatState) (diaries : List Diary) (seat : SeatState)
    (diary : Diary) → AreDiaries lines shown given threads seats diaries
    → IsDiaryOf lines shown given threads diary (carried_by seat) → AreDiaries lines shown given (threads + 1) (seats ++ seat ∷ []) (diaries ++ diary ∷ [])
AreDiaries-push lines shown given threads seats diaries seat diary are is = record {
  each_thread = length-append diaries (diary ∷ []) ∙ ap (λ n. n + 1) are.each_thread;
  each_seat = length-append seats (seat ∷ []) ∙ ap (λ n. n + 1) are.each_seat;
  follow = each_beside-push (λ n s d. IsDiaryOf lines shown given n d (carried_by s)) seats diaries seat diary (are.each_seat ∙ sym are.each_thread) are.follow
      (subst (λ n. IsDiaryOf lines shown given n diary (carried_by seat)) (sym are.each_seat) is);
}
