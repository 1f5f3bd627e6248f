-- Clipping a number changes no cause.
use Rattle.trace_text.proofs.Names.{◌≡◌, ℕ, ◌+◌, ◌-◌, ◌^◌, ◌≤◌, ◌&&◌, ◌||◌, not, nat_lt, nat_le, Bool, true, false, List, [], ◌∷◌, Option, Some, None, option_map, arith, refl, sym, ap, ap₂, ◌∙◌, inl, inr, rules, option_map_or, nat_tests, and_parts, cases_Bool, IsInRange, IsWithinLimits, last_word, Class, width_of-least, clip, clip_reference, clip_call, clip_line, is_value_over, IsFew, Few, begins_again, bound_name, read_name, has_key, has_range, has_keys, binding_of, first_cause, is_call, is_call_over, reads_unknown, holds, MOST_SHARDS, Header, Reference, Call, Fill, Get, Set, Free, Sweep, Later, Retire, Line, Keys, One, Many, Binding, Cause}
use Rattle.std.proofs.Common.{find}
use Rattle.trace_text.proofs.Tests.{chosen}
use Rattle.std.proofs.Math.Bool.{and-false}
use Rattle.trace_text.specs.declared.earlier.TheConstants.{MOST_RETIRED}
use Rattle.trace_text.specs.declared.line.Line.TheVariants as line
use Rattle.trace_text.specs.declared.cause.Cause.TheVariants as cause

-- ---- numbers

clip-thread : (shards t : ℕ) → IsInRange 1 MOST_SHARDS shards → nat_le shards (clip t) ≡ nat_le shards t
clip-thread shards t range = grind (arith, nat_tests, range.1)

clip-near : (shards t : ℕ) → IsInRange 1 MOST_SHARDS shards → nat_le shards t ≡ false → clip t ≡ t
clip-near shards t range near = grind (arith, nat_tests, range.1)

clip-index : (i n : ℕ) → n ≤ 262144 → nat_lt (clip i) n ≡ nat_lt i n
clip-index i n few = grind (arith, nat_tests)

clip-index_near : (i n : ℕ) → n ≤ 262144 → nat_lt (clip i) n ≡ true → clip i ≡ i
clip-index_near i n few near = grind (arith, nat_tests)

clip-range : (from to n : ℕ) → n ≤ 262144 → (nat_le (clip from) (clip to) && nat_le (clip to) n) ≡ (nat_le from to && nat_le to n)
clip-range from to n few = grind (arith, nat_tests)

clip-range_near : (from to n : ℕ) → n ≤ 262144 → nat_le (clip from) (clip to) ≡ true → nat_le (clip to) n ≡ true → (clip from ≡ from) × (clip to ≡ to)
clip-range_near from to n few low high = (grind (arith, nat_tests), grind (arith, nat_tests))

-- a count of a fill, and the last word of its last object
abbrev is_fill_over : Class → (count value : ℕ) → Bool
is_fill_over class count value = not (nat_le 1 count && nat_le count 262144) || nat_le (2 ^ 128) (last_word class (value + count - 1))

clip-count : (class : Class) (n v : ℕ) → is_fill_over class (clip n) v ≡ is_fill_over class n v
clip-count class n v = search (rules, cases_Bool, nat_le, nat_tests, and-false)

clip-count_near : (class : Class) (n v : ℕ) → is_fill_over class (clip n) v ≡ false → clip n ≡ n
clip-count_near class n v fine = grind (arith, nat_tests)

-- how many groups may go
abbrev is_retire_over : ℕ → Bool
is_retire_over most = not (nat_le 1 most && nat_le most MOST_RETIRED)

clip-most : (n : ℕ) → is_retire_over (clip n) ≡ is_retire_over n
clip-most n = search (rules, cases_Bool, nat_le, nat_tests, and-false)

clip-most_near : (n : ℕ) → is_retire_over (clip n) ≡ false → clip n ≡ n
clip-most_near n fine = grind (arith, nat_tests)

-- a base that is over makes the last word so
word-over : (class : Class) (v : ℕ) → nat_le (2 ^ 128) v ≡ true → nat_le (2 ^ 128) (last_word class v) ≡ true
word-over class v over = grind (arith, nat_tests, width_of-least class)

last-over : (class : Class) (n v : ℕ) → nat_le (2 ^ 128) v ≡ true → is_fill_over class n v ≡ true
last-over class n v over = grind (arith, nat_tests, width_of-least class)

-- ---- calls

has_key-clip : (i : Option ℕ) (keys : Keys) → IsFew keys → has_key (option_map clip i) keys ≡ has_key i keys
has_key-clip (Some i) (Many n) few = clip-index i n few
has_key-clip i keys few = refl

has_range-clip : (from to : ℕ) (keys : Keys) → IsFew keys → has_range (clip from) (clip to) keys ≡ has_range from to keys
has_range-clip from to One few = refl
has_range-clip from to (Many n) few = clip-range from to n few

has_keys-clip : (c : Call) (keys : Keys) → IsFew keys → has_keys (clip_call c) keys ≡ has_keys c keys
has_keys-clip c keys few = search (rules, has_key-clip, has_range-clip)

read_name-clip : (c : Call) → read_name (clip_call c) ≡ read_name c
read_name-clip c = search rules

bound_name-clip : (c : Call) → bound_name (clip_call c) ≡ bound_name c
bound_name-clip c = search rules

begins_again-clip : (c : Call) → begins_again (clip_call c) ≡ begins_again c
begins_again-clip c = search rules

over-clip : (before : List Line) (c : Call) → is_call_over before (clip_call c) ≡ is_call_over before c
over-clip before c = search (rules, clip-count, clip-most)

-- a value that is over makes its call so
pub over-value : (before : List Line) (w : Line) → is_call is_value_over w ≡ true → is_call (is_call_over before) w ≡ true
over-value before w over = search (rules, word-over, last-over)

-- ---- causes

same_keys : (c : Call) (o : Option Binding) → ((b : Binding) → o ≡ Some b → IsFew b.keys) → option_map_or (λ b. has_keys (clip_call c) b.keys) o false ≡ option_map_or (λ b. has_keys c b.keys) o false
same_keys c o few = search (rules, has_keys-clip)

same_unknown : (before : List Line) (c : Call) (o : Option (List ℕ)) → Few before
    → option_map_or (λ name. not (option_map_or (λ b. has_keys (clip_call c) b.keys) (binding_of name before) false)) o false
    ≡ option_map_or (λ name. not (option_map_or (λ b. has_keys c b.keys) (binding_of name before) false)) o false
same_unknown before c None few = refl
same_unknown before c (Some name) few = ap not (same_keys c (binding_of name before) (few name))

holds-clip : (h : Header) (before : List Line) (t : ℕ) (c : Call) → Few before → (k : Cause) → holds h before (line.Call t (clip_call c)) k ≡ holds h before (line.Call t c) k
holds-clip h before t c few cause.Limit = over-clip before c
holds-clip h before t c few cause.Ended = rw (begins_again-clip c) refl
holds-clip h before t c few cause.Bound = rw (bound_name-clip c) refl
holds-clip h before t c few cause.Unknown = rw (read_name-clip c) (same_unknown before c (read_name c) few)
holds-clip h before t c few cause.Early = rw (begins_again-clip c, read_name-clip c) refl
holds-clip h before t c few k = refl

find_same : (p q : Cause → Bool) → ((k : Cause) → p k ≡ q k) → (ks : List Cause) → find p ks ≡ find q ks
find_same p q same [] = refl
find_same p q same (k ∷ ks) = rw (same k, find_same p q same ks) refl

-- what is wrong with a line that was clipped is what is wrong with the line
pub first_cause-clip : (h : Header) (before : List Line) (w : Line) → IsWithinLimits h → Few before → first_cause h before (clip_line w) ≡ first_cause h before w
first_cause-clip h before (line.Adopt s) within few = search (rules, cases_Bool, nat_le, clip-thread, clip-near)
first_cause-clip h before (line.Call t c) within few = elim (cases_Bool (nat_le h.shards t)) [
  | inl far ↦ rw (over-clip before c, clip-thread h.shards t within.shards, far) refl
  | inr near ↦ rw (clip-near h.shards t within.shards near)
      (find_same (holds h before (line.Call t (clip_call c))) (holds h before (line.Call t c)) (holds-clip h before t c few)
      (cause.Limit ∷ cause.Thread ∷ cause.Ended ∷ cause.Adopt ∷ cause.Bound ∷ cause.Unknown ∷ cause.Early ∷ []))
]
first_cause-clip h before w within few = refl

-- ---- a line that is not refused was not clipped

-- where no test of the list holds, neither the first does nor one of the others
pub none_found : (p : Cause → Bool) (k : Cause) (ks : List Cause) → find p (k ∷ ks) ≡ None → (p k ≡ false) × (find p ks ≡ None)
none_found p k ks none = search (rules, chosen)

-- no cause holds of the line
pub record AllFine (h : Header) (before : List Line) (w : Line) : Type 0 where
  pub within : holds h before w cause.Limit ≡ false
  pub thread : holds h before w cause.Thread ≡ false
  pub ended : holds h before w cause.Ended ≡ false
  pub bound : holds h before w cause.Bound ≡ false
  pub known : holds h before w cause.Unknown ≡ false
  pub in_time : holds h before w cause.Early ≡ false

pub all_fine : (h : Header) (before : List Line) (w : Line) → first_cause h before w ≡ None → AllFine h before w
all_fine h before w none = search (rules, none_found)

key_near : (i : Option ℕ) (keys : Keys) → IsFew keys → has_key (option_map clip i) keys ≡ true → option_map clip i ≡ i
key_near None keys few has = refl
key_near (Some i) One few has = cc
key_near (Some i) (Many n) few has = ap Some (clip-index_near i n few has)

key_known : (i : Option ℕ) (o : Option Binding) → ((b : Binding) → o ≡ Some b → IsFew b.keys) → not (option_map_or (λ b. has_key (option_map clip i) b.keys) o false) ≡ false → option_map clip i ≡ i
key_known i None few known = cc
key_known i (Some b) few known = search (rules, cases_Bool, option_map, key_near)

range_near : (from to : ℕ) (keys : Keys) → IsFew keys → has_range (clip from) (clip to) keys ≡ true → (clip from ≡ from) × (clip to ≡ to)
range_near from to One few has = cc
range_near from to (Many n) few has = let parts = and_parts (nat_le (clip from) (clip to)) (nat_le (clip to) n) has in clip-range_near from to n few parts.0 parts.1

range_known : (from to : ℕ) (o : Option Binding) → ((b : Binding) → o ≡ Some b → IsFew b.keys)
    → not (option_map_or (λ b. has_range (clip from) (clip to) b.keys) o false) ≡ false → (clip from ≡ from) × (clip to ≡ to)
range_known from to None few known = cc
range_known from to (Some b) few known = search (rules, cases_Bool, range_near)

same_reference : (key : Reference) → option_map clip key.index ≡ key.index → clip_reference key ≡ key
same_reference key e = ap (λ i. record { name = key.name; index = i }) e

call_known : (before : List Line) (c : Call) → Few before → is_call_over before (clip_call c) ≡ false → reads_unknown before (clip_call c) ≡ false → clip_call c ≡ c
call_known before (Fill name class n v) few within known = ap (λ k. Fill name class k v) (clip-count_near class n v within)
call_known before (Get key) few within known = ap Get (same_reference key (key_known key.index (binding_of key.name before) (few key.name) known))
call_known before (Set key class v) few within known = ap (λ k. Set k class v) (same_reference key (key_known key.index (binding_of key.name before) (few key.name) known))
call_known before (Free key) few within known = ap Free (same_reference key (key_known key.index (binding_of key.name before) (few key.name) known))
call_known before (Later key) few within known = ap Later (same_reference key (key_known key.index (binding_of key.name before) (few key.name) known))
call_known before (Retire most) few within known = ap Retire (clip-most_near most within)
call_known before (Sweep name from to) few within known = let near = range_known from to (binding_of name before) (few name) known in ap₂ (λ a b. Sweep name a b) near.0 near.1
call_known before c few within known = refl

pub clip_line-fine : (h : Header) (before : List Line) (w : Line) → IsWithinLimits h → Few before → first_cause h before (clip_line w) ≡ None → clip_line w ≡ w
clip_line-fine h before (line.Adopt s) within few fine = search (rules, all_fine, clip-near, clip-thread)
clip_line-fine h before (line.Call t c) within few fine =
    let all = all_fine h before (line.Call (clip t) (clip_call c)) fine in
    ap₂ (λ x y. line.Call x y) (clip-near h.shards t within.shards (sym (clip-thread h.shards t within.shards) ∙ all.thread)) (call_known before c few all.within all.known)
clip_line-fine h before w within few fine = refl
