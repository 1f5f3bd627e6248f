-- What a run keeps of its replies, one line more, and how a key is found in it.
use Rattle.trace_runner.proofs.Names.{zero, suc, ◌≡◌, ℕ, ◌+◌, ◌<◌, Bool, true, false, cond, not, List, [], ◌∷◌, ◌++◌, map, length, take, drop, filter, Option, Some, None, slice_get, refl, sym, ap, subst, ◌∙◌, append_assoc, arith, inl, inr, length-append, add-zero, unwrap_or, option_map, option_and_then, rules, flat_map, option_map_or, option_or, nat_tests, flat_map-append, append-nil, length-map, map-append, take-append-drop, filter-append, length-range_with_len, slice_get-map, slice_get_within, Class, Key, CoreState, Event, Reply, FindsAt, FindsOne, Kept, Recalls, is_put, keeping, kept_none, kept_of, keys_of, Asked, Did, Made, Calls, asked_of, one_call, answer_told, on_line, put_told, told_of, news_of, answer_line, asked_by, key_at, key_bound, key_made, on_key, binding_at, binding_from, binding_of, first_cause, has_key, has_range, keys_at, keys_in, marks, marks_at, first_of, place_at, Header, Line, all_fine}
use Rattle.groups.proofs.Lists.{there_at}
use Rattle.trace_runner.specs.declared.report.Answer.{Answer}
use Rattle.trace_runner.specs.declared.report.Answer.TheVariants as answer
use Rattle.trace_text.specs.Earlier.{key_count}
use Rattle.trace_text.specs.declared.line.Binding.{Binding}
use Rattle.trace_text.specs.declared.line.Call.TheVariants.{Put, Fill, Get, Set, Free, Sweep, Later}
use Rattle.trace_text.specs.declared.line.Keys.{Keys}
use Rattle.trace_text.specs.declared.line.Keys.TheVariants.{One, Many}
use Rattle.trace_text.specs.declared.line.Line.TheVariants as line
use Rattle.trace_text.proofs.Bindings.{binding_of-push, of_either}
use Rattle.trace_text.proofs.Tests.{chosen}

-- one more line
pub take_line : {X : Type 0} (xs : List X) (place : ℕ) (x : X) → slice_get xs place ≡ Some x → (take (place + 1) xs ≡ take place xs ++ x ∷ []) × (length (take place xs) ≡ place)
take_line [] place x is = absurd cc
take_line (y ∷ ys) zero x is = let same : y ≡ x = cc in (ap (λ z. z ∷ []) same, refl)
take_line (y ∷ ys) (suc place) x is =
    let later = take_line ys place x is in
    let next : suc place + 1 ≡ suc (place + 1) = omega arith in
    (ap (λ n. take n (y ∷ ys)) next ∙ ap (λ l. y ∷ l) later.0, ap suc later.1)

-- ---- what is kept

keys_of-append : (first second : List Made) → keys_of (first ++ second) ≡ keys_of first ++ keys_of second
keys_of-append first second =
    ap (map key_made) (filter-append (λ m. is_put (asked_of m)) first second)
    ∙ map-append key_made (filter (λ m. is_put (asked_of m)) first) (filter (λ m. is_put (asked_of m)) second)

told_of-append : (asked : Bool) (number : ℕ) (first second : List Made) → told_of asked number first ++ told_of asked number second ≡ told_of asked number (first ++ second)
told_of-append true number first second = sym
    (ap (flat_map answer_line) (map-append (on_line number) first second)
    ∙ flat_map-append answer_line (map (on_line number) first) (map (on_line number) second))
told_of-append false number first second = refl

told_of-none : (asked : Bool) (number : ℕ) → told_of asked number [] ≡ []
told_of-none asked number = search rules

told_of-one : (asked : Bool) (number : ℕ) (m : Made) → told_of asked number (m ∷ []) ≡ cond asked (answer_line (on_line number m)) []
told_of-one asked number m = search rules

pub keeping-none : (number : ℕ) (kept : Kept) → keeping number kept [] ≡ kept
keeping-none number kept =
    let text : kept.text ++ told_of kept.asked number [] ≡ kept.text = ap (λ l. kept.text ++ l) (told_of-none kept.asked number) ∙ append-nil kept.text in
    λ i. record { keys = append-nil kept.keys i; count = add-zero kept.count i; asked = kept.asked; text = text i }

pub keeping-append : (number : ℕ) (kept : Kept) (first second : List Made) → keeping number (keeping number kept first) second ≡ keeping number kept (first ++ second)
keeping-append number kept first second =
    let keys : (kept.keys ++ keys_of first) ++ keys_of second ≡ kept.keys ++ keys_of (first ++ second) =
    append_assoc kept.keys (keys_of first) (keys_of second) ∙ ap (λ l. kept.keys ++ l) (sym (keys_of-append first second)) in
    let count : kept.count + length first + length second ≡ kept.count + length (first ++ second) = omega (arith, length-append first second) in
    let text : (kept.text ++ told_of kept.asked number first) ++ told_of kept.asked number second ≡ kept.text ++ told_of kept.asked number (first ++ second) =
    append_assoc kept.text (told_of kept.asked number first) (told_of kept.asked number second) ∙ ap (λ l. kept.text ++ l) (told_of-append kept.asked number first second) in
    λ i. record { keys = keys i; count = count i; asked = kept.asked; text = text i }

keys_of-other : (m : Made) → is_put (asked_of m) ≡ false → keys_of (m ∷ []) ≡ []
keys_of-other m e = rw e refl

keys_of-put : (m : Made) → is_put (asked_of m) ≡ true → keys_of (m ∷ []) ≡ key_made m ∷ []
keys_of-put m e = rw e refl

-- once one answer is told
module _ (number : ℕ) (before after : Kept) (m : Made) (count : after.count ≡ before.count + 1) (asked : after.asked ≡ before.asked)
    (told : after.text ≡ before.text ++ cond before.asked (answer_line (on_line number m)) []) where
  text : after.text ≡ before.text ++ told_of before.asked number (m ∷ [])
  text = told ∙ ap (λ l. before.text ++ l) (sym (told_of-one before.asked number m))

  pub keeping-other : is_put (asked_of m) ≡ false → after.keys ≡ before.keys → after ≡ keeping number before (m ∷ [])
  keeping-other other keys =
      let all : after.keys ≡ before.keys ++ keys_of (m ∷ []) = keys ∙ sym (append-nil before.keys) ∙ ap (λ l. before.keys ++ l) (sym (keys_of-other m other)) in
      λ i. record { keys = all i; count = count i; asked = asked i; text = text i }

  pub keeping-put : is_put (asked_of m) ≡ true → after.keys ≡ before.keys ++ key_made m ∷ [] → after ≡ keeping number before (m ∷ [])
  keeping-put put keys =
      let all : after.keys ≡ before.keys ++ keys_of (m ∷ []) = keys ∙ ap (λ l. before.keys ++ l) (sym (keys_of-put m put)) in
      λ i. record { keys = all i; count = count i; asked = asked i; text = text i }

pub kept_of-none : (replies : Bool) → kept_none replies ≡ kept_of replies []
kept_of-none replies = refl

-- the key that an answer names
abbrev pub answer_key : Answer → Option Key
answer_key (answer.Key key) = Some key
answer_key _ = None

pub answer_key-put_told : (key : Option Key) → answer_key (put_told key) ≡ key
answer_key-put_told (Some key) = refl
answer_key-put_told None = refl

-- the key that an answer names is that of the put
pub answer_key-told : (event : Event) (reply : Reply) (core : CoreState) → answer_key (answer_told reply) ≡ key_made (one_call event reply core)
answer_key-told event reply core = search rules

keys_of-push : (done : List Did) (did : Did) → flat_map (λ (d : Did). keys_of d.calls) (done ++ did ∷ []) ≡ flat_map (λ (d : Did). keys_of d.calls) done ++ keys_of did.calls
keys_of-push done did = flat_map-append (λ (d : Did). keys_of d.calls) done (did ∷ []) ∙ ap (λ l. flat_map (λ (d : Did). keys_of d.calls) done ++ l) (append-nil (keys_of did.calls))

calls-push : (done : List Did) (did : Did) → length (flat_map (λ (d : Did). d.calls) (done ++ did ∷ [])) ≡ length (flat_map (λ (d : Did). d.calls) done) + length did.calls
calls-push done did =
    ap length (flat_map-append (λ (d : Did). d.calls) done (did ∷ []) ∙ ap (λ l. flat_map (λ (d : Did). d.calls) done ++ l) (append-nil did.calls))
    ∙ length-append (flat_map (λ (d : Did). d.calls) done) did.calls

-- one line more: what its calls leave, and the report with what stands around them
pub kept_of-push : (replies : Bool) (done : List Did) (did : Did) (number : ℕ) (settled : List ℕ) (called after : Kept)
    → called ≡ keeping number (record (kept_of replies done) { text = settled }) did.calls
    → after ≡ record called { text = after.text } → after.text ≡ (news_of replies (done ++ did ∷ [])).text → after ≡ kept_of replies (done ++ did ∷ [])
kept_of-push replies done did number settled called after calls rest told = search (rules, keys_of-push, calls-push, text)

-- ---- the keys of a line

-- all that is asked for are puts
abbrev AllPuts : List Asked → Type 0
AllPuts [] = Unit {0}
AllPuts (a ∷ asked) = (is_put a ≡ true) × AllPuts asked

-- nothing that is asked for is a put
abbrev NoPuts : List Asked → Type 0
NoPuts [] = Unit {0}
NoPuts (a ∷ asked) = (is_put a ≡ false) × NoPuts asked

AllPuts-map : (f : ℕ → Asked) → ((i : ℕ) → is_put (f i) ≡ true) → (places : List ℕ) → AllPuts (map f places)
AllPuts-map f each [] = tt
AllPuts-map f each (i ∷ places) = (each i, AllPuts-map f each places)

NoPuts-map : (f : ℕ → Asked) → ((i : ℕ) → is_put (f i) ≡ false) → (places : List ℕ) → NoPuts (map f places)
NoPuts-map f each [] = tt
NoPuts-map f each (i ∷ places) = (each i, NoPuts-map f each places)

keys_of-all : (made : List Made) → AllPuts (map asked_of made) → keys_of made ≡ map key_made made
keys_of-all [] puts = refl
keys_of-all (m ∷ made) puts = rw puts.0 (ap (λ l. key_made m ∷ l) (keys_of-all made puts.1))

keys_of-no : (made : List Made) → NoPuts (map asked_of made) → keys_of made ≡ []
keys_of-no [] puts = refl
keys_of-no (m ∷ made) puts = rw puts.0 (keys_of-no made puts.1)

-- a call on a key is no put if its event is none
on_key_is_no_put : (call : Key → Event) → ((key : Key) → is_put (Calls (call key)) ≡ false) → (o : Option Key) → is_put (on_key call o) ≡ false
on_key_is_no_put call no_put None = refl
on_key_is_no_put call no_put (Some key) = no_put key

-- a line that binds a name has its keys, in order, and any other line has none
abbrev pub Keyed : Line → List Made → Type 0
Keyed (line.Call t (Put name class v)) made = (keys_of made ≡ map key_made made) × (length made ≡ 1)
Keyed (line.Call t (Fill name class n v)) made = (keys_of made ≡ map key_made made) × (length made ≡ n)
Keyed _ made = keys_of made ≡ []

asks_some : (made : List Made) (asked : List Asked) → map asked_of made ≡ asked → AllPuts asked → keys_of made ≡ map key_made made
asks_some made asked is puts = keys_of-all made (subst AllPuts (sym is) puts)

asks_none : (made : List Made) (asked : List Asked) → map asked_of made ≡ asked → NoPuts asked → keys_of made ≡ []
asks_none made asked is puts = keys_of-no made (subst NoPuts (sym is) puts)

pub Keyed-asked : (shards : ℕ) (all : List Line) (done : List Did) (l : Line) (made : List Made) → map asked_of made ≡ asked_by shards all done l → Keyed l made
Keyed-asked shards all done l made is = search (rules, asks_none, asks_some, length-map, AllPuts-map, NoPuts-map, length-range_with_len, on_key_is_no_put)

as_many : (made : List Made) (n : ℕ) → (keys_of made ≡ map key_made made) × (length made ≡ n) → length (keys_of made) ≡ n
as_many made n keyed = ap length keyed.0 ∙ length-map made key_made ∙ keyed.1

pub length-Keyed : (l : Line) (made : List Made) → Keyed l made → length (keys_of made) ≡ keys_at l
length-Keyed (line.Call t (Put name class v)) made keyed = as_many made 1 keyed
length-Keyed (line.Call t (Fill name class n v)) made keyed = as_many made n keyed
length-Keyed l made keyed = ap length keyed

-- ---- the keys of a name

get_left : {X : Type 0} (xs ys : List X) (n : ℕ) → n < length xs → slice_get (xs ++ ys) n ≡ slice_get xs n
get_left [] ys n less = absurd (omega (arith, less))
get_left (x ∷ xs) ys zero less = refl
get_left (x ∷ xs) ys (suc n) less = get_left xs ys n (omega (arith, less))

get_right : {X : Type 0} (xs ys : List X) (n : ℕ) → slice_get (xs ++ ys) (length xs + n) ≡ slice_get ys n
get_right {X = X} [] ys n = let same : length {A = X} [] + n ≡ n = omega arith in ap (slice_get ys) same
get_right (x ∷ xs) ys n = let same : length (x ∷ xs) + n ≡ suc (length xs + n) = omega arith in ap (slice_get (x ∷ (xs ++ ys))) same ∙ get_right xs ys n

-- what a line binds a name to
record IsBound (place first : ℕ) (made : List Made) (b : Binding) : Type 0 where
  line_is : b.line ≡ place
  first_is : b.first ≡ first
  count_is : key_count b.keys ≡ length made
  keys_are : keys_of made ≡ map key_made made

by_record : (place section first thread n : ℕ) (class : Class) (keys : Keys) (made : List Made) (b : Binding)
    → Some (record { keys = keys; class = class; thread = thread; section = section; line = place; first = first }) ≡ Some b
    → key_count keys ≡ n → (keys_of made ≡ map key_made made) × (length made ≡ n) → IsBound place first made b
by_record place section first thread n class keys made b is count keyed = search rules

IsBound-at : (place section first : ℕ) (name : List ℕ) (l : Line) (made : List Made) (b : Binding) → Keyed l made → binding_at place section first name l ≡ Some b → IsBound place first made b
IsBound-at place section first name l made b keyed e = search (rules, chosen, by_record)

pub Recalls-none : (keys : List (Option Key)) → Recalls [] [] keys
Recalls-none keys name b place is less = cc

module _ (above : List Line) (l : Line) (done : List Did) (did : Did) (keys : List (Option Key)) (recalls : Recalls above done keys)
    (count : length done ≡ length above) (long : length keys ≡ keys_in above) (keyed : Keyed l did.calls) where
  earlier : (b : Binding) (place : ℕ) → (b.line < length done) × (slice_get keys (b.first + place) ≡ Some (key_bound done place b))
      → (b.line < length (done ++ did ∷ [])) × (slice_get (keys ++ keys_of did.calls) (b.first + place) ≡ Some (key_bound (done ++ did ∷ []) place b))
  earlier b place known = search (rules, option_and_then, get_left, length-append, slice_get_within)

  latest : (b : Binding) (place : ℕ) → place < key_count b.keys → IsBound (length above) (keys_in above) did.calls b
      → (b.line < length (done ++ did ∷ [])) × (slice_get (keys ++ keys_of did.calls) (b.first + place) ≡ Some (key_bound (done ++ did ∷ []) place b))
  latest b place less bound =
      let at : b.line ≡ length done + 0 = omega (arith, bound.line_is, count) in
      let here : b.first + place ≡ length keys + place = omega (arith, bound.first_is, long) in
      let (made, is) = there_at did.calls place (omega (arith, less, bound.count_is)) in
      let found : slice_get (keys ++ keys_of did.calls) (b.first + place) ≡ Some (key_made made) =
      ap (slice_get (keys ++ keys_of did.calls)) here ∙ get_right keys (keys_of did.calls) place ∙ ap (λ ks. slice_get ks place) bound.keys_are
      ∙ slice_get-map key_made did.calls place ∙ ap (option_map key_made) is in
      let its : slice_get (done ++ did ∷ []) b.line ≡ Some did = ap (slice_get (done ++ did ∷ [])) at ∙ get_right done (did ∷ []) 0 in
      let same : key_bound (done ++ did ∷ []) place b ≡ key_made made =
      ap (λ o. option_and_then (λ (d : Did). option_and_then key_made (slice_get d.calls place)) o) its ∙ ap (option_and_then key_made) is in
      (omega (arith, at, length-append done (did ∷ [])), found ∙ ap Some (sym same))

  -- one line more
  pub Recalls-push : Recalls (above ++ l ∷ []) (done ++ did ∷ []) (keys ++ keys_of did.calls)
  Recalls-push name b place is less = elim (of_either (binding_of name above) (binding_at (length above) (marks above) (keys_in above) name l) b (sym (binding_of-push name above l) ∙ is)) [
    | inl old ↦ earlier b place (recalls name b place old less)
    | inr new ↦ latest b place less (IsBound-at (length above) (marks above) (keys_in above) name l did.calls b keyed new)
  ]

-- ---- what a line reads

either_left : {X : Type 0} (o p : Option X) (x : X) → o ≡ Some x → option_or o p ≡ Some x
either_left o p x e = search rules

binding_from-front : (place section first : ℕ) (name : List ℕ) (front back : List Line) (b : Binding) → binding_from place section first name front ≡ Some b
    → binding_from place section first name (front ++ back) ≡ Some b
binding_from-front place section first name [] back b e = cc
binding_from-front place section first name (l ∷ front) back b e = elim
    (of_either (binding_at place section first name l) (binding_from (place + 1) (section + marks_at l) (first + keys_at l) name front) b e) [
      | inl here ↦ either_left _ _ b here
      | inr later ↦ later_on (binding_at place section first name l) e (binding_from-front (place + 1) (section + marks_at l) (first + keys_at l) name front back b later)
    ]
  where
    later_on : (o : Option Binding) → option_or o (binding_from (place + 1) (section + marks_at l) (first + keys_at l) name front) ≡ Some b
        → binding_from (place + 1) (section + marks_at l) (first + keys_at l) name (front ++ back) ≡ Some b
        → option_or o (binding_from (place + 1) (section + marks_at l) (first + keys_at l) name (front ++ back)) ≡ Some b
    later_on None is more = more
    later_on (Some x) is more = is

-- a name that is bound above a line is bound so by all lines
binding_of-take : (lines : List Line) (n : ℕ) (name : List ℕ) (b : Binding) → binding_of name (take n lines) ≡ Some b → binding_of name lines ≡ Some b
binding_of-take lines n name b is = ap (binding_of name) (sym (take-append-drop n lines)) ∙ binding_from-front 0 0 0 name (take n lines) (drop n lines) b is

known : (test : Keys → Bool) (o : Option Binding) → not (option_map_or (λ (b : Binding). test b.keys) o false) ≡ false → (b : Binding) × (o ≡ Some b) × (test b.keys ≡ true)
known test o e = search rules

below_count : (index : Option ℕ) (keys : Keys) → has_key index keys ≡ true → unwrap_or index 0 < key_count keys
below_count None One e = omega arith
below_count (Some i) (Many n) e = grind (arith, nat_tests)
below_count index keys e = cc

range_below : (from to place : ℕ) (keys : Keys) → has_range from to keys ≡ true → place < to → place < key_count keys
range_below from to place One e less = cc
range_below from to place (Many n) e less = grind (arith, nat_tests)

module _ (h : Header) (lines : List Line) (n : ℕ) (done : List Did) (keys : List (Option Key)) (recalls : Recalls (take n lines) done keys) where
  one_found : (name : List ℕ) (b : Binding) (place : ℕ) → binding_of name (take n lines) ≡ Some b → place < key_count b.keys → FindsOne lines done keys (first_of (take n lines) name) name place
  one_found name b place is less =
      let first : first_of (take n lines) name ≡ b.first = ap (λ o. option_map_or (λ (x : Binding). x.first) o 0) is in
      let key : key_at lines done name place ≡ key_bound done place b = ap (λ o. option_and_then (λ (x : Binding). key_bound done place x) o) (binding_of-take lines n name b is) in
      ap (λ f. slice_get keys (f + place)) first ∙ (recalls name b place is less).1 ∙ ap Some (sym key)

  key_found : (name : List ℕ) (index : Option ℕ) → not (option_map_or (λ (b : Binding). has_key index b.keys) (binding_of name (take n lines)) false) ≡ false
      → FindsOne lines done keys (first_of (take n lines) name) name (unwrap_or index 0)
  key_found name index fine =
      let (b, is, has) = known (has_key index) (binding_of name (take n lines)) fine in
      one_found name b (unwrap_or index 0) is (below_count index b.keys has)

  -- a line that may be run finds its keys
  pub FindsAt-fine : (l : Line) → first_cause h (take n lines) l ≡ None → FindsAt lines done keys (place_at (take n lines) l) l
  FindsAt-fine (line.Call t (Later key)) fine = key_found key.name key.index (all_fine h (take n lines) (line.Call t (Later key)) fine).known
  FindsAt-fine (line.Call t (Get key)) fine = key_found key.name key.index (all_fine h (take n lines) (line.Call t (Get key)) fine).known
  FindsAt-fine (line.Call t (Set key class v)) fine = key_found key.name key.index (all_fine h (take n lines) (line.Call t (Set key class v)) fine).known
  FindsAt-fine (line.Call t (Free key)) fine = key_found key.name key.index (all_fine h (take n lines) (line.Call t (Free key)) fine).known
  FindsAt-fine (line.Call t (Sweep name from to)) fine =
      let (b, is, has) = known (has_range from to) (binding_of name (take n lines)) (all_fine h (take n lines) (line.Call t (Sweep name from to)) fine).known in
      λ place low high. one_found name b place is (range_below from to place b.keys has high)
  FindsAt-fine l fine = tt
