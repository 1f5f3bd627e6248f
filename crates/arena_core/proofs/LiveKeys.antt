-- The live keys of a core as a list: each key that has a value stands there once.
use Rattle.std.proofs.Common.{◌≡◌, ◌≢◌, ℕ, suc, ◌+◌, ◌-◌, ◌≤◌, T, Bool, true, false, cond, eqb, ◌&&◌, List, [], ◌∷◌, ◌⊎◌, inl, inr, refl, sym, ap, subst, ◌∙◌, arith, Option, Some, None, IsSomeAnd, map, length, length-append, is_some, eq-eqb, count_by, find}
use Rattle.std.specs.FinMap as finmap
use Rattle.std.specs.FinMap.Entries as entry
use Rattle.std.specs.FinSet as finset
use Rattle.std.specs.List.{AllByRecursion, flat_map}
use Rattle.std.specs.Ordering.{is_eq, is_lt, nat_cmp}
use Rattle.std.specs.Cmp.{nat_cmp_total, nat_eq_equiv, unsigned_tied}
use Rattle.std.specs.declared.cmp.Ordering.{Ordering}
use Rattle.std.specs.declared.cmp.Ordering.TheVariants.{Less, Equal, Greater}
use Rattle.std.proofs.lemmas.Bool.{cases_eq, ne_eqb}
use Rattle.std.proofs.lemmas.List.{length-map}
use Rattle.std.proofs.lemmas.List.Sums.{sum_by-cons}
use Rattle.span.proofs.Ids.{same_span-flip}
use Rattle.span.proofs.LegalLogs.{Holds-some}
use Rattle.span.specs.declared.change.Change.{Change}
use Rattle.span.specs.declared.key.Key.{Key}
use Rattle.span.specs.declared.id.SpanId.{SpanId}
use Rattle.span.specs.Ids.{same_span}
use Rattle.span.specs.Log.{Held, Holds, IsLegal, live_slots, replay, value_if, value_in}
use Rattle.span.specs.PlainMap.{same_key}
use Rattle.span.specs.State.{SpanState}
use Rattle.groups.specs.Spans.{live_count}
use Rattle.groups.proofs.Lists.{count-append, count-cons, count-none, find-none, one_where}
use Rattle.arena_core.proofs.Lists.{count_by-map, count_by-same}
use Rattle.arena_core.proofs.Spans.{is_named}

-- entries of a map of slots

less_is_no_tie : (o : Ordering) → T (is_lt o) → is_eq o ≡ false
less_is_no_tie Less lower = refl
less_is_no_tie Equal lower = absurd lower
less_is_no_tie Greater lower = absurd lower

T_first : (a b : Bool) → T (a && b) → T a
T_first true b both = tt
T_first false b both = absurd both

T_second : (a b : Bool) → T (a && b) → T b
T_second true b both = both
T_second false b both = absurd both

find-below_all : (slot : ℕ) (es : List (ℕ × Held)) → T (entry.below_all nat_cmp slot es) → entry.find nat_cmp slot es ≡ None
find-below_all slot [] below = refl
find-below_all slot (e ∷ es) below =
    rw (less_is_no_tie (nat_cmp slot e.0) (T_first _ _ below)) (find-below_all slot es (T_second _ _ below))

-- the slots of rising entries are as many as these
len-from_entries : (es : List (ℕ × Held)) → T (entry.is_sorted nat_cmp es) → finset.len (finset.from_list {R = nat_cmp} (map (λ e. e.0) es)) ≡ length es
len-from_entries [] sorted = finset.len-empty nat_cmp
len-from_entries (e ∷ es) sorted =
    let outside : finset.contains (finset.from_list {R = nat_cmp} (map (λ e. e.0) es)) e.0 ≡ false =
    finset.contains-from_list nat_cmp_total (map (λ e. e.0) es) e.0
    ∙ sym (entry.is_some-find nat_cmp e.0 es)
    ∙ ap is_some (find-below_all e.0 es (T_first _ _ sorted)) in
    let rest : finset.len (finset.from_list {R = nat_cmp} (map (λ e. e.0) es)) ≡ length es = len-from_entries es (T_second (entry.below_all nat_cmp e.0 es) (entry.is_sorted nat_cmp es) sorted) in
    finset.len-insert nat_cmp_total (finset.from_list {R = nat_cmp} (map (λ e. e.0) es)) e.0 ∙ rw (outside, rest) (omega arith)

-- whether what stands there passes, as a count
abbrev count_of : (Held → Bool) → Option Held → ℕ
count_of p None = 0
count_of p (Some held) = cond (p held) 1 0

-- of rising entries one at most has the slot
count_by-slot : (slot : ℕ) (p : Held → Bool) (es : List (ℕ × Held)) → T (entry.is_sorted nat_cmp es) → count_by (λ e. eqb slot e.0 && p e.1) es ≡ count_of p (entry.find nat_cmp slot es)
count_by-slot slot p [] sorted = refl
count_by-slot slot p (e ∷ es) sorted =
    count-cons (λ x. eqb slot x.0 && p x.1) e es
    ∙ ap (λ n. cond {A = ℕ} (eqb slot e.0 && p e.1) 1 0 + n) (count_by-slot slot p es (T_second _ _ sorted))
    ∙ by_slot (cases_eq slot e.0)
    ∙ ap (λ b. count_of p (cond b (Some e.1) (entry.find nat_cmp slot es))) (sym (unsigned_tied slot e.0))
  where
    by_slot : (slot ≡ e.0) ⊎ (slot ≢ e.0)
        → cond {A = ℕ} (eqb slot e.0 && p e.1) 1 0 + count_of p (entry.find nat_cmp slot es)
        ≡ count_of p (cond (eqb slot e.0) (Some e.1) (entry.find nat_cmp slot es))
    by_slot (inl same) =
        let none : entry.find nat_cmp slot es ≡ None = ap (λ n. entry.find nat_cmp n es) same ∙ find-below_all e.0 es (T_first _ _ sorted) in
        rw (none, eq-eqb slot e.0 same) (omega arith)
    by_slot (inr differ) = rw (ne_eqb slot e.0 differ) (omega arith)

-- generations count from 1
generation-from_one : (gens : ℕ) (log : List Change) (slot : ℕ) (held : Held) → IsLegal gens log → finmap.get (replay log) slot ≡ Some held → 1 ≤ held.generation
generation-from_one gens log slot held legal is =
    let holds : Holds log slot held.generation = subst (λ (o : Option Held). IsSomeAnd o (λ found. found.generation ≡ held.generation)) (sym is) refl in
    omega (arith, Holds-some gens log slot held.generation legal holds)

-- the keys of one span

key_at : SpanId → ℕ → ℕ → Key
key_at id slot generation = record { span = id; slot = slot; generation = suc (generation - 1); generation_in_range = omega arith }

keys_of : SpanState → List Key
keys_of span = map (λ e. key_at span.id e.0 e.1.generation) (finmap.entries (replay span.log))

abbrev pub is_live : Key → SpanState → Bool
is_live key span = is_some (value_in span.log key.slot key.generation)

length-keys_of : (span : SpanState) → length (keys_of span) ≡ finset.len (live_slots span.log)
unfolding keys_of live_slots
length-keys_of span =
    rw length-map
    (sym (len-from_entries (finmap.entries (replay span.log)) (finmap.entries_sorted (replay span.log))))

count_of-live : (key : Key) (span : SpanState) (o : Option Held) → ((held : Held) → o ≡ Some held → 1 ≤ held.generation)
    → count_of (λ held. eqb key.generation (suc (held.generation - 1))) o ≡ cond {A = ℕ} (is_some (value_if key.generation o)) 1 0
count_of-live key span None from = refl
count_of-live key span (Some held) from =
    let low : 1 ≤ held.generation = from held refl in
    let same : suc (held.generation - 1) ≡ held.generation = omega arith in
    ap (λ n. cond {A = ℕ} (eqb key.generation n) 1 0) same
    ∙ ap (λ b. cond {A = ℕ} b 1 0) (nat_eq_equiv.symm key.generation held.generation ∙ by_test (eqb held.generation key.generation))
  where
    by_test : (b : Bool) → b ≡ is_some (cond b (Some held.value) None)
    by_test true = refl
    by_test false = refl

-- a key stands among those of its span, where it is live there
count-keys_of : (key : Key) (gens : ℕ) (span : SpanState) → IsLegal gens span.log → same_span key.span span.id ≡ true → count_by (same_key key) (keys_of span) ≡ cond {A = ℕ} (is_live key span) 1 0
unfolding keys_of key_at
count-keys_of key gens span legal named =
    count_by-map (same_key key) (λ e. key_at span.id e.0 e.1.generation) (finmap.entries (replay span.log))
    ∙ count_by-same (λ (e : ℕ × Held). same_key key (key_at span.id e.0 e.1.generation))
    (λ (e : ℕ × Held). eqb key.slot e.0 && eqb key.generation (suc (e.1.generation - 1))) (finmap.entries (replay span.log))
    (λ e. ap (λ b. b && (eqb key.slot e.0 && eqb key.generation (suc (e.1.generation - 1)))) named)
    ∙ count_by-slot key.slot (λ held. eqb key.generation (suc (held.generation - 1))) (finmap.entries (replay span.log)) (finmap.entries_sorted (replay span.log))
    ∙ ap (count_of (λ held. eqb key.generation (suc (held.generation - 1)))) (sym (finmap.get-entries (replay span.log) key.slot))
    ∙ count_of-live key span (finmap.get (replay span.log) key.slot) (λ held is. generation-from_one gens span.log key.slot held legal is)

count-keys_of_other : (key : Key) (span : SpanState) → same_span key.span span.id ≡ false → count_by (same_key key) (keys_of span) ≡ 0
unfolding keys_of key_at
count-keys_of_other key span other =
    count_by-map (same_key key) (λ e. key_at span.id e.0 e.1.generation) (finmap.entries (replay span.log))
    ∙ count-none (λ (e : ℕ × Held). same_key key (key_at span.id e.0 e.1.generation)) (finmap.entries (replay span.log))
    (λ at e here. ap (λ b. b && (eqb key.slot e.0 && eqb key.generation (suc (e.1.generation - 1)))) other)

-- the keys of many spans

pub keys_in : List SpanState → List Key
keys_in spans = flat_map keys_of spans

abbrev pub IsLegalSpan : SpanState → Type 0
IsLegalSpan span = IsLegal span.gens span.log

pub length-keys_in : (spans : List SpanState) → length (keys_in spans) ≡ live_count spans
unfolding keys_in
length-keys_in [] = refl
length-keys_in (span ∷ spans) =
    length-append (keys_of span) (flat_map keys_of spans)
    ∙ omega (arith, length-keys_of span, length-keys_in spans)
    ∙ sym (sum_by-cons (λ (s : SpanState). finset.len (live_slots s.log)) span spans)

-- whether the key is live in the span, where there is one, as a count
abbrev pub live_where : Key → Option SpanState → ℕ
live_where key None = 0
live_where key (Some span) = cond {A = ℕ} (is_live key span) 1 0

pub count-keys_in : (key : Key) (spans : List SpanState) → AllByRecursion IsLegalSpan spans → count_by (is_named key.span) spans ≤ 1
    → count_by (same_key key) (keys_in spans) ≡ live_where key (find (is_named key.span) spans)
unfolding keys_in
count-keys_in key [] legal once = refl
count-keys_in key (span ∷ spans) legal once =
    count-append (same_key key) (keys_of span) (flat_map keys_of spans)
    ∙ by_name (is_named key.span span) refl (count-keys_in key spans legal.1)
  where
    total : count_by (is_named key.span) (span ∷ spans) ≡ cond {A = ℕ} (is_named key.span span) 1 0 + count_by (is_named key.span) spans
    total = count-cons (is_named key.span) span spans

    by_name : (b : Bool) → is_named key.span span ≡ b → (count_by (is_named key.span) spans ≤ 1 → count_by (same_key key) (flat_map keys_of spans) ≡ live_where key (find (is_named key.span) spans))
        → count_by (same_key key) (keys_of span) + count_by (same_key key) (flat_map keys_of spans) ≡ live_where key (cond b (Some span) (find (is_named key.span) spans))
    by_name true here rest =
        let none : count_by (is_named key.span) spans ≡ 0 = omega (arith, total, one_where (is_named key.span span) here) in
        let later : count_by (same_key key) (flat_map keys_of spans) ≡ 0 = rest (omega arith) ∙ ap (live_where key) (find-none (is_named key.span) spans none) in
        omega (arith, later, count-keys_of key span.gens span legal.0 (same_span-flip key.span span.id ∙ here))
    by_name false other rest =
        let few : count_by (is_named key.span) spans ≤ 1 = omega (arith, total) in
        omega (arith, rest few, count-keys_of_other key span (same_span-flip key.span span.id ∙ other))
