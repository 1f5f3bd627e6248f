-- Rows of runs of neighbours, one run after another.
use Rattle.std.proofs.Common.{ℕ, suc, ◌+◌, ◌-◌, ◌/◌, ◌%◌, ◌*◌, ◌<◌, ◌≤◌, ◌≡◌, List, length, drop, take, sym, subst, ◌∙◌, ap, arith, get_or, min, Option, rules}
use Rattle.std.proofs.Math.Nat.{div-add-mod, mod-lt, mul-div_cancel_left, mul_comm, le_of_mul-le-mul_left, mul-add, mul-le-mul_left, mul-sub, mul_assoc, mul-suc}
use Rattle.std.proofs.lemmas.Bool.{cases_lt}
use Rattle.std.proofs.lemmas.List.{drop-drop, drop-take, get_or-drop, get_or-take, length-drop, length-take, take-take}
use Rattle.bitmap.specs.Slots.{SlotSet, has_bit}
use Rattle.bitmap.specs.declared.bits.TheConstants.{SLOTS}
use Rattle.std.specs.FinSet.{contains}
use Rattle.lane_kernels.specs.Rows.{AreSlotRows, padded, row_at, width_of}
use Rattle.span.specs.declared.entry.Entry.{Entry}
use Rattle.mesh_graph.specs.Rows.{AreRowsOfRun, AreSlotsOfRun, HaveRows, IsRun, row_bit}
use Rattle.mesh_graph.specs.declared.by_class.Masks.{Masks}

mul-min : (w a b : ℕ) → min (w * a) (w * b) ≡ w * min a b
mul-min w a b = search (rules, cases_lt, min, mul-le-mul_left)

-- a chunk of so many whole rows, or of those that are left, is a run
pub chunk-is_run : (W run N start len : ℕ) → 1 ≤ W → start % (W * run) ≡ 0 → len ≡ min (W * run) (W * N - start) → start + len ≤ W * N → IsRun W N start len
chunk-is_run W run N start len some whole is ends =
    let k : ℕ = start / (W * run) in
    let first : ℕ = run * k in
    let parted : W * run * k + start % (W * run) ≡ start = div-add-mod start (W * run) in
    let nested : W * run * k ≡ W * first = mul_assoc W run k in
    let at : start ≡ W * first = omega (arith, parted, nested, whole) in
    let count : ℕ = min run (N - first) in
    let long : len ≡ W * count = is ∙ ap (λ s. min (W * run) (W * N - s)) at ∙ ap (min (W * run)) (sym (mul-sub W N first)) ∙ mul-min W run (N - first) in
    let both : W * (first + count) ≡ W * first + W * count = mul-add W first count in
    let far : W * (first + count) ≤ W * N = omega (arith, ends, at, long, both) in
    record {
      first = first;
      count = count;
      some = some;
      start_is = at;
      len_is = long;
      within = le_of_mul-le-mul_left far (omega (arith, some));
    }

-- what holds of each row of each run holds of each row of all
each-joined : (W run N : ℕ) (held : ℕ → List ℕ → Type 0) (before words : List ℕ) → 1 ≤ W → 1 ≤ run → length before ≡ W * N
    → ((n first count k : ℕ) → n * (W * run) < length before → n * (W * run) ≡ W * first → length (take (W * run) (drop (n * (W * run)) before)) ≡ W * count
    → k < count → held (first + k) (row_at W (take (W * run) (drop (n * (W * run)) words)) k))
    → (i : ℕ) → i < N → held i (row_at W words i)
each-joined W run N held before words some filled wide each i low =
    let n : ℕ = i / run in
    let k : ℕ = i % run in
    let first : ℕ = run * n in
    let parted : run * n + i % run ≡ i = div-add-mod i run in
    let inside : k < run = mod-lt i (omega (arith, filled)) in
    let start : ℕ = n * (W * run) in
    let begins : start ≡ W * first = mul_comm n (W * run) ∙ mul_assoc W run n in
    let to_i : W * i ≡ W * first + W * k = ap (λ m. W * m) (sym parted) ∙ mul-add W first k in
    let up_to : W * suc i ≤ W * N = mul-le-mul_left W low in
    let more = mul-suc W i in
    let below : start < length before = omega (arith, begins, to_i, up_to, more, wide, some) in
    let count : ℕ = min run (N - first) in
    let inside_count : k < count = omega (arith, inside, low, parted) in
    let left : length (drop start before) ≡ W * (N - first) = length-drop start before ∙ ap (λ l. l - start) wide ∙ ap (λ s. W * N - s) begins ∙ sym (mul-sub W N first) in
    let long : length (take (W * run) (drop start before)) ≡ W * count = length-take (W * run) (drop start before) ∙ ap (min (W * run)) left ∙ mul-min W run (N - first) in
    let next_row : W * suc k ≤ W * run = mul-le-mul_left W inside in
    let more_k = mul-suc W k in
    let fits : W * k + W ≤ W * run = omega (arith, next_row, more_k) in
    let same : row_at W (take (W * run) (drop start words)) k ≡ row_at W words i =
    ap (take W) (drop-of_take (W * k) (W * run) (drop start words) (omega (arith, fits)))
    ∙ take-take W (W * run - W * k) (drop (W * k) (drop start words)) (omega (arith, fits))
    ∙ ap (take W) (drop-drop (W * k) start words)
    ∙ ap (λ s. take W (drop s words)) (omega (arith, begins, to_i)) in
    subst (λ m. held m (row_at W words i)) parted (subst (held (first + k)) same (each n first count k below begins long inside_count))
  where
    drop-of_take : (m n : ℕ) (l : List ℕ) → m ≤ n → drop m (take n l) ≡ take (n - m) (drop m l)
    drop-of_take m n l low = ap (λ s. drop m (take s l)) (omega (arith, low)) ∙ drop-take m (n - m) l

-- rows whose chunks are the rows of runs are the rows of all
rows-joined : (abandoned : List Entry) (sets : List SlotSet) (masks : Option Masks) (run : ℕ) (before words : List ℕ) → 1 ≤ width_of (length sets) → 1 ≤ run
    → length before ≡ width_of (length sets) * length abandoned → length words ≡ width_of (length sets) * length abandoned
    → ((n : ℕ) → n * (width_of (length sets) * run) < length before
    → AreRowsOfRun abandoned sets masks (n * (width_of (length sets) * run)) (length (take (width_of (length sets) * run) (drop (n * (width_of (length sets) * run)) before)))
    (take (width_of (length sets) * run) (drop (n * (width_of (length sets) * run)) words)))
    → HaveRows abandoned sets masks (length abandoned) words
rows-joined abandoned sets masks run before words some filled wide size each = record {
  size = size;
  bits = λ i j x low. each-joined (width_of (length sets)) run (length abandoned)
      (λ m row. has_bit row j ≡ row_bit sets masks (get_or abandoned m x) j) before words some filled wide
      (λ n first count k below begins long inside.
      (each n below first count begins long).bits k j x inside
      ∙ ap (λ (e : Entry). row_bit sets masks e j) (get_or-take count (drop first abandoned) k x inside ∙ get_or-drop first abandoned k x))
      i low;
}

-- the same, where the words of a chunk are so many
pub rows-joined_by : (abandoned : List Entry) (sets : List SlotSet) (masks : Option Masks) (run size : ℕ) (before words : List ℕ) → 1 ≤ width_of (length sets) → 1 ≤ run
    → size ≡ width_of (length sets) * run
    → length before ≡ width_of (length sets) * length abandoned → length words ≡ width_of (length sets) * length abandoned
    → ((n : ℕ) → n * size < length before
    → AreRowsOfRun abandoned sets masks (n * size) (length (take size (drop (n * size) before))) (take size (drop (n * size) words)))
    → HaveRows abandoned sets masks (length abandoned) words
rows-joined_by abandoned sets masks run size before words some filled is wide long each =
    rows-joined abandoned sets masks run before words some filled wide long
    (subst (λ k. (n : ℕ) → n * k < length before → AreRowsOfRun abandoned sets masks (n * k) (length (take k (drop (n * k) before))) (take k (drop (n * k) words))) is each)

-- slots whose chunks are the rows of runs have all rows
slots-joined : (sets : List SlotSet) (run : ℕ) (before words : List ℕ) → 1 ≤ padded (width_of (length sets)) → 1 ≤ run
    → length before ≡ padded (width_of (length sets)) * SLOTS → length words ≡ padded (width_of (length sets)) * SLOTS
    → ((n : ℕ) → n * (padded (width_of (length sets)) * run) < length before
    → AreSlotsOfRun sets (n * (padded (width_of (length sets)) * run))
    (length (take (padded (width_of (length sets)) * run) (drop (n * (padded (width_of (length sets)) * run)) before)))
    (take (padded (width_of (length sets)) * run) (drop (n * (padded (width_of (length sets)) * run)) words)))
    → AreSlotRows sets words
slots-joined sets run before words some filled wide size each = record {
  size = size;
  bits = λ slot j d low column. each-joined (padded (width_of (length sets))) run SLOTS
      (λ m row. has_bit row j ≡ contains (get_or sets j d) m) before words some filled wide
      (λ n first count k below begins long inside. (each n below first count begins long).bits k j d inside column)
      slot low ∙ ap (contains (get_or sets j d)) (omega arith);
}

-- the same, where the words of a chunk are so many
pub slots-joined_by : (sets : List SlotSet) (run size : ℕ) (before words : List ℕ) → 1 ≤ padded (width_of (length sets)) → 1 ≤ run
    → size ≡ padded (width_of (length sets)) * run
    → length before ≡ padded (width_of (length sets)) * SLOTS → length words ≡ padded (width_of (length sets)) * SLOTS
    → ((n : ℕ) → n * size < length before → AreSlotsOfRun sets (n * size) (length (take size (drop (n * size) before))) (take size (drop (n * size) words)))
    → AreSlotRows sets words
slots-joined_by sets run size before words some filled is wide long each =
    slots-joined sets run before words some filled wide long
    (subst (λ k. (n : ℕ) → n * k < length before → AreSlotsOfRun sets (n * k) (length (take k (drop (n * k) before))) (take k (drop (n * k) words))) is each)

-- a set at least makes a block of words
pub padded-some : (n : ℕ) → 1 ≤ n → 1 ≤ padded (width_of n)
padded-some n some = omega (arith, some)

-- the run's words say where it begins and how many slots it has
module _ (W w n start len : ℕ) (run : IsRun W n start len) (same : w ≡ W) where
  place-of : (m k : ℕ) → m ≡ W * k → m / w ≡ k
  place-of m k is = ap (λ d. m / d) same ∙ ap (λ d. d / W) is ∙ mul-div_cancel_left k (omega (arith, run.some))

  pub run-within : start / w + len / w ≤ n
  run-within = omega (arith, place-of start run.first run.start_is, place-of len run.count run.len_is, run.within)

  pub run-wide : len ≡ W * (len / w)
  run-wide = run.len_is ∙ ap (λ k. W * k) (sym (place-of len run.count run.len_is))

  pub run-first : (first : ℕ) → start ≡ W * first → start / w ≡ first
  run-first first at = place-of start first at

  pub run-count : (count : ℕ) → len ≡ W * count → len / w ≡ count
  run-count count long = place-of len count long

-- the groups of a run, as its words say where they stand
module _ (abandoned : List Entry) (W w start len : ℕ) (run : IsRun W (length abandoned) start len) (same : w ≡ W) where
  part-of : (n m : ℕ) → n ≡ W * m → n / w ≡ m
  part-of = place-of W w (length abandoned) start len run same

  pub cut-is : (first count : ℕ) → start ≡ W * first → len ≡ W * count
      → take (start / w + len / w - start / w) (drop (start / w) abandoned) ≡ take count (drop first abandoned)
  cut-is first count at long = search (rules, part-of)

  pub cut-long : (first count : ℕ) → start ≡ W * first → len ≡ W * count → length (take count (drop first abandoned)) ≡ count
  cut-long first count at long =
      let a : first ≡ run.first = sym (part-of start first at) ∙ part-of start run.first run.start_is in
      let b : count ≡ run.count = sym (part-of len count long) ∙ part-of len run.count run.len_is in
      length-take count (drop first abandoned) ∙ ap (min count) (length-drop first abandoned) ∙ omega (arith, a, b, run.within)

-- the rows of the groups that a run cuts out are those of the run
pub run-from_cut : (abandoned : List Entry) (sets : List SlotSet) (masks : Option Masks) (w start len : ℕ) (words : List ℕ)
    → IsRun (width_of (length sets)) (length abandoned) start len → w ≡ width_of (length sets)
    → HaveRows (take (start / w + len / w - start / w) (drop (start / w) abandoned)) sets masks
    (length (take (start / w + len / w - start / w) (drop (start / w) abandoned))) words
    → AreRowsOfRun abandoned sets masks start len words
run-from_cut abandoned sets masks w start len words run same have first count at long =
    let W : ℕ = width_of (length sets) in
    subst (λ n. HaveRows (take count (drop first abandoned)) sets masks n words) (cut-long abandoned W w start len run same first count at long)
    (subst (λ l. HaveRows l sets masks (length l) words) (cut-is abandoned W w start len run same first count at long) have)
