-- What puts gave, with one put more, and how a key is found in it.
use Rattle.trace_runner.proofs.Names.{zero, suc, ◌≡◌, ◌∙◌, ℕ, ◌+◌, ◌-◌, ◌^◌, ◌<◌, ◌≤◌, List, [], ◌∷◌, ◌++◌, Option, Some, None, ap, append_assoc, arith, drop, get_or, length, length-append, map, refl, replicate, slice_get, subst, sym, take, flat_map, drop-length, get_or-append_right, flat_map-append, append-nil, drop-append-le, length-map, length-replicate, length-take-le, map-append, take-append-le, take_all, Key, AreInRow, all_given, given_in, Stretch}
use Rattle.std.proofs.Math.ListN.{get_or-append, get_or-eq_default}
use Rattle.std.proofs.lemmas.List.{length-drop}

-- ---- the last stretch

get_or-Nones : {X : Type 0} (n i : ℕ) → get_or (replicate {A = Option X} n None) i None ≡ None
get_or-Nones (suc n) (suc i) = get_or-Nones n i
get_or-Nones n i = refl

get_or-last : (keys : List Key) (refused i : ℕ) → get_or (map Some keys ++ replicate refused None) i None ≡ slice_get keys i
get_or-last [] refused i = get_or-Nones refused i
get_or-last (key ∷ keys) refused zero = refl
get_or-last (key ∷ keys) refused (suc i) = get_or-last keys refused i

slice_get-drop : {X : Type 0} (n i : ℕ) (xs : List X) → slice_get (drop n xs) i ≡ slice_get xs (n + i)
slice_get-drop zero i xs = ap (slice_get xs) (omega arith)
slice_get-drop (suc n) i [] = refl
slice_get-drop (suc n) i (x ∷ xs) =
    let next : suc n + i ≡ suc (n + i) = omega arith in
    slice_get-drop n i xs ∙ ap (slice_get (x ∷ xs)) (sym next)

-- ---- stretches in a row

pub row_ends : (closed : List Stretch) (place above end last : ℕ) → AreInRow place above closed end last → (place ≤ end) × (above ≤ last)
row_ends [] place above end last row = (omega (arith, row.0), omega (arith, row.1))
row_ends (stretch ∷ more) place above end last row =
    let later = row_ends more (place + (stretch.given + stretch.refused)) (above + stretch.given) end last row.1.1 in
    (omega (arith, later.0), omega (arith, later.1))

row_from : (closed : List Stretch) (place above end last index : ℕ) (one : Stretch) → AreInRow place above closed end last → slice_get closed index ≡ Some one → place ≤ one.place
row_from [] place above end last index one row here = absurd cc
row_from (stretch ∷ more) place above end last zero one row here =
    let same : stretch ≡ one = cc in
    omega (arith, row.0, ap (λ (s : Stretch). s.place) same)
row_from (stretch ∷ more) place above end last (suc index) one row here = omega
    (arith, row_from more (place + (stretch.given + stretch.refused)) (above + stretch.given) end last index one row.1.1 here)

length-given_in : (keys : List Key) (stretch : Stretch) → stretch.above + stretch.given ≤ length keys → length (given_in keys stretch) ≡ stretch.given + stretch.refused
length-given_in keys stretch within =
    let enough : stretch.given ≤ length (drop stretch.above keys) = omega (arith, within, length-drop stretch.above keys) in
    length-append (map Some (take stretch.given (drop stretch.above keys))) (replicate stretch.refused None)
    ∙ (λ i. (length-map (take stretch.given (drop stretch.above keys)) Some ∙ length-take-le stretch.given (drop stretch.above keys) enough) i
    + length-replicate {A = Option Key} stretch.refused None i)

-- the puts of closed stretches are those above the last one
pub length-row : (keys : List Key) (closed : List Stretch) (place above end last : ℕ) → AreInRow place above closed end last → last ≤ length keys
    → place + length (flat_map (given_in keys) closed) ≡ end
length-row keys [] place above end last row few = omega (arith, row.0)
length-row keys (stretch ∷ more) place above end last row few =
    let later = length-row keys more (place + (stretch.given + stretch.refused)) (above + stretch.given) end last row.1.1 few in
    let ends = row_ends more (place + (stretch.given + stretch.refused)) (above + stretch.given) end last row.1.1 in
    omega (arith, later, row.1.0, length-given_in keys stretch (omega (arith, ends.1, few, row.1.0)), length-append (given_in keys stretch) (flat_map (given_in keys) more))

-- the put at a place that comes after a stretch's first and before the next stretch is one of that stretch
get_or-row : (keys : List Key) (closed : List Stretch) (at below end last index place : ℕ) (one : Stretch) → AreInRow at below closed end last → last ≤ length keys → slice_get closed index ≡ Some one
    → one.place ≤ place → place < end → ((other : ℕ) (next : Stretch) → index < other → slice_get closed other ≡ Some next → place < next.place)
    → (at ≤ one.place) × ((one.above + one.given ≤ length keys) × (get_or (flat_map (given_in keys) closed) (place - at) None ≡ get_or (given_in keys one) (place - one.place) None))
get_or-row keys [] at below end last index place one row few here from less next = absurd cc
get_or-row keys (stretch ∷ more) at below end last zero place one row few here from less next =
    let same : stretch ≡ one = cc in
    let ends = row_ends more (at + (stretch.given + stretch.refused)) (below + stretch.given) end last row.1.1 in
    let within : stretch.above + stretch.given ≤ length keys = omega (arith, ends.1, few, row.1.0) in
    let inside : place - at < length (given_in keys stretch) = omega (arith, length-given_in keys stretch within, before stretch more row next, from, ap (λ (s : Stretch). s.place) same, row.0) in
    let first : get_or (given_in keys stretch ++ flat_map (given_in keys) more) (place - at) None
    ≡ get_or (given_in keys stretch) (place - at) None = get_or-append (given_in keys stretch) (flat_map (given_in keys) more) None (place - at) inside in (
      omega (arith, row.0, ap (λ (s : Stretch). s.place) same),
      (
        omega (arith, within, ap (λ (s : Stretch). s.above) same, ap (λ (s : Stretch). s.given) same),
        first ∙ (λ i. get_or (given_in keys (same i)) (place - (sym row.0 ∙ ap (λ (s : Stretch). s.place) same) i) None),
      ),
    ) where
      before : (s : Stretch) (rest : List Stretch) → AreInRow at below (s ∷ rest) end last
          → ((other : ℕ) (after : Stretch) → 0 < other → slice_get (s ∷ rest) other ≡ Some after → place < after.place) → place < at + (s.given + s.refused)
      before s [] r after = omega (arith, r.1.1.0, less)
      before s (t ∷ rest) r after = omega (arith, after 1 t (omega arith) refl, r.1.1.0)
get_or-row keys (stretch ∷ more) at below end last (suc index) place one row few here from less next =
    let later = get_or-row keys more (at + (stretch.given + stretch.refused)) (below + stretch.given) end last index place one row.1.1 few here from less
    (λ other after above there. next (suc other) after (omega (arith, above)) there) in
    let ends = row_ends more (at + (stretch.given + stretch.refused)) (below + stretch.given) end last row.1.1 in
    let long : length (given_in keys stretch) ≡ stretch.given + stretch.refused = length-given_in keys stretch (omega (arith, ends.1, few, row.1.0)) in
    let past : length (given_in keys stretch) ≤ place - at = omega (arith, long, later.0, from) in
    let left : place - at - length (given_in keys stretch) ≡ place - (at + (stretch.given + stretch.refused)) = omega (arith, long, later.0, from) in (
      omega (arith, later.0),
      (
        later.1.0,
        get_or-append_right (given_in keys stretch) (flat_map (given_in keys) more) (place - at) None past ∙ ap (λ n. get_or (flat_map (given_in keys) more) n None) left ∙ later.1.1,
      ),
    )

-- a closed stretch's keys are among those above the last one
pub row_last : (closed : List Stretch) (place above end last index : ℕ) (one : Stretch) → AreInRow place above closed end last → slice_get closed index ≡ Some one → one.above + one.given ≤ last
row_last [] place above end last index one row here = absurd cc
row_last (stretch ∷ more) place above end last zero one row here =
    let same : stretch ≡ one = cc in
    let ends = row_ends more (place + (stretch.given + stretch.refused)) (above + stretch.given) end last row.1.1 in
    omega (arith, ends.1, row.1.0, ap (λ (s : Stretch). s.above) same, ap (λ (s : Stretch). s.given) same)
row_last (stretch ∷ more) place above end last (suc index) one row here = row_last more (place + (stretch.given + stretch.refused)) (above + stretch.given) end last index one row.1.1 here

-- they begin one below another
pub row_ascends : (closed : List Stretch) (place above end last low high : ℕ) (a b : Stretch) → AreInRow place above closed end last → low < high
    → slice_get closed low ≡ Some a → slice_get closed high ≡ Some b → a.place ≤ b.place
row_ascends [] place above end last low high a b row less first second = absurd cc
row_ascends (stretch ∷ more) place above end last low zero a b row less first second = absurd (omega (arith, less))
row_ascends (stretch ∷ more) place above end last zero (suc high) a b row less first second =
    let same : stretch ≡ a = cc in
    omega (arith, row.0, ap (λ (s : Stretch). s.place) same, row_from more (place + (stretch.given + stretch.refused)) (above + stretch.given) end last high b row.1.1 second)
row_ascends (stretch ∷ more) place above end last (suc low) (suc high) a b row less first second = row_ascends more (place + (stretch.given + stretch.refused))
    (above + stretch.given) end last low high a b row.1.1 (omega (arith, less)) first second

-- some stretch begins at a place above the end, or above it
pub row_begins : (closed : List Stretch) (end last place : ℕ) → AreInRow 0 0 closed end last → place < end
    → ((other : ℕ) (one : Stretch) → 0 ≤ other → slice_get closed other ≡ Some one → place < one.place) → ⊥
row_begins [] end last place row less none = omega (arith, row.0, less)
row_begins (stretch ∷ more) end last place row less none = omega (arith, none 0 stretch (omega arith) refl, row.0)

-- so the put at a place above the end is one of the last stretch that begins at that place or above it
pub get_or-found : (keys : List Key) (closed : List Stretch) (end last count place : ℕ) (one : Stretch) → AreInRow 0 0 closed end last → place < end
    → last ≤ length keys → slice_get closed (count - 1) ≡ Some one → 0 < count
    → ((other : ℕ) (next : Stretch) → other < count → slice_get closed other ≡ Some next → next.place ≤ place)
    → ((other : ℕ) (next : Stretch) → count ≤ other → slice_get closed other ≡ Some next → place < next.place)
    → (one.place ≤ place) × ((one.above + one.given ≤ length keys) × (get_or (flat_map (given_in keys) closed) place None ≡ get_or (given_in keys one) (place - one.place) None))
get_or-found keys closed end last count place one row less few here some above others =
    let from : one.place ≤ place = above (count - 1) one (omega (arith, some)) here in
    let found = get_or-row keys closed 0 0 end last (count - 1) place one row few here from less (λ other next below there. others other next (omega (arith, below, some)) there) in
    (from, (found.1.0, ap (λ n. get_or (flat_map (given_in keys) closed) n None) (omega arith) ∙ found.1.1))

-- ---- the put at a place

-- a put of the last stretch
pub get_or-all_last : (keys : List Key) (closed : List Stretch) (place above refused at : ℕ) → AreInRow 0 0 closed place above → above ≤ length keys → place ≤ at
    → get_or (all_given keys closed above refused).items at None ≡ slice_get keys (above + (at - place))
get_or-all_last keys closed place above refused at row within from =
    let long : length (flat_map (given_in keys) closed) ≡ place = omega (arith, length-row keys closed 0 0 place above row within) in
    let past : length (flat_map (given_in keys) closed) ≤ at = omega (arith, long, from) in
    get_or-append_right (flat_map (given_in keys) closed) (map Some (drop above keys) ++ replicate refused None) at None past
    ∙ (get_or-last (drop above keys) refused (at - length (flat_map (given_in keys) closed))
    ∙ (ap (λ n. slice_get (drop above keys) (at - n)) long ∙ slice_get-drop above (at - place) keys))

-- a put of another one
pub get_or-all_closed : (keys : List Key) (closed : List Stretch) (place above refused at : ℕ) → AreInRow 0 0 closed place above → above ≤ length keys → at < place
    → get_or (all_given keys closed above refused).items at None ≡ get_or (flat_map (given_in keys) closed) at None
get_or-all_closed keys closed place above refused at row within less =
    let inside : at < length (flat_map (given_in keys) closed) = omega (arith, length-row keys closed 0 0 place above row within, less) in
    get_or-append (flat_map (given_in keys) closed) (map Some (drop above keys) ++ replicate refused None) None at inside

-- a put of a stretch that gave a key out, and one that was refused
pub get_or-given : (keys : List Key) (stretch : Stretch) (at : ℕ) → stretch.above + stretch.given ≤ length keys → at < stretch.given
    → get_or (given_in keys stretch) at None ≡ slice_get keys (stretch.above + at)
get_or-given keys stretch at within less =
    get_or-last (take stretch.given (drop stretch.above keys)) stretch.refused at ∙ (slice_get-take stretch.given at (drop stretch.above keys) less ∙ slice_get-drop stretch.above at keys) where
      slice_get-take : {X : Type 0} (n i : ℕ) (xs : List X) → i < n → slice_get (take n xs) i ≡ slice_get xs i
      slice_get-take zero i xs below = absurd (omega (arith, below))
      slice_get-take (suc n) zero (x ∷ xs) below = refl
      slice_get-take (suc n) (suc i) (x ∷ xs) below = slice_get-take n i xs (omega (arith, below))
      slice_get-take (suc n) i xs below = refl

pub get_or-refused : (keys : List Key) (stretch : Stretch) (at : ℕ) → stretch.given ≤ at → get_or (given_in keys stretch) at None ≡ None
get_or-refused keys stretch at past =
    get_or-last (take stretch.given (drop stretch.above keys)) stretch.refused at ∙ slice_get-take-past stretch.given at (drop stretch.above keys) past where
      slice_get-take-past : {X : Type 0} (n i : ℕ) (xs : List X) → n ≤ i → slice_get (take n xs) i ≡ None
      slice_get-take-past (suc n) zero (x ∷ xs) above = absurd (omega (arith, above))
      slice_get-take-past (suc n) (suc i) (x ∷ xs) above = slice_get-take-past n i xs (omega (arith, above))
      slice_get-take-past n i xs above = refl

-- ---- how many there are

pub length-all : (keys : List Key) (closed : List Stretch) (place above refused : ℕ) → AreInRow 0 0 closed place above → above ≤ length keys
    → length (all_given keys closed above refused).items ≡ place + (length keys - above) + refused
length-all keys closed place above refused row within =
    omega (
      arith,
      length-row keys closed 0 0 place above row within,
      length-append (flat_map (given_in keys) closed) (map Some (drop above keys) ++ replicate refused None),
      length-append (map Some (drop above keys)) (replicate {A = Option Key} refused None),
      length-map {B = Option Key} (drop above keys) Some,
      length-drop above keys,
      length-replicate {A = Option Key} refused None,
    )

-- puts above the last stretch gave no more keys out than there are puts
pub row_apart : (closed : List Stretch) (place above end last : ℕ) → AreInRow place above closed end last → last + place ≤ end + above
row_apart [] place above end last row = omega (arith, row.0, row.1)
row_apart (stretch ∷ more) place above end last row = omega (arith, row_apart more (place + (stretch.given + stretch.refused)) (above + stretch.given) end last row.1.1)

-- no put stands at a place that no number counts
pub get_or-beyond : (keys : List Key) (closed : List Stretch) (place above refused at : ℕ) → AreInRow 0 0 closed place above → above ≤ length keys
    → place + refused ≤ above + 2 ^ 63 → length keys < 2 ^ 63 → 2 ^ 64 ≤ at
    → get_or (all_given keys closed above refused).items at None ≡ None
get_or-beyond keys closed place above refused at row within few small beyond =
    get_or-eq_default (all_given keys closed above refused).items None (omega (arith, length-all keys closed place above refused row within, within, few, small, beyond))

-- ---- one put more

-- a key more is none of a closed stretch
row-key : (keys : List Key) (key : Key) (closed : List Stretch) (place above end last : ℕ) → AreInRow place above closed end last → last ≤ length keys
    → flat_map (given_in (keys ++ key ∷ [])) closed ≡ flat_map (given_in keys) closed
row-key keys key [] place above end last row few = refl
row-key keys key (stretch ∷ more) place above end last row few =
    let ends = row_ends more (place + (stretch.given + stretch.refused)) (above + stretch.given) end last row.1.1 in
    let dropped : drop stretch.above (keys ++ key ∷ []) ≡ drop stretch.above keys ++ key ∷ [] = drop-append-le stretch.above keys (key ∷ []) (omega (arith, ends.1, few, row.1.0)) in
    let taken : take stretch.given (drop stretch.above keys ++ key ∷ []) ≡ take stretch.given (drop stretch.above keys) =
    take-append-le stretch.given (drop stretch.above keys) (key ∷ []) (omega (arith, ends.1, few, row.1.0, length-drop stretch.above keys)) in
    let one : given_in (keys ++ key ∷ []) stretch ≡ given_in keys stretch = ap (λ l. map Some l ++ replicate stretch.refused None) (ap (take stretch.given) dropped ∙ taken) in
    let others = row-key keys key more (place + (stretch.given + stretch.refused)) (above + stretch.given) end last row.1.1 few in
    λ i. one i ++ others i

-- one that gave a key out, where the last stretch has none that was refused
pub all_given-key : (keys : List Key) (key : Key) (closed : List Stretch) (place above : ℕ) → AreInRow 0 0 closed place above → above ≤ length keys
    → (all_given (keys ++ key ∷ []) closed above 0).items ≡ (all_given keys closed above 0).items ++ Some key ∷ []
all_given-key keys key closed place above row within =
    let dropped : drop above (keys ++ key ∷ []) ≡ drop above keys ++ key ∷ [] = drop-append-le above keys (key ∷ []) within in
    let last : map Some (drop above (keys ++ key ∷ [])) ++ [] ≡ (map Some (drop above keys) ++ []) ++ Some key ∷ [] =
    append-nil (map Some (drop above (keys ++ key ∷ [])))
    ∙ (ap (map Some) dropped ∙ (map-append Some (drop above keys) (key ∷ [])
    ∙ ap (λ l. l ++ Some key ∷ []) (sym (append-nil (map Some (drop above keys)))))) in
    (λ i. row-key keys key closed 0 0 place above row within i ++ last i) ∙ sym (append_assoc (flat_map (given_in keys) closed) (map Some (drop above keys) ++ []) (Some key ∷ []))

-- ---- a stretch that is closed

pub AreInRow-push : (closed : List Stretch) (place above end last : ℕ) (one : Stretch) → AreInRow place above closed end last → one.place ≡ end → one.above ≡ last
    → AreInRow place above (closed ++ one ∷ []) (end + (one.given + one.refused)) (last + one.given)
AreInRow-push [] place above end last one row at below = (at ∙ sym row.0, (below ∙ sym row.1, (ap (λ n. n + (one.given + one.refused)) row.0, ap (λ n. n + one.given) row.1)))
AreInRow-push (stretch ∷ more) place above end last one row at below =
    (row.0, (row.1.0, AreInRow-push more (place + (stretch.given + stretch.refused)) (above + stretch.given) end last one row.1.1 at below))

pub all_given-closed : (keys : List Key) (closed : List Stretch) (place above refused : ℕ) → above ≤ length keys
    → (all_given keys (closed ++ record { place = place; above = above; given = length keys - above; refused = refused } ∷ []) (length keys) 0).items ≡ (all_given keys closed above refused).items
all_given-closed keys closed place above refused within =
    let one : Stretch = record { place = place; above = above; given = length keys - above; refused = refused } in
    let whole : take (length keys - above) (drop above keys) ≡ drop above keys = take_all (length keys - above) (drop above keys) (omega (arith, length-drop above keys)) in
    let in_one : given_in keys one ≡ map Some (drop above keys) ++ replicate refused None = ap (λ l. map Some l ++ replicate refused None) whole in
    let none : map Some (drop (length keys) keys) ++ [] ≡ [] = ap (λ l. map Some l ++ []) (drop-length keys) in
    ap (λ l. flat_map (given_in keys) (closed ++ one ∷ []) ++ l) none
    ∙ (append-nil (flat_map (given_in keys) (closed ++ one ∷ []))
    ∙ (flat_map-append (given_in keys) closed (one ∷ []) ∙ ap (λ l. flat_map (given_in keys) closed ++ l) (append-nil (given_in keys one) ∙ in_one)))

-- the last stretch was closed, and nothing else is in the next
pub AreInRow-closed : (keys : List Key) (closed new : List Stretch) (place above refused count next below : ℕ) → AreInRow 0 0 closed place above → above ≤ length keys → count ≡ length keys
    → new ≡ closed ++ record { place = place; above = above; given = count - above; refused = refused } ∷ [] → next ≡ place + (count - above) + refused → below ≡ count → AreInRow 0 0 new next below
AreInRow-closed keys closed new place above refused count next below row within counted is to all =
    let one : Stretch = record { place = place; above = above; given = count - above; refused = refused } in
    let pushed : AreInRow 0 0 (closed ++ one ∷ []) (place + (count - above + refused)) (above + (count - above)) = AreInRow-push closed 0 0 place above one row refl refl in
    let end : place + (count - above + refused) ≡ next = omega (arith, to) in
    let last : above + (count - above) ≡ below = omega (arith, within, counted, all) in
    subst (λ l. AreInRow 0 0 l next below) (sym is)
    (subst (λ n. AreInRow 0 0 (closed ++ one ∷ []) n below) end
    (subst (λ n. AreInRow 0 0 (closed ++ one ∷ []) (place + (count - above + refused)) n) last pushed))

-- and a key was given out then
pub all_given-next : (keys later : List Key) (key : Key) (closed new : List Stretch) (place above refused count next below : ℕ)
    → AreInRow 0 0 closed place above → above ≤ length keys → count ≡ length keys
    → new ≡ closed ++ record { place = place; above = above; given = count - above; refused = refused } ∷ [] → next ≡ place + (count - above) + refused → below ≡ count → later ≡ keys ++ key ∷ []
    → (all_given later new below 0).items ≡ (all_given keys closed above refused).items ++ Some key ∷ []
all_given-next keys later key closed new place above refused count next below row within counted is to all more =
    let whole : below ≡ length keys = all ∙ counted in
    let in_row : AreInRow 0 0 new next below = AreInRow-closed keys closed new place above refused count next below row within counted is to all in
    let one : new ≡ closed ++ record {
      place = place;
      above = above;
      given = length keys - above;
      refused = refused;
    } ∷ [] = is ∙ ap (λ n. closed ++ record { place = place; above = above; given = n - above; refused = refused } ∷ []) counted in
    let same : (all_given keys new below 0).items ≡ (all_given keys closed above refused).items =
    (λ i. (all_given keys (one i) (whole i) 0).items) ∙ all_given-closed keys closed place above refused within in
    ap (λ l. (all_given l new below 0).items) more ∙ (all_given-key keys key new next below in_row (omega (arith, whole)) ∙ ap (λ l. l ++ Some key ∷ []) same)
