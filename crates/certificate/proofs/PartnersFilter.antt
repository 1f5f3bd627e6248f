-- The partners of a short set, group by group.
use Rattle.std.proofs.lemmas.Grind.{common_steps}
use Rattle.std.proofs.Common.{◌≡◌, ℕ, ◌+◌, ◌*◌, ◌^◌, ◌<◌, ◌≤◌, ◌==◌, ◌&&◌, ◌||◌, Bool, true, false, not, cond, List, [], ◌∷◌, ◌++◌, None, length, map, take, count_by, get_or, ap, refl, sym, ◌∙◌, zero, suc, inl, inr, arith, eq-eqb, lt-ltb, nat_lt, rules}
use Rattle.std.specs.List.{filter, flat_map, list_any, slice_get}
use Rattle.std.proofs.Math.Bool.{or-false}
use Rattle.std.proofs.Math.Nat.{mul-le-mul_left, mul-suc}
use Rattle.std.proofs.Math.Seq.{take-suc}
use Rattle.std.proofs.lemmas.Bool.{cases_Bool, cases_eq, cases_lt, false_from_ne_true, le-ltb, ne_eqb, or_parts}
use Rattle.std.proofs.lemmas.Grind.{flat_map-append}
use Rattle.std.proofs.lemmas.List.{append_assoc, append-nil, get_or_default, get_or_past, length-map, map-append}
use Rattle.std.proofs.lemmas.List.Filters.{length-filter_more}
use Rattle.std.proofs.lemmas.List.Concat.{flat_map-cons}
use Rattle.std.proofs.lemmas.List.Elements.{filter_more}
use Rattle.std.proofs.lemmas.List.Folds.{list_any-append, list_any_none}
use Rattle.std.proofs.lemmas.List.Sums.{sum_by-cons}
use Rattle.span.specs.declared.id.SpanId.{SpanId}
use Rattle.span.specs.Classes.{number_of, width_of}
use Rattle.span.specs.Ids.{same_span}
use Rattle.span.specs.declared.class.TheConstants.{CLASSES}
use Rattle.span.proofs.Widths.{number_of-most, number_of-width}
use Rattle.bitmap.specs.Slots.{SlotSet, has_bit}
use Rattle.mesh_graph.specs.Rows.{HaveRows}
use Rattle.lane_kernels.specs.Rows.{row_at, width_of as row_words}
use Rattle.lane_kernels.proofs.Rows.{some_fits}
use Rattle.certificate.specs.Chosen.{fits_among, fits_any, fits_some, groups_with, is_of_class, members_in, sets_of}
use Rattle.certificate.specs.declared.partner.Members.{Members}
use Rattle.span.specs.declared.entry.Entry.{Entry}
use Rattle.mesh_graph.specs.Groups.{Groups, IsAscending, any_compatible, has_id, ids}
use Rattle.span.specs.Entries.{are_compatible}
use Rattle.lane_kernels.specs.Disjoint.{are_disjoint, fits}
use Rattle.mesh_graph.proofs.Entries.{any_at}
use Rattle.certificate.specs.Plans.{partners_of, sides_of}
use Rattle.certificate.proofs.Needs.{list_any-map}
use Rattle.certificate.proofs.Places.{IsAscending-drop, place-same}
use Rattle.certificate.proofs.Verdicts.{tells_span}

-- whether an owned group is a partner: some abandoned group of the short set is compatible with it
pub is_partner-at : (s : Groups) (short : List SpanId) (j : ℕ) (y : Entry) → IsAscending (ids s.owned) → j < length s.owned → y ≡ get_or s.owned j y
    → list_any (λ a. any_compatible s a y.id) short ≡ fits_any s.abandoned short y
is_partner-at s short j y up l is =
    let itself : same_span (get_or s.owned j y).id y.id ≡ true = ap (λ (z : Entry). same_span z.id y.id) (sym is) ∙ tells_span.itself y.id in
    let inner : (x : Entry) → list_any (λ z. same_span z.id y.id && are_compatible x z) s.owned
    ≡ are_compatible x y = λ x. any_at s.owned y.id (are_compatible x) j y up l itself ∙ ap (are_compatible x) (sym is) in
    (λ k. list_any (λ a. list_any (λ x. same_span x.id a && inner x k) s.abandoned) short)

-- a filter of what a list is mapped to, where the tests agree on its members
filter-map : {X K : Type 0} (test : K → Bool) (f : X → K) (own : X → Bool) (xs : List X)
    → ((j : ℕ) (x : X) → j < length xs → x ≡ get_or xs j x → test (f x) ≡ own x) → filter test (map f xs) ≡ map f (filter own xs)
filter-map test f own [] same = refl
filter-map test f own (x ∷ xs) same =
    let rest : filter test (map f xs) ≡ map f (filter own xs) = filter-map test f own xs (λ j y l is. same (suc j) y (omega arith) is) in
    ap (λ b. cond b (f x ∷ filter test (map f xs)) (filter test (map f xs))) (same zero x (omega arith) refl)
    ∙ elim (cases_Bool (own x)) [
      | inl e ↦ rw e (ap (λ ys. f x ∷ ys) rest)
      | inr e ↦ rw e rest
    ]

count-filter : {X : Type 0} (test : X → Bool) (xs : List X) → count_by test xs ≡ length (filter test xs)
count-filter test [] = refl
count-filter test (x ∷ xs) = grind (arith, common_steps, sum_by-cons, (count-filter test xs))

-- some member of a filter
any-filter : {X : Type 0} (p q : X → Bool) (xs : List X) → list_any q (filter p xs) ≡ list_any (λ x. p x && q x) xs
any-filter p q [] = refl
any-filter p q (x ∷ xs) = search (rules, cases_Bool, (any-filter p q xs))

any-flat_map : {X Y : Type 0} (test : Y → Bool) (f : X → List Y) (xs : List X) → list_any test (flat_map f xs) ≡ list_any (λ x. list_any test (f x)) xs
any-flat_map test f [] = refl
any-flat_map test f (x ∷ xs) = search (rules, flat_map-cons, list_any-append, (any-flat_map test f xs))

-- two groups are of one class if their classes have one number
same_number : (x y : Entry) → (number_of x.class == number_of y.class) ≡ (width_of x.class == width_of y.class)
same_number x y = search (rules, cases_eq, eq-eqb, number_of-width, ne_eqb)

-- the members are the sets of the chosen groups, class by class
abbrev pub AreMembers : Members → List Entry → List SpanId → Type 0
AreMembers members abandoned chosen = (number : ℕ) → number < CLASSES → members_in members number ≡ sets_of number (flat_map (groups_with abandoned) chosen)

-- whether a group is compatible with a group of one of the ids, by the sets of those of its class
pub fits_some-members : (members : Members) (abandoned : List Entry) (chosen : List SpanId) → AreMembers members abandoned chosen → (y : Entry) → fits_some members y ≡ fits_any abandoned chosen y
fits_some-members members abandoned chosen are y = search (rules, number_of-most, list_any-map, any-filter, same_number, any-flat_map)

-- the groups that are
pub filter-members : (members : Members) (abandoned owned : List Entry) (chosen : List SpanId) → AreMembers members abandoned chosen
    → filter (fits_some members) owned ≡ filter (λ y. fits_any abandoned chosen y) owned
filter-members members abandoned owned chosen are k = filter (λ y. fits_some-members members abandoned chosen are y k) owned

-- the groups with an id: none where no group has it
pub groups_with-none : (abandoned : List Entry) (id : SpanId) → has_id abandoned id ≡ false → groups_with abandoned id ≡ []
groups_with-none [] id none = refl
groups_with-none (x ∷ xs) id none = search (rules, or_parts, (groups_with-none xs id))

-- and else the one that has it
pub groups_with-at : (abandoned : List Entry) (id : SpanId) (p : ℕ) (x : Entry) → IsAscending (ids abandoned) → p < length abandoned → x ≡ get_or abandoned p x → same_span x.id id ≡ true
    → groups_with abandoned id ≡ x ∷ []
groups_with-at [] id p x up within is same = absurd (omega arith)
groups_with-at (y ∷ ys) id zero x up within is same =
    let first : same_span y.id id ≡ true = ap (λ (z : Entry). same_span z.id id) (sym is) ∙ same in
    let others : has_id ys id ≡ false = list_any_none (λ (z : Entry). same_span z.id id) ys (λ k d low. later k d low first) in
    rw first (ap (λ l. y ∷ l) (groups_with-none ys id others) ∙ ap (λ (z : Entry). z ∷ []) (sym is))
  where
    later : (k : ℕ) (d : Entry) → k < length ys → same_span y.id id ≡ true → same_span (get_or ys k d).id id ≡ false
    later k d low first = false_from_ne_true _ (λ one.
        let e : 0 ≡ suc k = place-same (y ∷ ys) id 0 (suc k) y d up (omega arith) (omega arith) first one in omega arith)
groups_with-at (y ∷ ys) id (suc p) x up within is same =
    let apart : same_span y.id id ≡ false = false_from_ne_true _ (λ one.
    let e : 0 ≡ suc p = place-same (y ∷ ys) id 0 (suc p) y x up (omega arith) within one (ap (λ (z : Entry). same_span z.id id) (sym is) ∙ same) in omega arith) in
    rw apart (groups_with-at ys id p x (IsAscending-drop 1 (y ∷ ys) up) (omega arith) is same)

-- one more id
pub groups_with-next : (abandoned : List Entry) (chosen : List SpanId) (k : ℕ) (id : SpanId) → k < length chosen → id ≡ get_or chosen k id
    → flat_map (groups_with abandoned) (take k chosen) ++ groups_with abandoned id ≡ flat_map (groups_with abandoned) (take (k + 1) chosen)
groups_with-next abandoned chosen k id low is = grind (arith, common_steps, take-suc, flat_map-append, flat_map-cons, append-nil)

-- the ids of the groups that pass a test, of one more group
module _ (test : Entry → Bool) (owned : List Entry) (n : ℕ) (y : Entry) (before found : List SpanId) (low : n < length owned) (read : y ≡ get_or owned n y)
    (is : found ≡ before ++ map (λ (y : Entry). y.id) (filter test (take n owned))) where
  more : before ++ map (λ (y : Entry). y.id) (filter test (take (n + 1) owned)) ≡ found ++ map (λ (y : Entry). y.id) (cond (test y) (y ∷ []) [])
  more = grind (arith, common_steps, filter_more, map-append, append_assoc)

  pub passing-more : test y ≡ true → found ++ y.id ∷ [] ≡ before ++ map (λ (y : Entry). y.id) (filter test (take (n + 1) owned))
  passing-more passes = sym (more ∙ ap (λ b. found ++ map (λ (y : Entry). y.id) (cond b (y ∷ []) [])) passes)

  pub passing-same : test y ≡ false → found ≡ before ++ map (λ (y : Entry). y.id) (filter test (take (n + 1) owned))
  passing-same fails = sym (more ∙ ap (λ b. found ++ map (λ (y : Entry). y.id) (cond b (y ∷ []) [])) fails ∙ append-nil found)

-- and of one that does not
pub passing-skip : (test : Entry → Bool) (owned : List Entry) (n : ℕ) (before found : List SpanId) → n < length owned → ((d : Entry) → test (get_or owned n d) ≡ false)
    → found ≡ before ++ map (λ (y : Entry). y.id) (filter test (take n owned)) → found ≡ before ++ map (λ (y : Entry). y.id) (filter test (take (n + 1) owned))
passing-skip test [] n before found low fails is = absurd (omega arith)
passing-skip test (x ∷ xs) n before found low fails is =
    passing-same test (x ∷ xs) n (get_or (x ∷ xs) n x) before found low (get_or_default (x ∷ xs) n x (get_or (x ∷ xs) n x) low) is (fails x)

-- ---- by class

-- the place of an element among those that pass
module _ {X : Type 0} (test : X → Bool) where
  pub filter_at : (xs : List X) (i : ℕ) (d : X) → i < length xs → test (get_or xs i d) ≡ true
      → get_or (filter test xs) (length (filter test (take i xs))) d ≡ get_or xs i d
  filter_at [] i d low passes = absurd (omega arith)
  filter_at (x ∷ xs) zero d low passes = rw passes refl
  filter_at (x ∷ xs) (suc i) d low passes = search (rules, cases_Bool, (filter_at xs i d (omega arith) passes))

  pub filter_below : (xs : List X) (i : ℕ) (d : X) → i < length xs → test (get_or xs i d) ≡ true
      → length (filter test (take i xs)) < length (filter test xs)
  filter_below [] i d low passes = absurd (omega arith)
  filter_below (x ∷ xs) zero d low passes = rw passes (omega arith)
  filter_below (x ∷ xs) (suc i) d low passes = search (rules, cases_Bool, (filter_below xs i d (omega arith) passes))

-- the row of a group among those of its class
module _ (sets : List SlotSet) (number : ℕ) (owned : List Entry) (rows : List ℕ) (place : ℕ) (y : Entry)
    (have : HaveRows (filter (is_of_class number) owned) sets None (length (filter (is_of_class number) owned)) rows)
    (low : place < length owned) (read : y ≡ get_or owned place y) (own : is_of_class number y ≡ true)
    (words at : ℕ) (wide : words ≡ row_words (length sets)) (stands : at ≡ length (filter (is_of_class number) (take place owned))) where
  passes : is_of_class number (get_or owned place y) ≡ true
  passes = ap (is_of_class number) (sym read) ∙ own

  below : length (filter (is_of_class number) (take place owned)) < length (filter (is_of_class number) owned)
  below = filter_below (is_of_class number) owned place y low passes

  -- it stands among the rows
  pub row-within : words * at + words ≤ length rows
  row-within = grind (arith, common_steps, mul-le-mul_left, below, more, mul-suc)

  same : row_at words rows at ≡ row_at (row_words (length sets)) rows (length (filter (is_of_class number) (take place owned)))
  same t = row_at (wide t) rows (stands t)

  -- it has a bit if the group fits
  pub row-fits : ((k : ℕ) → get_or (row_at words rows at) k 0 < 2 ^ 64) → list_any (λ word. not (word == 0)) (row_at words rows at) ≡ fits_among number sets y
  row-fits fit =
      some_fits y.occupied sets (row_at words rows at)
      (λ j. ap (λ row. has_bit row j) same
      ∙ have.bits (length (filter (is_of_class number) (take place owned))) j y below
      ∙ ap (λ (z : Entry). fits z.occupied (slice_get sets j)) (filter_at (is_of_class number) owned place y low passes ∙ sym read)) fit
      ∙ sym (ap (λ b. b && list_any (λ other. are_disjoint other y.occupied) sets) own)

-- a group that is not of the class does not fit among its members
pub fits-other_class : (sets : List SlotSet) (number : ℕ) (y : Entry) → is_of_class number y ≡ false → fits_among number sets y ≡ false
fits-other_class sets number y other = ap (λ b. b && list_any (λ x. are_disjoint x y.occupied) sets) other

-- how many of the class come before, of one more group
pub rows_before : (number : ℕ) (owned : List Entry) (n count : ℕ) (y : Entry) (b : Bool) → n < length owned → y ≡ get_or owned n y → is_of_class number y ≡ b
    → count ≡ length (filter (is_of_class number) (take n owned)) → length (filter (is_of_class number) (take (n + 1) owned)) ≡ count + cond b 1 0
rows_before number owned n count y b low read own is = grind (arith, common_steps, length-filter_more)

-- the bits of the groups that fit among the members of the classes below a number
abbrev pub HasBelow : Members → List Entry → ℕ → List ℕ → Type 0
HasBelow members owned n words = (place : ℕ) (d : Entry) → place < length owned
    → has_bit words place ≡ (nat_lt (number_of (get_or owned place d).class) n && fits_some members (get_or owned place d))

pub HasBelow-none : (members : Members) (owned : List Entry) (words : List ℕ) → ((place : ℕ) → has_bit words place ≡ false) → HasBelow members owned 0 words
HasBelow-none members owned words none place d within = none place ∙ rw (le-ltb (number_of (get_or owned place d).class) 0 (omega arith)) refl

-- one more class
pub HasBelow-more : (members : Members) (owned : List Entry) (n : ℕ) (before after : List ℕ) → HasBelow members owned n before
    → ((place : ℕ) (d : Entry) → place < length owned → has_bit after place ≡ (has_bit before place || fits_among n (members_in members n) (get_or owned place d)))
    → HasBelow members owned (n + 1) after
HasBelow-more members owned n before after below more place d within =
    search (rules, more, below, nat_lt, cases_eq, same, le-ltb, eq-eqb, lt-ltb, ne_eqb, or-false, cases_lt)

-- all classes that have members
pub HasBelow-all : (members : Members) (owned : List Entry) (n : ℕ) (words : List ℕ) → length members.by_class.items ≤ n → HasBelow members owned n words
    → (place : ℕ) (d : Entry) → place < length owned → has_bit words place ≡ fits_some members (get_or owned place d)
HasBelow-all members owned n words past below place d within = search (rules, below, nat_lt, cases_lt, lt-ltb, le-ltb, get_or_past)

-- the partners, as a filter of the owned groups
pub partners_of-filter : (s : Groups) (short : List SpanId) → IsAscending (ids s.owned) → partners_of s short ≡ map (λ (y : Entry). y.id) (filter (λ y. fits_any s.abandoned short y) s.owned)
unfolding sides_of
partners_of-filter s short up =
    filter-map (λ b. list_any (λ a. any_compatible s a b) short) (λ (y : Entry). y.id) (λ y. fits_any s.abandoned short y) s.owned (λ j y l at. is_partner-at s short j y up l at)

pub partners_of-count : (s : Groups) (short : List SpanId) → IsAscending (ids s.owned) → count_by (λ y. fits_any s.abandoned short y) s.owned ≡ length (partners_of s short)
partners_of-count s short up = search (rules, count-filter, length-map, partners_of-filter)
