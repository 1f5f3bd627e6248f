-- Rows of bits, one after another.
use Rattle.std.proofs.Common.{ℕ, suc, ◌+◌, ◌/◌, ◌*◌, ◌<◌, ◌≤◌, ◌≡◌, true, false, List, [], ◌∷◌, ◌++◌, length, map, drop, take, refl, sym, subst, ◌∙◌, ap, arith, get_or, inl, inr, Option, Some, None, IfSome, length-append, rules}
use Rattle.std.specs.List.{slice_get}
use Rattle.std.specs.Prelude.{MatchOption}
use Rattle.std.proofs.Math.Nat.{mul-le-mul_left, mul-suc}
use Rattle.std.proofs.lemmas.Bool.{both_ways, cases_eq, cases_lt}
use Rattle.std.proofs.lemmas.List.{get_or_default, length-drop, length-map, length-take-le}
use Rattle.std.proofs.Math.Seq.{take-add, take-length}
use Rattle.std.proofs.lemmas.Option.{slice_get-get_or, slice_get_past}
use Rattle.bitmap.specs.Slots.{SlotSet, has_bit}
use Rattle.lane_kernels.specs.Rows.{row_at, width_of}
use Rattle.lane_kernels.proofs.Rows.{row_at-earlier, row_at-last}
use Rattle.span.specs.declared.entry.Entry.{Entry}
use Rattle.mesh_graph.specs.Groups.{Groups, are_partners, compatible_at}
use Rattle.mesh_graph.specs.Masked.{AreMasks, AreOfOneClass}
use Rattle.mesh_graph.specs.Rows.{AreRows, HaveRows, row_bit}
use Rattle.mesh_graph.specs.declared.by_class.Masks.{Masks}
use Rattle.mesh_graph.proofs.OfClass.{has_partner-kept}
use Rattle.mesh_graph.specs.declared.build.TheConstants.{MOST_GROUPS}

-- one more row
pub rows-more : (abandoned : List Entry) (sets : List SlotSet) (masks : Option Masks) (n : ℕ) (y : Entry) (words row : List ℕ)
    → HaveRows abandoned sets masks n words → n < length abandoned → y ≡ get_or abandoned n y
    → length row ≡ width_of (length sets) → ((j : ℕ) → has_bit row j ≡ row_bit sets masks y j) → HaveRows abandoned sets masks (n + 1) (words ++ row)
rows-more abandoned sets masks n y words row have low read long bits = record {
  size = let more = mul-suc (width_of (length sets)) n in omega (arith, length-append words row, have.size, long, more);
  bits = λ i j x below. elim (cases_eq i n) [
    | inl at ↦
        let here : get_or abandoned i x ≡ y = ap (λ k. get_or abandoned k x) at ∙ get_or_default abandoned n x y low ∙ sym read in
        ap (λ k. has_bit (row_at (width_of (length sets)) (words ++ row) k) j) at
        ∙ ap (λ l. has_bit l j) (row_at-last (width_of (length sets)) words row n have.size long)
        ∙ bits j ∙ ap (λ (e : Entry). row_bit sets masks e j) (sym here)
    | inr other ↦
        let before : i < n = omega arith in
        ap (λ l. has_bit l j) (row_at-earlier (width_of (length sets)) words row n have.size long i before) ∙ have.bits i j x before
  ];
}

-- the row that was written stands behind those before it
pub rows-next : (abandoned : List Entry) (sets : List SlotSet) (masks : Option Masks) (n : ℕ) (y : Entry) (before words : List ℕ)
    → HaveRows abandoned sets masks n (take (width_of (length sets) * n) before) → n < length abandoned → y ≡ get_or abandoned n y
    → take (width_of (length sets) * n) words ≡ take (width_of (length sets) * n) before
    → length (row_at (width_of (length sets)) words n) ≡ width_of (length sets)
    → ((j : ℕ) → has_bit (row_at (width_of (length sets)) words n) j ≡ row_bit sets masks y j)
    → HaveRows abandoned sets masks (n + 1) (take (width_of (length sets) * (n + 1)) words)
rows-next abandoned sets masks n y before words have low read same wide bits =
    let W : ℕ = width_of (length sets) in
    let more : W * (n + 1) ≡ W * n + W = let step = mul-suc W n in omega (arith, step) in
    let cut : take (W * (n + 1)) words ≡ take (W * n) before ++ row_at W words n = ap (λ k. take k words) more ∙ take-add (W * n) W words ∙ ap (λ l. l ++ row_at W words n) same in
    subst (HaveRows abandoned sets masks (n + 1)) (sym cut) (rows-more abandoned sets masks n y (take (W * n) before) (row_at W words n) have low read wide bits)

-- all rows are written
pub rows-all : (abandoned : List Entry) (sets : List SlotSet) (masks : Option Masks) (n : ℕ) (words : List ℕ)
    → HaveRows abandoned sets masks n (take (width_of (length sets) * n) words) → length words ≡ width_of (length sets) * n → HaveRows abandoned sets masks n words
rows-all abandoned sets masks n words have size =
    subst (HaveRows abandoned sets masks n) (ap (λ k. take k words) (sym size) ∙ take-length words) have

-- the words of a row are written over, and all others stay
module _ (start width : ℕ) (before row words : List ℕ) (ends : start + width ≤ length before) (wide : length row ≡ width)
    (are : words ≡ take start before ++ (row ++ drop (start + width) before)) where
  abbrev behind : List ℕ
  behind = row ++ drop (start + width) before

  long : length (take start before) ≡ start
  long = length-take-le start before (omega (arith, ends))

-- the rows of all groups are those of the snapshot
pub AreRows-from_rows : (s : Groups) (sets : List SlotSet) (masks : Option Masks) (words : List ℕ) → length s.abandoned ≤ MOST_GROUPS
    → length s.owned ≤ MOST_GROUPS → sets ≡ map (λ y. y.occupied) s.owned
    → MatchOption masks (AreOfOneClass s.abandoned s.owned) (AreMasks s.owned) → HaveRows s.abandoned sets masks (length s.abandoned) words → AreRows s words
unfolding compatible_at
AreRows-from_rows s sets masks words few_a few_o are told have =
    let long : length sets ≡ length s.owned = ap length are ∙ length-map s.owned (λ (y : Entry). y.occupied) in
    record {
      abandoned_at_most = few_a;
      owned_at_most = few_o;
      size = have.size ∙ ap (λ n. width_of n * length s.abandoned) long;
      bits = λ i j low.
          ap (λ n. has_bit (row_at (width_of n) words i) j) (sym long)
          ∙ bit s.abandoned told i j low (λ x. have.bits i j x low);
    }
  where
    bit : (abandoned : List Entry) → MatchOption masks (AreOfOneClass abandoned s.owned) (AreMasks s.owned) → (i j : ℕ) → i < length abandoned
        → ((x : Entry) → has_bit (row_at (width_of (length sets)) words i) j ≡ row_bit sets masks (get_or abandoned i x) j)
        → has_bit (row_at (width_of (length sets)) words i) j ≡ are_partners (slice_get abandoned i) (slice_get s.owned j)
    bit [] told i j low is = absurd (omega arith)
    bit (x ∷ abandoned) told i j low is =
        let y = get_or (x ∷ abandoned) i x in
        is x
        ∙ has_partner-kept (x ∷ abandoned) s.owned sets masks i y told are low (get_or_default (x ∷ abandoned) i x y low) j
        ∙ ap (λ o. are_partners o (slice_get s.owned j)) (sym (slice_get-get_or (x ∷ abandoned) i x low))

module _ (s t : Groups) (words : List ℕ) (w i : ℕ) (is : s ≡ t) (are : AreRows s words) (low : i < length t.abandoned) (wide : w ≡ length t.owned) where
  rows : AreRows t words
  rows = subst (λ g. AreRows g words) is are

  same_width : width_of w ≡ width_of (length t.owned)
  same_width = ap width_of wide

  -- a row ends within the words
  pub lent-within : width_of w * i + width_of w ≤ length words
  lent-within = search (rules, mul-le-mul_left, mul-suc, same_width)

  -- the row that a graph lends
  module _ (row : List ℕ) (reads : row ≡ row_at (width_of w) words i) where
    pub lent-bits : (j : ℕ) → has_bit row j ≡ compatible_at t i j
    lent-bits j = ap (λ l. has_bit l j) (reads ∙ ap (λ k. row_at k words i) same_width) ∙ rows.bits i j low

    pub lent-words : length row ≡ (length t.owned + 63) / 64
    lent-words = search (rules, length-take-le, length-drop, lent-within, same_width)

-- an owned group that is a partner stands at a place
pub compatible_at-within : (s : Groups) (i j : ℕ) → compatible_at s i j ≡ true → j < length s.owned
unfolding compatible_at
compatible_at-within s i j h = elim (cases_lt j (length s.owned)) [
  | inl l ↦ l
  | inr g ↦ absurd (both_ways (are_partners (slice_get s.abandoned i) (slice_get s.owned j))
      (ap (are_partners (slice_get s.abandoned i)) (slice_get_past s.owned j g) ∙ none (slice_get s.abandoned i)) h)
]
  where
    none : (x : Option Entry) → are_partners x None ≡ false
    none None = refl
    none (Some x) = refl

-- a bit of a row stands for an owned group
pub within-from_bits : (s : Groups) (i : ℕ) (words : List ℕ) (found : Option ℕ) → ((j : ℕ) → has_bit words j ≡ compatible_at s i j)
    → IfSome found (λ j. has_bit words j ≡ true) → IfSome found (λ j. j < length s.owned)
within-from_bits s i words None bits set = tt
within-from_bits s i words (Some j) bits set = compatible_at-within s i j (sym (bits j) ∙ set)
