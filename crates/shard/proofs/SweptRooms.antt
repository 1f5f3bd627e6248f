-- The words that may have a usable slot, as the places of groups that have left go one after another.
use Rattle.std.proofs.Common.{zero, suc, ◌≡◌, ℕ, ◌+◌, ◌*◌, ◌/◌, ◌%◌, ◌<◌, ◌≤◌, ◌⊎◌, true, false, not, List, [], ◌∷◌, ◌++◌, length, Some, slice_get, drop, ◌∙◌, ap, sym, subst, refl, inl, inr, arith}
use Rattle.std.specs.List.{filter}
use Rattle.std.specs.FinSet.{contains}
use Rattle.std.proofs.lemmas.Bool.{cases_eq, cases_lt, false_from_ne_true, true≢false}
use Rattle.std.proofs.lemmas.List.{drop_all, length-append}
use Rattle.std.proofs.lemmas.Option.{slice_get_within}
use Rattle.bitmap.specs.Slots.{SlotSet}
use Rattle.span.specs.declared.class.Class.{Class}
use Rattle.shard.specs.Group.{GroupState, HasNoRoomIn}
use Rattle.shard.specs.Leaving.{has_left, has_stayed}
use Rattle.bitmap.specs.Numbers.{NumbersState}
use Rattle.shard.specs.Rooms.{AgreeApart, HasAll, HasRooms, rooms_of}
use Rattle.shard.proofs.Classes.{cases_class}
use Rattle.shard.proofs.Sparse.{filter-no, filter-yes}
use Rattle.groups.proofs.Maps.{drop_step}

joined-last : {X : Type 0} (xs : List X) (x : X) (ys : List X) → xs ++ x ∷ ys ≡ (xs ++ x ∷ []) ++ ys
joined-last [] x ys = refl
joined-last (z ∷ xs) x ys = ap (λ zs. z ∷ zs) (joined-last xs x ys)

joined-none : {X : Type 0} (xs : List X) → xs ++ [] ≡ xs
joined-none [] = refl
joined-none (x ∷ xs) = ap (λ zs. x ∷ zs) (joined-none xs)

-- what stands in a list with one element more at its end
cases-last : {X : Type 0} (xs : List X) (x : X) (at : ℕ) (y : X) → slice_get (xs ++ x ∷ []) at ≡ Some y → ((at < length xs) × (slice_get xs at ≡ Some y)) ⊎ ((at ≡ length xs) × (x ≡ y))
cases-last [] x zero y there = inr (refl, cc)
cases-last [] x (suc at) y there = absurd cc
cases-last (z ∷ xs) x zero y there = inl (omega arith, there)
cases-last (z ∷ xs) x (suc at) y there = elim (cases-last xs x at y there) [
  | inl low ↦ inl (let less : at < length xs = low.0 in omega arith, low.1)
  | inr last ↦ inr (ap suc last.0, last.1)
]

-- of the groups below the index, those that have stayed have the numbers of their new indexes, and the others none
pub record IsSwept (slot_limit : ℕ) (class : Class) (groups : List GroupState) (old now : SlotSet) (index next : ℕ) : Type 0 where
  pub done : List GroupState
  pub all : filter has_stayed groups ≡ done ++ filter has_stayed (drop index groups)
  pub count : next ≡ length done
  pub few : next ≤ index
  pub others : (q : ℕ) (group : GroupState) → slice_get done (q / 4) ≡ Some group → contains now q ≡ false → HasNoRoomIn slot_limit class group (q % 4)
  pub of_class : (q : ℕ) (group : GroupState) → slice_get done (q / 4) ≡ Some group → contains now q ≡ true → group.head.class ≡ class
  pub between : (q : ℕ) → next ≤ q / 4 → q / 4 < index → contains now q ≡ false
  pub rest : (q : ℕ) → index ≤ q / 4 → contains now q ≡ contains old q

pub HasRooms-swept : {slot_limit : ℕ} (class : Class) (groups : List GroupState) (old now : SlotSet) → HasRooms slot_limit class groups old → (index next : ℕ) → length groups ≤ index
    → IsSwept slot_limit class groups old now index next → HasRooms slot_limit class (filter has_stayed groups) now
HasRooms-swept {slot_limit} class groups old now has index next end swept =
    subst (λ gs. HasRooms slot_limit class gs now) (sym (swept.all ∙ ap (λ gs. swept.done ++ filter has_stayed gs) (drop_all index groups end) ∙ joined-none swept.done))
    (record {
      within = λ q member. elim (cases_lt (q / 4) next) [
        | inl low ↦ omega (arith, low, swept.count)
        | inr high ↦ elim (cases_lt (q / 4) index) [
          | inl low ↦ absurd (true≢false (sym member ∙ swept.between q high low))
          | inr past ↦ absurd (omega (arith, past, end, has.within q (sym (swept.rest q past) ∙ member)))
        ]
      ];
      others = swept.others;
      of_class = swept.of_class;
    })

module _ {slot_limit : ℕ} (class : Class) (groups : List GroupState) (old now : SlotSet) (has : HasRooms slot_limit class groups old) (index next : ℕ) (swept : IsSwept slot_limit class groups old now index next)
    (group : GroupState) (here : slice_get groups index ≡ Some group) where
  -- a group of another class has no number here
  pub none_here : (group.head.class ≡ class → ⊥) → HasAll index false now
  none_here apart n at = false_from_ne_true (contains now n) (λ member.
      apart (has.of_class n group (ap (slice_get groups) at ∙ here) (sym (swept.rest n (omega (arith, at))) ∙ member)))

  next_is : suc index ≡ index + 1
  next_is = omega arith

  -- a number of those that are done is below
  low : (q : ℕ) (g : GroupState) → slice_get swept.done (q / 4) ≡ Some g → q / 4 ≡ index → ⊥
  low q g there e = let less = slice_get_within swept.done (q / 4) g there in omega (arith, e, less, swept.count, swept.few)

  -- one that has left
  pub IsSwept-left : (after : SlotSet) → AgreeApart index now after → HasAll index false after → has_stayed group ≡ false → IsSwept slot_limit class groups old after (index + 1) next
  IsSwept-left after same none left = record {
    done = swept.done;
    all = swept.all ∙ ap (λ gs. swept.done ++ filter has_stayed gs) (drop_step groups index group here)
        ∙ ap (λ gs. swept.done ++ gs) (filter-no has_stayed group (drop (suc index) groups) left)
        ∙ ap (λ n. swept.done ++ filter has_stayed (drop n groups)) next_is;
    count = swept.count;
    few = let few = swept.few in omega (arith, few);
    others = λ q g there out. swept.others q g there (sym (same q (low q g there)) ∙ out);
    of_class = λ q g there member. swept.of_class q g there (sym (same q (low q g there)) ∙ member);
    between = λ q from less. elim (cases_eq (q / 4) index) [
      | inl is ↦ none q is
      | inr apart ↦ same q apart ∙ swept.between q from (omega (arith, less, apart))
    ];
    rest = λ q from. same q (λ e. absurd (omega (arith, e, from))) ∙ swept.rest q (omega (arith, from));
  }

  -- one that has stayed
  pub IsSwept-stayed : has_stayed group ≡ true → (last : SlotSet) → ((q : ℕ) → (q / 4 ≡ index → ⊥) → (q / 4 ≡ next → ⊥) → contains last q ≡ contains now q)
      → (next < index → HasAll index false last) → ((q : ℕ) → q / 4 ≡ next → contains last q ≡ false → HasNoRoomIn slot_limit class group (q % 4))
      → ((q : ℕ) → q / 4 ≡ next → contains last q ≡ true → group.head.class ≡ class) → IsSwept slot_limit class groups old last (index + 1) (next + 1)
  IsSwept-stayed stayed last kept gone out_is member_is = record {
    done = swept.done ++ group ∷ [];
    all = swept.all ∙ ap (λ gs. swept.done ++ filter has_stayed gs) (drop_step groups index group here)
        ∙ ap (λ gs. swept.done ++ gs) (filter-yes has_stayed group (drop (suc index) groups) stayed)
        ∙ ap (λ n. swept.done ++ group ∷ filter has_stayed (drop n groups)) next_is
        ∙ joined-last swept.done group (filter has_stayed (drop (index + 1) groups));
    count = omega (arith, swept.count, length-append swept.done (group ∷ []));
    few = let few = swept.few in omega (arith, few);
    others = λ q g there out. elim (cases-last swept.done group (q / 4) g there) [
      | inl low ↦ swept.others q g low.1 (sym (kept q (λ e. absurd (omega (arith, e, low.0, swept.count, swept.few))) (λ e. absurd (omega (arith, e, low.0, swept.count)))) ∙ out)
      | inr is ↦ subst (λ (g : GroupState). HasNoRoomIn slot_limit class g (q % 4)) is.1 (out_is q (is.0 ∙ sym swept.count) out)
    ];
    of_class = λ q g there member. elim (cases-last swept.done group (q / 4) g there) [
      | inl low ↦ swept.of_class q g low.1 (sym (kept q (λ e. absurd (omega (arith, e, low.0, swept.count, swept.few))) (λ e. absurd (omega (arith, e, low.0, swept.count)))) ∙ member)
      | inr is ↦ ap (λ (g : GroupState). g.head.class) (sym is.1) ∙ member_is q (is.0 ∙ sym swept.count) member
    ];
    between = λ q from less. elim (cases_eq (q / 4) index) [
      | inl is ↦ gone (omega (arith, from, is)) q is
      | inr apart ↦ kept q apart (λ e. absurd (omega (arith, e, from))) ∙ swept.between q (omega (arith, from)) (omega (arith, less, apart))
    ];
    rest = λ q from. kept q (λ e. absurd (omega (arith, e, from))) (λ e. absurd (omega (arith, e, from, swept.few))) ∙ swept.rest q (omega (arith, from));
  }

-- the sets at one more index
module _ {slot_limit : ℕ} (groups : List GroupState) (old rooms : List NumbersState) (has : (class : Class) → HasRooms slot_limit class groups (rooms_of old class)) (index next : ℕ)
    (swept : (class : Class) → IsSwept slot_limit class groups (rooms_of old class) (rooms_of rooms class) index next) (group : GroupState) (here : slice_get groups index ≡ Some group)
    (mine : Class) (mine_is : mine ≡ group.head.class) where
  -- of another class it has no number
  out : (class : Class) → (class ≡ mine → ⊥) → HasAll index false (rooms_of rooms class)
  out class differs = none_here class groups (rooms_of old class) (rooms_of rooms class) (has class) index next (swept class) group here (λ e. differs (sym (mine_is ∙ e)))

  module _ (after : List NumbersState) (this : HasAll index false (rooms_of after mine)) (same : AgreeApart index (rooms_of rooms mine) (rooms_of after mine))
      (others : (other : Class) → (other ≡ mine → ⊥) → rooms_of after other ≡ rooms_of rooms other) where
    pub sweep-left : has_left group ≡ true → (class : Class) → IsSwept slot_limit class groups (rooms_of old class) (rooms_of after class) (index + 1) next
    sweep-left left class = elim (cases_class class mine) [
      | inl is ↦ IsSwept-left class groups (rooms_of old class) (rooms_of rooms class) (has class) index next (swept class) group here (rooms_of after class)
          (subst (λ c. AgreeApart index (rooms_of rooms c) (rooms_of after c)) (sym is) same) (subst (λ c. HasAll index false (rooms_of after c)) (sym is) this) (ap not left)
      | inr differs ↦ rw (others class differs)
          (IsSwept-left class groups (rooms_of old class) (rooms_of rooms class) (has class) index next (swept class) group here (rooms_of rooms class)
          (λ q apart. refl) (out class differs) (ap not left))
    ]

  module _ (stayed : has_left group ≡ false) (last : List NumbersState) (this : (k : ℕ) → k < 4 → contains (rooms_of last mine) (4 * next + k) ≡ contains (rooms_of rooms mine) (4 * index + k))
      (gone : next < index → HasAll index false (rooms_of last mine))
      (kept : (q : ℕ) → (q / 4 ≡ index → ⊥) → (q / 4 ≡ next → ⊥) → contains (rooms_of last mine) q ≡ contains (rooms_of rooms mine) q)
      (alike : (other : Class) → (other ≡ mine → ⊥) → rooms_of last other ≡ rooms_of rooms other) where
    -- the number that the word had is the number that it has
    bit : (q : ℕ) → q / 4 ≡ next → contains (rooms_of last mine) q ≡ contains (rooms_of old mine) (4 * index + q % 4)
    bit q at = ap (contains (rooms_of last mine)) (omega (arith, at)) ∙ this (q % 4) (omega arith) ∙ (swept mine).rest (4 * index + q % 4) (omega arith)

    there_is : (q : ℕ) → (4 * index + q % 4) / 4 ≡ index
    there_is q = omega arith

    word_is : (q : ℕ) → (4 * index + q % 4) % 4 ≡ q % 4
    word_is q = omega arith

    sweep-mine : IsSwept slot_limit mine groups (rooms_of old mine) (rooms_of last mine) (index + 1) (next + 1)
    sweep-mine =
        IsSwept-stayed mine groups (rooms_of old mine) (rooms_of rooms mine) (has mine) index next (swept mine) group here (ap not stayed) (rooms_of last mine) kept gone
        (λ q at none. subst (HasNoRoomIn slot_limit mine group) (word_is q)
        ((has mine).others (4 * index + q % 4) group (ap (slice_get groups) (there_is q) ∙ here) (sym (bit q at) ∙ none)))
        (λ q at member. sym mine_is)

    -- a set of another class has no number at the next index, be it this one or one below
    none_next : (class : Class) → (class ≡ mine → ⊥) → (q : ℕ) → q / 4 ≡ next → contains (rooms_of rooms class) q ≡ false
    none_next class differs q at = elim (cases_eq next index) [
      | inl same ↦ out class differs q (at ∙ same)
      | inr apart ↦ (swept class).between q (omega (arith, at)) (omega (arith, at, apart, (swept class).few))
    ]

    sweep-other : (class : Class) → (class ≡ mine → ⊥) → IsSwept slot_limit class groups (rooms_of old class) (rooms_of rooms class) (index + 1) (next + 1)
    sweep-other class differs =
        IsSwept-stayed class groups (rooms_of old class) (rooms_of rooms class) (has class) index next (swept class) group here (ap not stayed) (rooms_of rooms class)
        (λ q apart other. refl) (λ less. out class differs) (λ q at none. inr (inl (λ e. differs (sym (mine_is ∙ e)))))
        (λ q at member. absurd (true≢false (sym member ∙ none_next class differs q at)))

    pub sweep-stayed : (class : Class) → IsSwept slot_limit class groups (rooms_of old class) (rooms_of last class) (index + 1) (next + 1)
    sweep-stayed class = elim (cases_class class mine) [
      | inl is ↦ subst (λ c. IsSwept slot_limit c groups (rooms_of old c) (rooms_of last c) (index + 1) (next + 1)) (sym is) sweep-mine
      | inr differs ↦ rw (alike class differs) (sweep-other class differs)
    ]
