-- The words of a group: where none takes a put, and what a change leaves of that.
use Rattle.std.proofs.Common.{◌≡◌, ℕ, suc, zero, ◌/◌, ◌<◌, ◌||◌, Some, slice_get, true, false, ◌∙◌, ap, sym, subst, refl, inl, inr, arith}
use Rattle.std.specs.Cmp.{nat_cmp_total}
use Rattle.std.specs.FinSet.{contains, contains-union, insert, remove, union}
use Rattle.std.proofs.lemmas.Bool.{cases_Bool, cases_eq, true≢false}
use Rattle.bitmap.specs.Slots.{HasWord}
use Rattle.bitmap.proofs.Summaries.{contains-remove_other}
use Rattle.span.proofs.Slots.{worn_slots-free}
use Rattle.span.proofs.Widths.{slots_in-most}
use Rattle.span.specs.Log.{Holds, Value, worn_slots}
use Rattle.span.specs.State.{SpanState}
use Rattle.span.specs.declared.class.Class.{Class}
use Rattle.groups.specs.Group.{occupied, spans_of, with_span}
use Rattle.groups.specs.Pages.{put_group}
use Rattle.groups.specs.Spans.{AreApart, HasAllIn, slots_for, union_of, with_free_at}
use Rattle.groups.proofs.FilledBy.{taken-put, taken-put_old}
use Rattle.groups.proofs.Lists.{same_some}
use Rattle.groups.proofs.Standing.{spans_of-with_span}
use Rattle.groups.proofs.Unions.{lose_held}
use Rattle.shard.specs.Group.{GroupState, HasNoRoom, HasNoRoomIn, IsLowestUsable, IsLowestUsableIn, spans_alone, unusable}
use Rattle.shard.proofs.Classes.{cases_class}

-- a word of an open group of the class that takes no put is full
pub full_word : (slot_limit : ℕ) (class : Class) (group : GroupState) (word : ℕ) → group.closed ≡ false → group.head.class ≡ class → HasNoRoomIn slot_limit class group word
    → HasAllIn slot_limit group.head.class (unusable group) word
full_word slot_limit class group word is_open same (inl closed) = absurd (true≢false (sym closed ∙ is_open))
full_word slot_limit class group word is_open same (inr (inl apart)) = absurd (apart same)
full_word slot_limit class group word is_open same (inr (inr all)) = all

-- a group none of whose words takes a put takes none
pub HasNoRoom-words : (slot_limit : ℕ) (class : Class) (group : GroupState) → ((word : ℕ) → word < 4 → HasNoRoomIn slot_limit class group word) → HasNoRoom slot_limit class group
HasNoRoom-words slot_limit class group each = elim (cases_Bool group.closed) [
  | inl closed ↦ inl closed
  | inr is_open ↦ elim (cases_class group.head.class class) [
    | inr apart ↦ inr (inl apart)
    | inl same ↦ inr (inr (λ slot low. full_word slot_limit class group (slot / 64) is_open same (each (slot / 64) (omega (arith, low, slots_in-most group.head.class))) slot refl low))
  ]
]

-- none of the words of a group that takes no put takes one
pub HasNoRoomIn-none : (slot_limit : ℕ) (class : Class) (group : GroupState) (word : ℕ) → HasNoRoom slot_limit class group → HasNoRoomIn slot_limit class group word
HasNoRoomIn-none slot_limit class group word (inl closed) = inl closed
HasNoRoomIn-none slot_limit class group word (inr (inl apart)) = inr (inl apart)
HasNoRoomIn-none slot_limit class group word (inr (inr all)) = inr (inr (λ slot at low. all slot low))

-- the lowest slot of a word is that of the group, if the words below take no put
pub IsLowestUsable-words : (slot_limit : ℕ) (class : Class) (group : GroupState) (word slot : ℕ) → IsLowestUsableIn slot_limit class group word slot
    → ((lower : ℕ) → lower < word → HasNoRoomIn slot_limit class group lower) → IsLowestUsable slot_limit class group slot
IsLowestUsable-words slot_limit class group word slot usable none = record {
  is_open = usable.is_open;
  class_is = usable.class_is;
  on_page = usable.on_page;
  lowest = record {
    outside = usable.lowest.outside;
    lower = λ q low. elim (cases_eq (q / 64) word) [
      | inl same ↦ usable.lowest.lower q same low
      | inr apart ↦ full_word slot_limit class group (q / 64) usable.is_open usable.class_is (none (q / 64) (omega (arith, usable.lowest.in_word, low, apart))) q refl
          (subst (λ (c : Class). q < slots_for slot_limit c) (sym usable.class_is) (omega (arith, usable.on_page, low)))
    ];
  };
}

-- a word that takes a put is not full
pub HasNoRoomIn-usable : {slot_limit : ℕ} (class : Class) (group : GroupState) (word slot : ℕ) → IsLowestUsableIn slot_limit class group word slot → HasNoRoomIn slot_limit class group word → ⊥
HasNoRoomIn-usable {slot_limit} class group word slot usable none =
    true≢false (sym (full_word slot_limit class group word usable.is_open usable.class_is none slot usable.lowest.in_word (rw usable.class_is usable.on_page)) ∙ usable.lowest.outside)

-- a word that takes no put takes none after a put
pub HasNoRoomIn-put : (slot_limit : ℕ) (other class : Class) (group : GroupState) (slot : ℕ) (value : Value) (word : ℕ) → HasNoRoomIn slot_limit other group word
    → HasNoRoomIn slot_limit other (put_group group class slot value) word
HasNoRoomIn-put slot_limit other class group slot value word (inl closed) = inl closed
HasNoRoomIn-put slot_limit other class group slot value word (inr (inl apart)) = inr (inl apart)
HasNoRoomIn-put slot_limit other class group slot value word (inr (inr all)) = inr (inr (λ q at low. taken-put_old (spans_alone group) slot value q (all q at low)))

-- and the word of the slot takes none, if it is full then
pub HasNoRoomIn-filled : (slot_limit : ℕ) (other class : Class) (group : GroupState) (slot : ℕ) (value : Value) (word : ℕ) → HasWord (insert (unusable group) slot) word
    → HasNoRoomIn slot_limit other (put_group group class slot value) word
HasNoRoomIn-filled slot_limit other class group slot value word full = inr (inr (λ q at low. taken-put (spans_alone group) slot value q (full q at)))

-- a free of a key leaves the other words as they were
module _ (group : GroupState) (span : SpanState) (slot generation : ℕ) where
  abbrev freed : ℕ → GroupState
  freed place = with_span group place (with_free_at span slot generation)

  worn-freed : (place : ℕ) → slice_get (spans_of group) place ≡ Some span → worn_slots (freed place).head.gens (freed place).head.log ≡ worn_slots group.head.gens group.head.log
  worn-freed zero here = worn_slots-free span.gens span.log slot generation ∙ ap (λ (s : SpanState). worn_slots s.gens s.log) (sym (same_some here))
  worn-freed (suc place) here = refl

  class-freed : (place : ℕ) → slice_get (spans_of group) place ≡ Some span → (freed place).head.class ≡ group.head.class
  class-freed zero here = ap (λ (s : SpanState). s.class) (sym (same_some here))
  class-freed (suc place) here = refl

  closed-freed : (place : ℕ) → (freed place).closed ≡ group.closed
  closed-freed zero = refl
  closed-freed (suc place) = refl

  module _ (place : ℕ) (here : slice_get (spans_of group) place ≡ Some span) (apart : AreApart (spans_of group)) (holds : Holds span.log slot generation) where
    unusable-freed : (q : ℕ) → (q ≡ slot → ⊥) → contains (unusable (freed place)) q ≡ contains (unusable group) q
    unusable-freed q other =
        let live : occupied (freed place) ≡ remove (occupied group) slot = ap union_of (spans_of-with_span group place _) ∙ (lose_held (spans_of group) place span slot generation here holds apart).0 in
        ap (λ s. contains s q) (λ i. union (live i) (worn-freed place here i))
        ∙ contains-union nat_cmp_total (remove (occupied group) slot) (worn_slots group.head.gens group.head.log) q
        ∙ ap (λ b. b || contains (worn_slots group.head.gens group.head.log) q) (contains-remove_other (occupied group) slot q other)
        ∙ sym (contains-union nat_cmp_total (occupied group) (worn_slots group.head.gens group.head.log) q)

    pub HasNoRoomIn-freed : (slot_limit : ℕ) (class : Class) (word : ℕ) → (word ≡ slot / 64 → ⊥) → HasNoRoomIn slot_limit class group word → HasNoRoomIn slot_limit class (freed place) word
    HasNoRoomIn-freed slot_limit class word other (inl closed) = inl (closed-freed place ∙ closed)
    HasNoRoomIn-freed slot_limit class word other (inr (inl differs)) = inr (inl (λ e. differs (sym (class-freed place here) ∙ e)))
    HasNoRoomIn-freed slot_limit class word other (inr (inr all)) = inr (inr (λ q at low. unusable-freed q (λ e. other (sym at ∙ ap (λ n. n / 64) e))
        ∙ all q at (subst (λ (c : Class). q < slots_for slot_limit c) (class-freed place here) low)))
