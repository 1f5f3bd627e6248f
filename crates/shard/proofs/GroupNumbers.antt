-- The four numbers of a group in a set, as the set is changed by one number after another.
use Rattle.std.proofs.Common.{◌≡◌, ℕ, ◌⊎◌, ◌+◌, ◌-◌, ◌*◌, ◌/◌, ◌<◌, true, false, Bool, ◌∙◌, ap, sym, refl, inl, inr, arith}
use Rattle.std.specs.FinSet.{contains, insert, remove}
use Rattle.std.proofs.lemmas.Bool.{cases_eq}
use Rattle.bitmap.specs.Slots.{SlotSet}
use Rattle.bitmap.proofs.Summaries.{contains-insert_other, contains-insert_same, contains-remove_other, contains-remove_same}
use Rattle.shard.specs.Rooms.{AgreeApart, HasAll, IsMoved}

-- a number of a group is one of four
one_of_four : (index n : ℕ) → n / 4 ≡ index → (n ≡ 4 * index) ⊎ ((n ≡ 4 * index + 1) ⊎ ((n ≡ 4 * index + 2) ⊎ (n ≡ 4 * index + 3)))
one_of_four index n at = elim (cases_eq n (4 * index)) [
  | inl a ↦ inl a
  | inr a ↦ elim (cases_eq n (4 * index + 1)) [
    | inl b ↦ inr (inl b)
    | inr b ↦ elim (cases_eq n (4 * index + 2)) [
      | inl d ↦ inr (inr (inl d))
      | inr d ↦ inr (inr (inr (omega (arith, at, a, b, d))))
    ]
  ]
]

-- four numbers that come in or go, one after another
pub record IsChanged (inside : Bool) (number : ℕ) (old now : SlotSet) : Type 0 where
  pub this : contains now number ≡ inside
  pub same : (n : ℕ) → (n ≡ number → ⊥) → contains now n ≡ contains old n

pub IsChanged-insert : (number : ℕ) (old now : SlotSet) → now ≡ insert old number → IsChanged true number old now
IsChanged-insert number old now is = record {
  this = ap (λ s. contains s number) is ∙ contains-insert_same old number;
  same = λ n apart. ap (λ s. contains s n) is ∙ contains-insert_other old number n apart;
}

pub IsChanged-remove : (number : ℕ) (old now : SlotSet) → now ≡ remove old number → IsChanged false number old now
IsChanged-remove number old now is = record {
  this = ap (λ s. contains s number) is ∙ contains-remove_same old number;
  same = λ n apart. ap (λ s. contains s n) is ∙ contains-remove_other old number n apart;
}

-- what was so stays so with a change
stays : (inside : Bool) (number : ℕ) (old now : SlotSet) → IsChanged inside number old now → (n : ℕ) → contains old n ≡ inside → contains now n ≡ inside
stays inside number old now changed n was = elim (cases_eq n number) [
  | inl same ↦ ap (contains now) same ∙ changed.this
  | inr apart ↦ changed.same n apart ∙ was
]

module _ (inside : Bool) (index : ℕ) (s0 s1 s2 s3 s4 : SlotSet) (a : IsChanged inside (4 * index) s0 s1) (b : IsChanged inside (4 * index + 1) s1 s2)
    (d : IsChanged inside (4 * index + 2) s2 s3) (e : IsChanged inside (4 * index + 3) s3 s4) where
  pub HasAll-four : HasAll index inside s4
  HasAll-four n at = elim (one_of_four index n at) [
    | inl first ↦ stays inside _ s3 s4 e n (stays inside _ s2 s3 d n (stays inside _ s1 s2 b n (ap (contains s1) first ∙ a.this)))
    | inr (inl second) ↦ stays inside _ s3 s4 e n (stays inside _ s2 s3 d n (ap (contains s2) second ∙ b.this))
    | inr (inr (inl third)) ↦ stays inside _ s3 s4 e n (ap (contains s3) third ∙ d.this)
    | inr (inr (inr fourth)) ↦ ap (contains s4) fourth ∙ e.this
  ]

  pub AgreeApart-four : AgreeApart index s0 s4
  AgreeApart-four n apart =
      e.same n (λ is. apart (omega (arith, is))) ∙ d.same n (λ is. apart (omega (arith, is))) ∙ b.same n (λ is. apart (omega (arith, is)))
      ∙ a.same n (λ is. apart (omega (arith, is)))

-- of the numbers of a group the first few have taken the places of those of another
pub record AreMoved (from to few : ℕ) (old now : SlotSet) : Type 0 where
  pub this : (k : ℕ) → k < few → contains now (4 * to + k) ≡ contains old (4 * from + k)
  pub gone : (k : ℕ) → k < few → contains now (4 * from + k) ≡ false
  pub same : (n : ℕ) → ((k : ℕ) → k < few → (n ≡ 4 * from + k → ⊥) × (n ≡ 4 * to + k → ⊥)) → contains now n ≡ contains old n

pub AreMoved-none : (from to : ℕ) (s : SlotSet) → AreMoved from to 0 s s
AreMoved-none from to s = record {
  this = λ k few. absurd (omega (arith, few));
  gone = λ k few. absurd (omega (arith, few));
  same = λ n apart. refl;
}

module _ (from to few : ℕ) (order : to < from) (low : few < 4) (old now after : SlotSet) (moved : AreMoved from to few old now) (next : IsMoved (4 * from + few) (4 * to + few) now after) where
  -- a number that is neither of the two
  other_to : (k : ℕ) → k < few → contains after (4 * to + k) ≡ contains now (4 * to + k)
  other_to k less = next.same (4 * to + k) (λ e. absurd (omega (arith, e, order, less, low))) (λ e. absurd (omega (arith, e, less)))

  other_from : (k : ℕ) → k < few → contains after (4 * from + k) ≡ contains now (4 * from + k)
  other_from k less = next.same (4 * from + k) (λ e. absurd (omega (arith, e, less))) (λ e. absurd (omega (arith, e, order, less, low)))

  pub AreMoved-next : AreMoved from to (few + 1) old after
  AreMoved-next = record {
    this = λ k less. elim (cases_eq k few) [
      | inl same ↦ ap (λ n. contains after (4 * to + n)) same ∙ next.this
          ∙ moved.same (4 * from + few) (λ n under. (λ e. absurd (omega (arith, e, under)), λ e. absurd (omega (arith, e, under, order, low))))
          ∙ ap (λ n. contains old (4 * from + n)) (sym same)
      | inr apart ↦ let under : k < few = omega (arith, less, apart) in other_to k under ∙ moved.this k under
    ];
    gone = λ k less. elim (cases_eq k few) [
      | inl same ↦ ap (λ n. contains after (4 * from + n)) same ∙ next.gone
      | inr apart ↦ let under : k < few = omega (arith, less, apart) in other_from k under ∙ moved.gone k under
    ];
    same = λ n apart. next.same n (apart few (omega arith)).0 (apart few (omega arith)).1 ∙ moved.same n (λ k under. apart k (omega (arith, under)));
  }

-- the first of them
pub AreMoved-first : (from to : ℕ) → to < from → (old after : SlotSet) → IsMoved (4 * from) (4 * to) old after → AreMoved from to 1 old after
AreMoved-first from to order old after moved = AreMoved-next from to 0 order (omega arith) old old after (AreMoved-none from to old) (record {
  this = ap (contains after) (omega arith) ∙ moved.this ∙ ap (contains old) (omega arith);
  gone = ap (contains after) (omega arith) ∙ moved.gone;
  same = λ n apart other. moved.same n (λ e. apart (omega (arith, e))) (λ e. other (omega (arith, e)));
})
