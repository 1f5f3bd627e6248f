-- Each step of a latch keeps its rule.
use Rattle.std.proofs.lemmas.Bool.{true≢false}
use Rattle.std.proofs.Common.{sym, Bool, true, ◌≡◌, ℕ, [], ◌∷◌, length, get_or, set, refl, ap, ◌∙◌, arith, length-set, get_or-set_same}
use Rattle.std.specs.Prelude.{List, None, Option, Some}
use mathlib.Core.Logic.{dite}
use mathlib.Core.Option.{some}
use native.Mathlib.Decide.{ℕ_discrete}
use lib.ListN.{get_elem?}
use Rattle.atomic_table.specs.Table.{State, Me, step, keeps, takes, gives, Allows, Arrives, put_back}
use Rattle.atomic_table.proofs.Lists.{set_here}
use Rattle.latch.specs.Rule.{HasSlot, IsKept, took, gave}

-- a slot that is there has a value
pub slot_value : {T : Type 0} → (slots : List (ℕ × Option T)) → HasSlot slots → (value : T) × (slots ≡ (4, Some value) ∷ [])
slot_value ((number, None) ∷ slots) has = absurd (true≢false (ap (λ (slots : List (ℕ × Bool)). (get_or slots 0 (0, true)).1) (sym has)))
slot_value ((number, Some value) ∷ []) has =
    let four : number ≡ 4 = ap (λ (slots : List (ℕ × Bool)). (get_or slots 0 (0, true)).0) has in (value, rw four refl)
slot_value slots has = absurd cc

pub HasSlot-some : {T : Type 0} → (slots : List (ℕ × Option T)) (value : T) → slots ≡ (4, Some value) ∷ [] → HasSlot slots
HasSlot-some slots value one = rw one refl

module _ {T : Type 0} where
  -- a swap with 1 takes the slot where it finds 0
  pub takes_it : (slots : ℕ) (before : Me (Option T) (Unit {0})) → Arrives (IsKept {T = T}) slots 16 (λ _. 1) (took (step slots 16 1 0 mathlib.Core.Option.none) before)
  takes_it slots before s kept long small = dite (ℕ_discrete (get_or s.words 16 0) 0)
      (λ free. let there = kept.2 free in (
        tt,
        takes 4 (Some there.0),
        there.1,
        (length-set s.words 16 1 ∙ kept.0, length-set s.homes 4 _ ∙ kept.1, λ zero. absurd (taken s kept.0 zero)),
        λ _. (there.0, refl),
      ))
      (λ held. (
        tt,
        keeps,
        tt,
        (length-set s.words 16 1 ∙ kept.0, kept.1, λ zero. absurd (taken s kept.0 zero)),
        λ free. absurd (held free),
      )) where
        taken : (s : State (Option T) (Unit {0})) → length s.words ≡ 32 → get_or (set s.words 16 1) 16 0 ≡ 0 → ⊥
        taken s wide zero = let one : get_or (set s.words 16 1) 16 0 ≡ 1 = get_or-set_same s.words 16 1 0 (omega arith) in absurd (omega arith)

  -- who has the slot, with a value, gives it back as it stores 0
  pub gives_it : (slots id : ℕ) (me : Me (Option T) (Unit {0})) (value : T) → me.1 ≡ (4, Some value) ∷ []
      → Allows (IsKept {T = T}) slots id me 16 (λ _. 0) (λ _. gave (step slots 16 0 0 mathlib.Core.Option.none) me 0)
  gives_it slots id me value has s kept long at small = (
    tt,
    gives,
    tt,
    (
      length-set s.words 16 0 ∙ kept.0,
      ap (λ held. length (put_back s.homes held)) has ∙ (length-set s.homes 4 _ ∙ kept.1),
      λ _. (value, ap (λ held. get_elem? (put_back s.homes held) 4) has ∙ set_here s.homes 4 (some (Some value)) (let n = kept.1 in omega arith)),
    ),
    tt,
  )
