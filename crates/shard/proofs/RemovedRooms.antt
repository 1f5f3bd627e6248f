-- A number that is taken out of a set if it is in it.
use Rattle.std.proofs.Common.{◌≡◌, ℕ, Bool, true, false, ◌∙◌, ap, sym, refl, inl, inr}
use Rattle.std.specs.Bool.{if◌then◌else◌}
use Rattle.std.specs.FinSet as set
use Rattle.std.proofs.lemmas.Bool.{cases_eq}
use Rattle.bitmap.specs.Slots.{SlotSet}
use Rattle.bitmap.specs.Words.{same_slots}
use Rattle.bitmap.proofs.Summaries.{contains-remove_other, contains-remove_same}

pub removed-if : (s : SlotSet) (number : ℕ) (held : Bool) → held ≡ set.contains s number → (if held then set.remove s number else s) ≡ set.remove s number
removed-if s number true is = refl
removed-if s number false is = same_slots _ _ (λ q. elim (cases_eq q number) [
  | inl same ↦ ap (set.contains s) same ∙ sym is ∙ sym (ap (set.contains (set.remove s number)) same ∙ contains-remove_same s number)
  | inr other ↦ sym (contains-remove_other s number q other)
])
