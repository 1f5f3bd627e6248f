-- The classes, told apart, and the set that each has.
use Rattle.std.proofs.Common.{◌≡◌, ◌⊎◌, ℕ, zero, suc, ◌+◌, Some, slice_get, subst, ◌<◌, ◌≤◌, List, length, refl, inl, inr, ap, arith, sym, ◌∙◌, rules}
use Rattle.std.proofs.lemmas.Bool.{cases_eq, cases_lt, true≢false}
use Rattle.std.specs.FinSet.{contains-empty}
use Rattle.std.specs.Ordering.{nat_cmp}
use Rattle.bitmap.specs.Numbers.{NumbersState}
use Rattle.span.specs.Classes.{class_with, number_of}
use Rattle.span.specs.declared.class.Class.{Class}
use Rattle.span.specs.declared.class.TheConstants.{CLASSES}
use Rattle.span.proofs.Widths.{number_of-injective, number_of-width, width_of-class_with}
use Rattle.span.specs.State.{SpanState}
use Rattle.groups.specs.Group.{spans_of, with_span}
use Rattle.groups.proofs.Lists.{same_some}
use Rattle.shard.specs.Group.{GroupState}
use Rattle.shard.specs.Rooms.{HasRoomAt, set_at}
use Rattle.shard.proofs.ListedSets.{set_at-past}

pub cases_class : (a b : Class) → (a ≡ b) ⊎ (a ≡ b → ⊥)
cases_class a b = search (rules, cases_eq, number_of-injective)

-- each number below that of the classes is that of a class
class_numbered : (n : ℕ) → n < CLASSES → (class : Class) × (number_of class ≡ n)
class_numbered n low =
    let class = class_with (n + 1) in (class, omega (arith, number_of-width class, width_of-class_with (n + 1) (omega arith) (omega (arith, low))))

-- a group keeps its class where one of its spans is replaced by one of the same class
pub class-with_span : (group : GroupState) (place : ℕ) (span changed : SpanState) → slice_get (spans_of group) place ≡ Some span → changed.class ≡ span.class
    → (with_span group place changed).head.class ≡ group.head.class
class-with_span group zero span changed here same = same ∙ ap (λ (s : SpanState). s.class) (sym (same_some here))
class-with_span group (suc place) span changed here same = refl

-- what holds of the sets of all classes holds of all sets
pub HasRoomAt-each : (index : ℕ) (sets : List NumbersState) → length sets ≤ CLASSES → ((class : Class) → HasRoomAt index (set_at sets (number_of class)))
    → (at : ℕ) → HasRoomAt index (set_at sets at)
HasRoomAt-each index sets few each at = elim (cases_lt at CLASSES) [
  | inl low ↦ let it = class_numbered at low in subst (λ n. HasRoomAt index (set_at sets n)) it.1 (each it.0)
  | inr past ↦ rw (set_at-past sets at (omega (arith, few, past))) (λ n member. absurd (true≢false (sym member ∙ contains-empty nat_cmp n)))
]
