-- Words of which an object is made are kept in the one way that such words are.
use Rattle.std.proofs.Common.{◌≡◌, ℕ, ◌-◌, List, ◌++◌, length, replicate, rules}
use Rattle.std.proofs.lemmas.Bool.{ne_eqb}
use Rattle.std.proofs.Math.Seq.{take-append_seam}
use Rattle.span.specs.Classes.{width_of}
use Rattle.span.specs.Objects.{IsKept}
use Rattle.span.proofs.Widths.{IsObject-width, class_of-width}
use Rattle.span.specs.declared.class.Class.{Class}
use Rattle.span.specs.declared.object.Words.TheVariants.{More}

pub IsKept-padded : (class : Class) (words zeros : List ℕ) → length words ≡ width_of class → (length words ≡ 1 → ⊥) → zeros ≡ replicate (16 - length words) 0
    → IsKept (More class (words ++ zeros))
IsKept-padded class words zeros long wide are = search (rules, take-append_seam, IsObject-width, ne_eqb, class_of-width)
