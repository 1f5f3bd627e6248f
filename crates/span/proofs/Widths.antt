-- Which class so many words are of, and what all classes have in common.
use Rattle.std.proofs.Common.{zero, suc, ◌≡◌, true, eqb, eqb-true, ◌≤◌, ◌<◌, ◌+◌, ◌*◌, ℕ, List, length, ap, sym, ◌∙◌, refl, arith, rules}
use Rattle.std.proofs.lemmas.Bool.{agree_below_at}
use Rattle.std.proofs.Math.Nat.{mul-le-mul_right}
use Rattle.span.specs.Classes.{IsObject, class_of, class_with, number_of, slots_in, width_of}
use Rattle.span.specs.declared.class.Class.{Class}

pub class_with-width : (class : Class) → class_with (width_of class) ≡ class
class_with-width class = search rules

-- each number of words from 1 to 16 is that of a class
pub width_of-class_with : (words : ℕ) → 1 ≤ words → words ≤ 16 → width_of (class_with words) ≡ words
width_of-class_with zero least most = absurd (omega (arith, least))
width_of-class_with (suc words) least most =
    eqb-true _ _ (agree_below_at (λ k. eqb (width_of (class_with (suc k))) (suc k)) (λ k. true) 16 words refl (omega (arith, most)))

pub class_of-width : (words : List ℕ) (class : Class) → length words ≡ width_of class → class_of words ≡ class
class_of-width words class width = ap class_with width ∙ class_with-width class

pub IsObject-width : (words : List ℕ) (class : Class) → length words ≡ width_of class → IsObject words
IsObject-width words class width = width ∙ ap width_of (sym (class_of-width words class width))

-- no two classes are equally wide
pub width_of-injective : (a b : Class) → width_of a ≡ width_of b → a ≡ b
width_of-injective a b same = sym (class_with-width a) ∙ ap class_with same ∙ class_with-width b

pub number_of-width : (class : Class) → number_of class + 1 ≡ width_of class
number_of-width class = search rules

pub number_of-injective : (a b : Class) → number_of a ≡ number_of b → a ≡ b
number_of-injective a b same = width_of-injective a b (sym (number_of-width a) ∙ ap (λ n. n + 1) same ∙ number_of-width b)

-- an object has 1 to 16 words
pub width_of-least : (class : Class) → 1 ≤ width_of class
width_of-least class = omega (arith, number_of-width class)

pub width_of-most : (class : Class) → width_of class ≤ 16
width_of-most class = search rules

pub number_of-most : (class : Class) → number_of class < 16
number_of-most class = omega (arith, number_of-width class, width_of-most class)

-- the slots of a page fit into its 256 words
pub slots_in-fit : (class : Class) → width_of class * slots_in class ≤ 256
slots_in-fit class = search rules

-- and one more does not
pub slots_in-full : (class : Class) → 256 < width_of class * (slots_in class + 1)
slots_in-full class = search rules

pub slots_in-most : (class : Class) → slots_in class ≤ 256
slots_in-most class = omega (arith, slots_in-fit class, mul-le-mul_right (slots_in class) (width_of-least class))

pub slots_in-least : (class : Class) → 16 ≤ slots_in class
slots_in-least class = omega (arith, slots_in-full class, mul-le-mul_right (slots_in class + 1) (width_of-most class))
