use Rattle.std.proofs.Common.{◌≡◌, ◌≤◌, List, Option, Some, None, IfSome, length, arith, subst, sym, ◌∙◌}
use Rattle.std.specs.Prelude.{◌↔◌, IsSome, MatchOption}
use Rattle.std.proofs.lemmas.Bool.{true≢false}
use Rattle.std.proofs.lemmas.List.{length-map}
use Rattle.span.specs.Classes.{IsObject, class_with, width_of}
use Rattle.span.specs.declared.class.Class.{Class}
use Rattle.span.proofs.Widths.{IsObject-width, width_of-most}
use Rattle.teurlaks_c.specs.declared.replies.RawWord.{RawWord}
use Rattle.teurlaks_c.specs.Words.{word_of, words_of}
use Rattle.teurlaks_c.proofs.words.class_for.Goals as goal

-- the class of so many words is that of the words themselves
class_for-words : (words : List RawWord) (found : Option Class) → (IsSome found ↔ length words ≡ width_of (class_with (length words)))
    → IfSome found (λ class. width_of class ≡ length words)
    → MatchOption found (IsObject (words_of words) → ⊥) (λ class. IsObject (words_of words) × (length (words_of words) ≡ width_of class))
class_for-words words None some width = λ object. true≢false (sym (some.1 (subst (λ n. n ≡ width_of (class_with n)) (length-map words word_of) object)))
class_for-words words (Some class) some width = (IsObject-width (words_of words) class wide, wide)
  where
    wide : length (words_of words) ≡ width_of class
    wide = length-map words word_of ∙ sym width

class_for-most : (words : List RawWord) (found : Option Class) → IfSome found (λ class. width_of class ≡ length words) → IfSome found (λ class. length words ≤ 16)
class_for-most words None width = tt
class_for-most words (Some class) width = omega (arith, width, width_of-most class)

pub returns-clause-class : goal.returns-clause-class
returns-clause-class c = class_for-words c.args.words.now c.of_words.result c.of_words.ensures.some c.of_words.ensures.width

pub returns-clause-most : goal.returns-clause-most
returns-clause-most c = class_for-most c.args.words.now c.of_words.result c.of_words.ensures.width
