-- Verbs that name a class.
use Rattle.trace_text.proofs.Names.{common_steps, ◌≡◌, ◌∙◌, ℕ, ◌*◌, ◌%◌, ◌<◌, ◌^◌, ◌==◌, ◌&&◌, ◌||◌, nat_lt, nat_le, Bool, true, false, List, ◌++◌, length, get_or, Option, Some, None, is_some, codes, arith, sym, inl, inr, eqb-true, eq-eqb, rules, range_with_len, bytes_eq, and_parts, cases_Bool, or_left, or_right, nat_tests, length-append, take-append-drop, list_any_at, list_any_none, get_or-range_with_len, option_and_then_some, bytes_eq-Decides, number_in, same_bytes, word-number, Class, class_with-width, number_of-most, number_of-width, width_of-class_with, width_of-injective, width_of-least, width_of-most, class_behind, class_filled, class_of_bytes, class_of_size, class_put, fill_verb, is_binding_verb, put_verb, size_text}
use Rattle.std.specs.Fmt.{decimal}
use Rattle.std.proofs.Math.Seq.{drop-append_seam, take-append_seam}
use Rattle.std.proofs.lemmas.Fmt.{decimal_is_IsNumeral}
use Rattle.std.proofs.lemmas.List.{append-nil}
use Rattle.certificate.proofs.ReadAgain.{bytes_eq-same, number_in-decimal}
use Rattle.span.specs.Classes.{class_with, number_of, width_of}
use Rattle.trace_text.proofs.Tests.{chosen}

-- ---- the verb of a class names it

class_of_bytes-width : (class : Class) → (width_of class == 1) ≡ false → class_of_bytes (16 * width_of class) ≡ Some class
class_of_bytes-width class wide = search (rules, nat_lt, nat_tests, width_of-least, nat_le, width_of-most, eq-eqb, class_with-width)

-- a word with more behind it is not the word
longer : (word more : List ℕ) → 0 < length more → bytes_eq (word ++ more) word ≡ false
longer word more some = grind (arith, common_steps, cases_Bool, length-append, same_bytes)

class_behind-again : (word : List ℕ) (class : Class) → class_behind word (word ++ size_text class) ≡ Some class
class_behind-again word class =
    search (rules, cases_Bool, append-nil, bytes_eq-same, width_of-injective, eqb-true, width_of-most, longer, decimal_is_IsNumeral, take-append_seam, drop-append_seam, number_in-decimal, class_of_bytes-width)

pub class_put-again : (class : Class) → class_put (put_verb class) ≡ Some class
class_put-again class = class_behind-again (codes "put") class

pub class_filled-again : (class : Class) → class_filled (fill_verb class) ≡ Some class
class_filled-again class = class_behind-again (codes "fill") class

-- ---- a verb names the class whose verb it is

size_text-bytes : (class : Class) (n : ℕ) → class_of_bytes n ≡ Some class → size_text class ≡ decimal n
size_text-bytes class n e = search (rules, chosen, nat_lt, nat_le, and_parts, eqb-true, nat_tests, width_of-class_with)

class_of_size-found : (digits : List ℕ) (class : Class) → class_of_size digits ≡ Some class → digits ≡ size_text class
class_of_size-found digits class e = option_and_then_some class_of_bytes (number_in digits) class e
    (λ n said then. word-number digits n said (small n then) ∙ sym (size_text-bytes class n then))
  where
    small : (n : ℕ) → class_of_bytes n ≡ Some class → n < 2 ^ 64
    small n e = elim (chosen (nat_lt 16 n && (nat_le n 256 && (n % 16 == 0))) _ None (Some class) e) [
      | inl p ↦ let high = and_parts (nat_le n 256) (n % 16 == 0) (and_parts (nat_lt 16 n) (nat_le n 256 && (n % 16 == 0)) p.0).1 in grind (arith, nat_tests, high.0)
      | inr p ↦ cc p.1
    ]

class_behind-found : (word verb : List ℕ) (class : Class) → class_behind word verb ≡ Some class → verb ≡ word ++ size_text class
class_behind-found word verb class e = search (rules, chosen, same_bytes, append-nil, take-append-drop, class_of_size-found)

pub class_put-found : (verb : List ℕ) (class : Class) → class_put verb ≡ Some class → verb ≡ put_verb class
class_put-found verb class e = class_behind-found (codes "put") verb class e

pub class_filled-found : (verb : List ℕ) (class : Class) → class_filled verb ≡ Some class → verb ≡ fill_verb class
class_filled-found verb class e = class_behind-found (codes "fill") verb class e

-- ---- the verbs that name a class

-- the verb is that of a put or of a fill of the class
abbrev is_verb_of : List ℕ → Class → Bool
is_verb_of verb class = bytes_eq verb (put_verb class) || bytes_eq verb (fill_verb class)

binds_some : (verb : List ℕ) (class : Class) → is_verb_of verb class ≡ true → is_binding_verb verb ≡ true
binds_some verb class is =
    let at : get_or (range_with_len 1 16) (number_of class) 0 ≡ width_of class = get_or-range_with_len 1 16 (number_of class) 0 (number_of-most class) ∙ omega (arith, number_of-width class) in
    list_any_at (λ words. is_verb_of verb (class_with words)) (range_with_len 1 16) (number_of class) 0 (number_of-most class) (rw (at, class_with-width class) is)

is_put_verb : (verb : List ℕ) (class : Class) → class_put verb ≡ Some class → is_verb_of verb class ≡ true
is_put_verb verb class named = or_left (bytes_eq verb (put_verb class)) (bytes_eq verb (fill_verb class)) ((bytes_eq-Decides verb (put_verb class)).1 (class_put-found verb class named))

is_fill_verb : (verb : List ℕ) (class : Class) → class_filled verb ≡ Some class → is_verb_of verb class ≡ true
is_fill_verb verb class named = or_right (bytes_eq verb (put_verb class)) (bytes_eq verb (fill_verb class)) ((bytes_eq-Decides verb (fill_verb class)).1 (class_filled-found verb class named))

not_put : (verb : List ℕ) (class : Class) → class_put verb ≡ None → bytes_eq verb (put_verb class) ≡ false
not_put verb class none = search (rules, cases_Bool, same_bytes, class_put-again)

not_fill : (verb : List ℕ) (class : Class) → class_filled verb ≡ None → bytes_eq verb (fill_verb class) ≡ false
not_fill verb class none = search (rules, cases_Bool, same_bytes, class_filled-again)

-- a verb binds if it names a class
pub is_binding_verb-named : (verb : List ℕ) (put filled : Option Class) → class_put verb ≡ put → class_filled verb ≡ filled → is_binding_verb verb ≡ (is_some put || is_some filled)
is_binding_verb-named verb (Some class) filled put_is fill_is = binds_some verb class (is_put_verb verb class put_is)
is_binding_verb-named verb None (Some class) put_is fill_is = binds_some verb class (is_fill_verb verb class fill_is)
is_binding_verb-named verb None None put_is fill_is = search (rules, list_any_none, not_put, not_fill)
