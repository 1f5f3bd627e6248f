-- A text that the grammar accepts is spelled in one way: as the certificate that it says is written.
use Rattle.std.proofs.lemmas.Grind.{common_steps}
use Rattle.std.proofs.Common.{ℕ, ◌+◌, ◌/◌, ◌^◌, ◌<◌, ◌≤◌, ◌≡◌, ◌==◌, ◌&&◌, ◌||◌, cond, not, Bool, true, false, List, [], ◌∷◌, ◌++◌, codes, length, map, get_or, drop, Option, Some, None, Result, Ok, Err, refl, sym, subst, ◌∙◌, ap, arith, zero, suc, inl, inr, nat_lt, nat_le, nat_eq, eqb-true, rules}
use Rattle.std.specs.Char.{is_ascii_digit}
use Rattle.std.specs.Fmt.{decimal}
use Rattle.std.specs.List.{AllByRecursion, join_with_byte, list_all}
use Rattle.std.specs.Str.{bytes_eq}
use Rattle.std.specs.Str.Parse.{AllDigits, digits_value}
use Rattle.std.proofs.lemmas.Bool.{and_parts, false≢true, leb-true, ltb-true, or_cases}
use Rattle.std.proofs.lemmas.Fmt.{decimal-digits_value}
use Rattle.std.proofs.lemmas.List.{append_assoc, drop_more, length-drop, nil_from_length}
use Rattle.std.proofs.lemmas.List.Splits.{join_with_byte-slice_split}
use Rattle.std.proofs.lemmas.Slice.Eq.{bytes_eq-Decides}
use Rattle.std.proofs.lemmas.Str.Parse.{IsNumeralModel}
use Rattle.bitmap.specs.Slots.{SlotSet, set_text}
use Rattle.bitmap.proofs.HexText.{set_text-slots_of_text}
use Rattle.span.specs.Classes.{class_with}
use Rattle.span.specs.declared.class.Class.{Class}
use Rattle.span.specs.declared.class.Class.TheVariants.{C16}
use Rattle.span.specs.declared.limits.TheConstants.{MOST_SHARDS, MOST_SPANS}
use Rattle.certificate.specs.declared.text.cause.Cause.{Cause}
use Rattle.certificate.specs.declared.text.cause.Cause.TheVariants.{Form, Limit}
use Rattle.certificate.specs.declared.text.version.Version.{Version}
use Rattle.certificate.specs.declared.text.version.Version.TheVariants.{One}
use Rattle.certificate.specs.Grammar.{◌>>=◌, Id, Listed, Outline, at_line, body_in, both, class_in, class_of_number, count_in, count_of_number, count_of_words, end_in, ending_in, entry_in, entry_of, id_in, id_of_numbers, id_of_parts, is_wanted, item_in, items_in, last_in, line_in, list_in, names_class, pair_in, pair_of_words, set_in, slot_bytes, spans_in}
use Rattle.certificate.specs.Number.{is_numeral, number_in}
use Rattle.certificate.specs.Text.{class_text}
use Rattle.certificate.specs.Words.{parts_of}
use Rattle.certificate.proofs.Digits.{AllDigits-from_test}
use Rattle.certificate.proofs.ReadAgain.{slot_bytes-most, title_body}
use Rattle.mesh_graph.specs.declared.build.TheConstants.{MOST_GROUPS}

-- ---- steps that were taken

pub >>=-ok : {A B E : Type 0} (r : Result A E) (next : A → Result B E) (b : B) → (r >>= next) ≡ Ok b → (a : A) × (r ≡ Ok a) × (next a ≡ Ok b)
>>=-ok (Ok a) next b h = (a, refl, h)
>>=-ok (Err e) next b h = cc

-- one answer is one value
pub said-once : {A E : Type 0} (r : Result A E) (a b : A) → Ok a ≡ r → r ≡ Ok b → a ≡ b
said-once r a b first second = cc

pub at_line-ok : {X : Type 0} (at : ℕ) (r : Result X Cause) (x : X) → at_line at r ≡ Ok x → r ≡ Ok x
at_line-ok at (Ok y) x h = cc
at_line-ok at (Err cause) x h = cc

pub if-ok : {X E : Type 0} (b : Bool) (x y : X) (e : E) → cond b (Ok x) (Err e) ≡ Ok y → (b ≡ true) × (x ≡ y)
if-ok true x y e h = (refl, cc)
if-ok false x y e h = cc

-- ---- words

number_in-some : (word : List ℕ) (n : ℕ) → number_in word ≡ Some n → (is_numeral word ≡ true) × (digits_value 10 word ≡ n)
number_in-some word n h = search (rules)

own_digits : IsNumeralModel (AllDigits 10) (digits_value 10)
own_digits = record { to = λ ds h. h; from = λ ds h. h; same = λ ds h. refl }

-- a number below 2 ^ 64 is its own decimal
pub word-number : (word : List ℕ) (n : ℕ) → number_in word ≡ Some n → n < 2 ^ 64 → word ≡ decimal n
word-number word n h fits =
    let p = number_in-some word n h in
    let some = and_parts (nat_lt 0 (length word)) ((length word == 1 || not (get_or word 0 0 == 48)) && list_all is_ascii_digit word) p.0 in
    let more = and_parts (length word == 1 || not (get_or word 0 0 == 48)) (list_all is_ascii_digit word) some.1 in
    let long : 0 < length word = leb-true 1 (length word) some.0 in
    let lead : get_or word 0 0 ≡ 48 → length word ≡ 1 = λ zero_first. elim (or_cases (length word == 1) (not (get_or word 0 0 == 48)) more.0) [
      | inl one ↦ eqb-true (length word) 1 one
      | inr none ↦ absurd (false≢true (rw zero_first at none))
    ] in
    sym (decimal-digits_value own_digits word (AllDigits-from_test word more.1) long lead (omega (arith, p.1))) ∙ ap decimal p.1

-- an id by its numbers, written
abbrev pub id_word : Id → List ℕ
id_word i = decimal i.0 ++ codes "." ++ decimal i.1

pub id_of_numbers-ok : (version : Version) (a b : Option ℕ) (i : Id) → id_of_numbers version a b ≡ Ok i
    → (a ≡ Some i.0) × (b ≡ Some i.1) × (i.0 < MOST_SHARDS) × (i.1 < spans_in version)
id_of_numbers-ok version (Some a) (Some b) i h = search (rules, if-ok, nat_lt, and_parts, ltb-true)
id_of_numbers-ok version a b i h = cc

-- no version names a serial that no span has
pub spans_in-all : (version : Version) → spans_in version ≤ MOST_SPANS
spans_in-all One = omega arith
spans_in-all version = omega arith

id_of_parts-ok : (version : Version) (parts : List (List ℕ)) (i : Id) → id_of_parts version parts ≡ Ok i → parts ≡ decimal i.0 ∷ decimal i.1 ∷ []
id_of_parts-ok version (shard ∷ serial ∷ []) i h = search (rules, id_of_numbers-ok, spans_in-all, word-number)
id_of_parts-ok version parts i h = cc

word-id : (version : Version) (word : List ℕ) (i : Id) → id_in version word ≡ Ok i → word ≡ id_word i
word-id version word i h =
    sym (join_with_byte-slice_split 46 word)
    ∙ ap (join_with_byte 46) (id_of_parts-ok version (parts_of 46 word) i h)
    ∙ sym (append_assoc (decimal i.0) (codes ".") (decimal i.1))

-- the number that is a class is the bytes of its slots
class_of_number-ok : (version : Version) (number : Option ℕ) (class : Class) → class_of_number version number ≡ Ok class
    → (number ≡ Some (slot_bytes class)) × (names_class version class ≡ true)
class_of_number-ok version None class h = cc
class_of_number-ok version (Some n) class h =
    let found : Class = class_with (n / 16) in
    let p = if-ok (nat_eq (slot_bytes found) n && names_class version found) found class Limit h in
    let both = and_parts (nat_eq (slot_bytes found) n) (names_class version found) p.0 in
    (ap Some (sym (eqb-true (slot_bytes found) n both.0) ∙ ap slot_bytes p.1), ap (names_class version) (sym p.1) ∙ both.1)

word-class : (version : Version) (word : List ℕ) (class : Class) → class_in version word ≡ Ok class → word ≡ class_text class
word-class version word class h =
    let few = slot_bytes-most class in
    word-number word (slot_bytes class) (class_of_number-ok version (number_in word) class h).0 (omega (arith, few))

-- a class that was read is one that the version names
pub class_in-named : (version : Version) (word : List ℕ) (class : Class) → class_in version word ≡ Ok class → names_class version class ≡ true
class_in-named version word class h = (class_of_number-ok version (number_in word) class h).1

word-set : (class : Class) (word : List ℕ) (slots : SlotSet) → set_in class word ≡ Ok slots → word ≡ set_text slots
word-set class word slots h = search (rules, if-ok, and_parts, set_text-slots_of_text)

-- ---- lines

-- what parses is spelled so
abbrev pub Spells : {X : Type 0} → (List ℕ → Result X Cause) → (X → List ℕ) → Type 0
Spells {X} parse spelled = (line : List ℕ) (x : X) → parse line ≡ Ok x → line ≡ spelled x

two_words : (line first second : List ℕ) → parts_of 32 line ≡ first ∷ second ∷ [] → line ≡ first ++ (codes " " ++ second)
two_words line first second h = sym (join_with_byte-slice_split 32 line) ∙ ap (join_with_byte 32) h

-- a group's line in each version
abbrev pub entry_words : Version → Listed → List ℕ
entry_words One x = id_word x.id ++ (codes " " ++ set_text x.occupied)
entry_words other x = id_word x.id ++ (codes " " ++ (class_text x.class ++ (codes " " ++ set_text x.occupied)))

three_words : (line first second third : List ℕ) → parts_of 32 line ≡ first ∷ second ∷ third ∷ [] → line ≡ first ++ (codes " " ++ (second ++ (codes " " ++ third)))
three_words line first second third h = sym (join_with_byte-slice_split 32 line) ∙ ap (join_with_byte 32) h

pub both-ok : {A B : Type 0} (a : Result A Cause) (b : Result B Cause) (p : A × B) → both a b ≡ Ok p → (a ≡ Ok p.0) × (b ≡ Ok p.1)
both-ok {A} {B} (Ok a) (Ok b) p h = search (rules)
both-ok (Err Form) b p h = cc
both-ok a (Err Form) p h = cc
both-ok a b p h = cc

-- the words of a group
pub entry_of-ok : (id : Result Id Cause) (class : Result Class Cause) (set : List ℕ) (x : Listed) → entry_of id class set ≡ Ok x → (id ≡ Ok x.id) × (class ≡ Ok x.class) × (set ≡ set_text x.occupied)
entry_of-ok id class set x h =
    let p = >>=-ok (both id class) (λ named. set_in named.1 set >>= (λ slots. Ok (record { id = named.0; class = named.1; occupied = slots }))) x h in
    let q = >>=-ok (set_in p.0.1 set) (λ slots. Ok (record { id = p.0.0; class = p.0.1; occupied = slots })) x p.2 in
    let same : record { id = p.0.0; class = p.0.1; occupied = q.0 } ≡ x = cc q.2 in
    let named = both-ok id class p.0 p.1 in (
      named.0 ∙ ap (λ (y : Listed). Ok y.id) same,
      named.1 ∙ ap (λ (y : Listed). Ok y.class) same,
      word-set p.0.1 set q.0 q.1 ∙ ap (λ (y : Listed). set_text y.occupied) same,
    )

entry_in-spells : (version : Version) → Spells (entry_in version) (entry_words version)
entry_in-spells version line x h = search (rules, entry_of-ok, two_words, word-id, three_words, word-class)

-- in version 1 a group is of 16 bytes a slot
abbrev pub IsOfVersion : Version → Listed → Type 0
IsOfVersion version x = version ≡ One → x.class ≡ C16

entry_in-version : (version : Version) (line : List ℕ) (x : Listed) → entry_in version line ≡ Ok x → IsOfVersion version x
entry_in-version One line x h is = search (rules, entry_of-ok)
entry_in-version version line x h is = cc

abbrev pub pair_words : Id × Id → List ℕ
pair_words p = id_word p.0 ++ (codes " " ++ id_word p.1)

pair_of_words-ok : (version : Version) (words : List (List ℕ)) (p : Id × Id) → pair_of_words version words ≡ Ok p → words ≡ id_word p.0 ∷ id_word p.1 ∷ []
pair_of_words-ok version (a ∷ b ∷ []) p h = search (rules, both-ok, word-id)
pair_of_words-ok version words p h = cc

pair_in-spells : (version : Version) → Spells (pair_in version) pair_words
pair_in-spells version line p h = two_words line (id_word p.0) (id_word p.1) (pair_of_words-ok version (parts_of 32 line) p h)

pub same_bytes : (xs ys : List ℕ) → bytes_eq xs ys ≡ true → xs ≡ ys
same_bytes xs ys h = (bytes_eq-Decides xs ys).0 h

count_of_number-ok : (number : Option ℕ) (n : ℕ) → count_of_number number ≡ Ok n → (number ≡ Some n) × (n ≤ MOST_GROUPS)
count_of_number-ok None n h = cc
count_of_number-ok (Some m) n h = search (rules, if-ok, nat_le, leb-true)

count_of_words-ok : (title : List ℕ) (words : List (List ℕ)) (n : ℕ) → count_of_words title words ≡ Ok n → words ≡ title ∷ decimal n ∷ []
count_of_words-ok title (word ∷ number ∷ []) n h = search (rules, count_of_number-ok, same_bytes, word-number)
count_of_words-ok title words n h = cc

count_in-spells : (title : List ℕ) → Spells (count_in title) (title_body title)
count_in-spells title line n h = two_words line title (decimal n) (count_of_words-ok title (parts_of 32 line) n h)

-- the last line is one word, of a text whose version is wanted
last_in-ok : (wanted : Bool) (line : List ℕ) (done : Unit {0}) → last_in wanted line ≡ Ok done → (line ≡ codes "end") × (wanted ≡ true)
last_in-ok wanted line done h = search (rules, same_bytes, if-ok)

last_in-spells : (wanted : Bool) → Spells (last_in wanted) (λ done. codes "end")
last_in-spells wanted line done h = (last_in-ok wanted line done h).0

-- ---- lines at their places

line_in-ok : {X : Type 0} (parse : List ℕ → Result X Cause) (parts : List (List ℕ)) (at : ℕ) (x : X) → line_in parse parts at ≡ Ok x → (at + 1 < length parts) × (parse (get_or parts at []) ≡ Ok x)
line_in-ok parse parts at x h = search (rules, nat_lt, ltb-true)

-- a line that was read stands first of those that were left
pub line_in-spells : {X : Type 0} (parse : List ℕ → Result X Cause) (spelled : X → List ℕ) (parts : List (List ℕ)) (at : ℕ) (x : X) → Spells parse spelled
    → at_line at (line_in parse parts at) ≡ Ok x → drop at parts ≡ spelled x ∷ drop (at + 1) parts
line_in-spells parse spelled parts at x spells h = search (rules, line_in-ok, at_line-ok, drop_more)

item_in-spells : {X : Type 0} (parse : List ℕ → Result X Cause) (spelled : X → List ℕ) (id_of : X → Id) (last : Option Id) → Spells parse spelled → Spells (item_in parse id_of last) spelled
item_in-spells parse spelled id_of last spells line x h = search (rules)

module _ {X : Type 0} (parse : List ℕ → Result X Cause) (spelled : X → List ℕ) (id_of : X → Id) (spells : Spells parse spelled) (parts : List (List ℕ)) where
  items_in-spells : (last : Option Id) (at n : ℕ) (xs : List X) → items_in parse id_of parts last at n ≡ Ok xs → (drop at parts ≡ map spelled xs ++ drop (at + n) parts) × (length xs ≡ n)
  items_in-spells last at zero xs h = search (rules)
  items_in-spells last at (suc n) xs h =
      let p = >>=-ok (at_line at (line_in (item_in parse id_of last) parts at)) (λ x. items_in parse id_of parts (Some (id_of x)) (at + 1) n >>= (λ more. Ok (x ∷ more))) xs h in
      let q = >>=-ok (items_in parse id_of parts (Some (id_of p.0)) (at + 1) n) (λ more. Ok (p.0 ∷ more)) xs p.2 in
      let same : p.0 ∷ q.0 ≡ xs = cc q.2 in
      let rest = items_in-spells (Some (id_of p.0)) (at + 1) n q.0 q.1 in
      let past : at + 1 + n ≡ at + suc n = omega arith in (
        line_in-spells (item_in parse id_of last) spelled parts at p.0 (item_in-spells parse spelled id_of last spells) p.1
            ∙ ap (λ ys. spelled p.0 ∷ ys) rest.0
            ∙ (λ k. map spelled (same k) ++ drop (past k) parts),
        ap length (sym same) ∙ ap suc rest.1,
      )

  -- a title and its items stand first of the lines that were left
  list_in-spells : (title : List ℕ) (at : ℕ) (xs : List X) → list_in title parse id_of parts at ≡ Ok xs
      → drop at parts ≡ title_body title (length xs) ∷ (map spelled xs ++ drop (at + 1 + length xs) parts)
  unfolding list_in
  list_in-spells title at xs h =
      let p = >>=-ok (at_line at (line_in (count_in title) parts at)) (items_in parse id_of parts None (at + 1)) xs h in
      let rest = items_in-spells None (at + 1) p.0 xs p.2 in
      line_in-spells (count_in title) (title_body title) parts at p.0 (count_in-spells title) p.1
      ∙ (λ k. title_body title (sym rest.1 k) ∷ drop (at + 1) parts)
      ∙ ap (λ ys. title_body title (length xs) ∷ ys) (rest.0 ∙ (λ k. map spelled xs ++ drop (at + 1 + sym rest.1 k) parts))

-- what holds of each item that is read holds of those of a list
module _ {X : Type 0} (parse : List ℕ → Result X Cause) (id_of : X → Id) (P : X → Type 0) (has : (line : List ℕ) (x : X) → parse line ≡ Ok x → P x) (parts : List (List ℕ)) where
  item_in-has : (last : Option Id) (line : List ℕ) (x : X) → item_in parse id_of last line ≡ Ok x → P x
  item_in-has last line x h = search (rules)

  items_in-have : (last : Option Id) (at n : ℕ) (xs : List X) → items_in parse id_of parts last at n ≡ Ok xs → AllByRecursion P xs
  items_in-have last at zero xs h = search (rules)
  items_in-have last at (suc n) xs h =
      let p = >>=-ok (at_line at (line_in (item_in parse id_of last) parts at)) (λ x. items_in parse id_of parts (Some (id_of x)) (at + 1) n >>= (λ more. Ok (x ∷ more))) xs h in
      let q = >>=-ok (items_in parse id_of parts (Some (id_of p.0)) (at + 1) n) (λ more. Ok (p.0 ∷ more)) xs p.2 in
      let same : p.0 ∷ q.0 ≡ xs = cc q.2 in
      let line = line_in-ok (item_in parse id_of last) parts at p.0 (at_line-ok at (line_in (item_in parse id_of last) parts at) p.0 p.1) in
      subst (AllByRecursion P) same (item_in-has last (get_or parts at []) p.0 line.1, items_in-have (Some (id_of p.0)) (at + 1) n q.0 q.1)

  pub list_in-have : (title : List ℕ) (at : ℕ) (xs : List X) → list_in title parse id_of parts at ≡ Ok xs → AllByRecursion P xs
  unfolding list_in
  list_in-have title at xs h =
      let p = >>=-ok (at_line at (line_in (count_in title) parts at)) (items_in parse id_of parts None (at + 1)) xs h in
      items_in-have None (at + 1) p.0 xs p.2

-- the end is one empty line
pub end_in-ok : (parts : List (List ℕ)) (at : ℕ) (done : Unit {0}) → at_line at (end_in parts at) ≡ Ok done → drop at parts ≡ [] ∷ []
end_in-ok parts at done h = grind (arith, common_steps, if-ok, nat_eq, at_line-ok, and_parts, eqb-true, nil_from_length, length-drop, drop_more)

-- ---- certificates

-- the lines of what a certificate says, below the first
abbrev pub outline_lines : Version → Outline → List (List ℕ)
outline_lines version o =
    title_body (codes "abandoned") (length o.abandoned) ∷ (map (entry_words version) o.abandoned
    ++ title_body (codes "owned") (length o.owned) ∷ (map (entry_words version) o.owned
    ++ title_body (codes "folds") (length o.folds) ∷ (map pair_words o.folds
    ++ title_body (codes "short") (length o.short) ∷ (map id_word o.short
    ++ codes "end" ∷ [] ∷ []))))

-- the text ends at the place
pub record IsEnding (version : Version) (said : Outline) (parts : List (List ℕ)) (at : ℕ) (o : Outline) : Type 0 where
  pub lines : drop at parts ≡ codes "end" ∷ [] ∷ []
  pub wanted : is_wanted version said ≡ true
  pub same : said ≡ o

pub ending_in-ok : (version : Version) (said : Outline) (parts : List (List ℕ)) (at : ℕ) (o : Outline) → ending_in version said parts at ≡ Ok o → IsEnding version said parts at o
ending_in-ok version said parts at o h = grind (arith, common_steps, line_in-ok, at_line-ok, line_in-spells, last_in-spells, end_in-ok, last_in-ok, said-once)

pub body_in-spells : (version : Version) (parts : List (List ℕ)) (o : Outline) → body_in version parts ≡ Ok o
    → (drop 1 parts ≡ outline_lines version o) × AllByRecursion (IsOfVersion version) o.abandoned × AllByRecursion (IsOfVersion version) o.owned × (is_wanted version o ≡ true)
body_in-spells version parts o h =
    let a = >>=-ok _ _ o h in
    let w = >>=-ok _ _ o a.2 in
    let f = >>=-ok _ _ o w.2 in
    let s = >>=-ok _ _ o f.2 in
    let said : Outline = record { abandoned = a.0; owned = w.0; folds = f.0; short = s.0 } in
    let second : ℕ = 2 + length a.0 in
    let third : ℕ = 3 + length a.0 + length w.0 in
    let fourth : ℕ = 4 + length a.0 + length w.0 + length f.0 in
    let fifth : ℕ = 5 + length a.0 + length w.0 + length f.0 + length s.0 in
    let e = ending_in-ok version said parts fifth o s.2 in
    let to_third : second + 1 + length w.0 ≡ third = omega arith in
    let to_fourth : third + 1 + length f.0 ≡ fourth = omega arith in
    let to_fifth : fourth + 1 + length s.0 ≡ fifth = omega arith in
    let shorts : drop fourth parts ≡ title_body (codes "short") (length s.0) ∷ (map id_word s.0 ++ codes "end" ∷ [] ∷ []) =
    list_in-spells (id_in version) id_word (λ id. id) (word-id version) parts (codes "short") fourth s.0 s.1
    ∙ ap (λ ps. title_body (codes "short") (length s.0) ∷ (map id_word s.0 ++ ps)) (ap (λ at. drop at parts) to_fifth ∙ e.lines) in
    let folds : drop third parts ≡ title_body (codes "folds") (length f.0) ∷ (map pair_words f.0 ++ title_body (codes "short") (length s.0) ∷ (map id_word s.0 ++ codes "end" ∷ [] ∷ [])) =
    list_in-spells (pair_in version) pair_words (λ p. p.0) (pair_in-spells version) parts (codes "folds") third f.0 f.1
    ∙ ap (λ ps. title_body (codes "folds") (length f.0) ∷ (map pair_words f.0 ++ ps)) (ap (λ at. drop at parts) to_fourth ∙ shorts) in (
      list_in-spells (entry_in version) (entry_words version) (λ x. x.id) (entry_in-spells version) parts (codes "abandoned") 1 a.0 a.1
          ∙ ap (λ ps. title_body (codes "abandoned") (length a.0) ∷ (map (entry_words version) a.0 ++ ps)) (
          list_in-spells (entry_in version) (entry_words version) (λ x. x.id) (entry_in-spells version) parts (codes "owned") second w.0 w.1
          ∙ ap (λ ps. title_body (codes "owned") (length w.0) ∷ (map (entry_words version) w.0 ++ ps)) (ap (λ at. drop at parts) to_third ∙ folds))
          ∙ ap (outline_lines version) e.same,
      subst (λ (o : Outline). AllByRecursion (IsOfVersion version) o.abandoned) e.same
          (list_in-have (entry_in version) (λ x. x.id) (IsOfVersion version) (entry_in-version version) parts (codes "abandoned") 1 a.0 a.1),
      subst (λ (o : Outline). AllByRecursion (IsOfVersion version) o.owned) e.same
          (list_in-have (entry_in version) (λ x. x.id) (IsOfVersion version) (entry_in-version version) parts (codes "owned") second w.0 w.1),
      subst (λ (o : Outline). is_wanted version o ≡ true) e.same e.wanted,
    )
