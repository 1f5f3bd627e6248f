-- What is written of an item is read again.
use Rattle.std.proofs.lemmas.Grind.{common_steps}
use Rattle.std.proofs.Common.{ℕ, ◌+◌, ◌*◌, ◌/◌, ◌^◌, ◌<◌, ◌≤◌, ◌≡◌, true, List, [], ◌∷◌, ◌++◌, codes, length, get_or, Bool, Option, None, Some, Err, Ok, option_map, nat_eq, refl, sym, ◌∙◌, ap, arith, rules, zero, suc, nat_lt, nat_le, lt-ltb, eq-eqb}
use Rattle.std.specs.Char.{is_ascii_digit}
use Rattle.std.specs.Fmt.{decimal}
use Rattle.std.specs.FinSet.{contains}
use Rattle.std.specs.List.{filter, list_all, range_with_len}
use Rattle.std.specs.Str.{bytes_eq}
use Rattle.std.proofs.lemmas.Slice.Eq.{bytes_eq-Decides}
use Rattle.std.proofs.lemmas.Bool.{and_from, and_parts, both_ways, cases_Bool, cases_eq, ltb-true, ne_eqb, le-leb, or_right}
use Rattle.std.proofs.lemmas.Fmt.{decimal_digit, decimal_is_IsNumeral, first_decimal}
use Rattle.std.proofs.lemmas.List.{append_assoc}
use Rattle.std.proofs.lemmas.Str.Parse.{digit_at}
use Rattle.bitmap.specs.HexText.{is_hex_digit, text_has}
use Rattle.bitmap.specs.Words.{IsBelow-slots_where}
use Rattle.bitmap.specs.Slots.{IsBelow, SlotSet, members_below, set_text, slots_of_text}
use Rattle.bitmap.proofs.HexText.{is_hex_digit-at, is_set_text-set_text, length-is_set_text}
use Rattle.span.specs.declared.id.SpanId.{SpanId}
use Rattle.span.specs.Texts.{id_text}
use Rattle.span.specs.declared.limits.TheConstants.{MOST_SHARDS, MOST_SPANS}
use Rattle.span.specs.Classes.{class_with, slots_in, width_of}
use Rattle.span.specs.declared.class.Class.{Class}
use Rattle.span.proofs.Widths.{class_with-width, width_of-most}
use Rattle.span.specs.declared.entry.Entry.{Entry}
use Rattle.certificate.specs.declared.text.cause.Cause.TheVariants.{Limit}
use Rattle.certificate.specs.declared.text.version.Version.{Version}
use Rattle.certificate.specs.declared.text.version.Version.TheVariants.{One}
use Rattle.certificate.specs.Grammar.{class_in, class_of_number, count_in, entry_in, entry_parts, id_in, id_parts, is_on_page, names_class, pair_in, pair_parts, slot_bytes, spans_in}
use Rattle.certificate.specs.Number.{clip, number_in}
use Rattle.certificate.specs.Text.{FitsClass, class_text}
use Rattle.certificate.specs.Words.{parts_of}
use Rattle.certificate.proofs.Split.{lacks, lacks-append, lacks-digits, lacks-high, parts-last, parts-word}
use Rattle.mesh_graph.specs.declared.build.TheConstants.{MOST_GROUPS}
use Rattle.bitmap.specs.declared.bits.TheConstants.{SLOTS}

-- ---- numbers

is_digits : (ds : List ℕ) → ((i : ℕ) → i < length ds → is_ascii_digit (get_or ds i 0) ≡ true) → list_all is_ascii_digit ds ≡ true
is_digits [] h = refl
is_digits (d ∷ ds) h = and_from (is_ascii_digit d) (list_all is_ascii_digit ds) (h 0 (omega arith)) (is_digits ds (λ i l. h (suc i) (omega arith)))

digit-test : (c : ℕ) → 48 ≤ c → c ≤ 57 → is_ascii_digit c ≡ true
digit-test c low high = and_from (nat_le 48 c) (nat_le c 57) (le-leb 48 c low) (le-leb c 57 high)

pub number_in-decimal : (n : ℕ) → n < 2 ^ 64 → number_in (decimal n) ≡ Some n
number_in-decimal n fits =
    search (rules, decimal_is_IsNumeral, nat_lt, lt-ltb, is_digits, digit_at, digit-test, cases_eq, decimal_digit, first_decimal, or_right, ne_eqb, and_from)

lacks-decimal : (c n : ℕ) → c < 48 → n < 2 ^ 64 → lacks c (decimal n) ≡ true
lacks-decimal c n low fits = lacks-digits c (decimal n) low (decimal_is_IsNumeral n fits).0.1

-- ---- ids

shard-fits : (id : SpanId) → id.shard < 2 ^ 64
shard-fits id = let low : id.shard < MOST_SHARDS = id.shard_in_range in omega arith

serial-fits : (id : SpanId) → id.serial < 2 ^ 64
serial-fits id = let low : id.serial < MOST_SPANS = id.serial_in_range in omega arith

-- the version names the serial of the id
abbrev pub HasSerial : Version → SpanId → Type 0
HasSerial version id = id.serial < spans_in version

pub id_in-text : (version : Version) (id : SpanId) → HasSerial version id → id_in version (id_text id) ≡ Ok (id_parts id)
id_in-text version id within = search (rules, append_assoc, parts-word, lacks-decimal, shard-fits, parts-last, serial-fits, number_in-decimal, lt-ltb)

pub lacks-id_text : (c : ℕ) (id : SpanId) → c < 46 → lacks c (id_text id) ≡ true
lacks-id_text c id low = search (rules, lacks-append, lacks-decimal, shard-fits, and_from, ne_eqb, serial-fits)

-- ---- lines

high-digit : (c : ℕ) → is_hex_digit c ≡ true → 48 ≤ c
high-digit c h = search rules

lacks-set_text : (c : ℕ) (slots : SlotSet) → c < 48 → lacks c (set_text slots) ≡ true
lacks-set_text c slots low = grind (arith, common_steps, is_set_text-set_text, lacks-high, high-digit, is_hex_digit-at, length-is_set_text)

-- a class by the bytes of its slots
pub class_with-slot_bytes : (class : Class) → class_with (slot_bytes class / 16) ≡ class
class_with-slot_bytes class = let words : 16 * width_of class / 16 ≡ width_of class = omega arith in ap class_with words ∙ class_with-width class

pub slot_bytes-most : (class : Class) → slot_bytes class ≤ 256
slot_bytes-most class = omega (arith, width_of-most class)

-- a number that is not the bytes of a class's slots names none, though it is clipped
pub class_of_number-none : (version : Version) (number : Option ℕ) (bytes : ℕ) → Some bytes ≡ option_map clip number
    → (slot_bytes (class_with (bytes / 16)) ≡ bytes → ⊥) → Err Limit ≡ class_of_number version number
class_of_number-none version None bytes is none = cc
class_of_number-none version (Some n) bytes is none = search (rules, nat_eq, ne_eqb, slot_bytes-most)

slot_bytes-fits : (class : Class) → slot_bytes class < 2 ^ 64
slot_bytes-fits class = omega (arith, slot_bytes-most class)

class_in-text : (version : Version) (class : Class) → names_class version class ≡ true → class_in version (class_text class) ≡ Ok class
class_in-text version class named = search (rules, number_in-decimal, slot_bytes-fits, class_with-slot_bytes, eq-eqb)

lacks-class_text : (c : ℕ) (class : Class) → c < 48 → lacks c (class_text class) ≡ true
lacks-class_text c class low = lacks-decimal c (slot_bytes class) low (slot_bytes-fits class)

-- what holds of the members of a filter
all-filter : (p q : ℕ → Bool) (xs : List ℕ) → ((x : ℕ) → q x ≡ true → p x ≡ true) → list_all p (filter q xs) ≡ true
all-filter p q [] h = refl
all-filter p q (x ∷ xs) h = search (rules, cases_Bool, and_from, (all-filter p q xs h))

is_on_page-below : (class : Class) (slots : SlotSet) → IsBelow slots (slots_in class) → is_on_page class slots ≡ true
unfolding members_below
is_on_page-below class slots below = all-filter (λ slot. nat_lt slot (slots_in class)) (contains slots) (range_with_len 0 SLOTS)
    (λ slot inside. lt-ltb slot (slots_in class) (below slot inside))

-- what holds of a member of a range that passes
range-filter : (p q : ℕ → Bool) (first n x : ℕ) → list_all p (filter q (range_with_len first n)) ≡ true → first ≤ x → x < first + n → q x ≡ true → p x ≡ true
range-filter p q first zero x all low high inside = absurd (omega arith)
range-filter p q first (suc n) x all low high inside = search (rules, cases_Bool, and_parts, cases_eq, both_ways, (range-filter p q (first + 1) n x))

-- a set that was read has slots of its class
pub IsBelow-is_on_page : (class : Class) (word : List ℕ) (slots : SlotSet) → slots ≡ slots_of_text word → is_on_page class slots ≡ true → IsBelow slots (slots_in class)
unfolding members_below
IsBelow-is_on_page class word slots is all slot inside =
    let low : slot < SLOTS = IsBelow-slots_where (text_has word) SLOTS slot (ap (λ s. contains s slot) (sym is) ∙ inside) in
    ltb-true slot (slots_in class) (range-filter (λ slot. nat_lt slot (slots_in class)) (contains slots) 0 SLOTS slot all (omega arith) (omega arith) inside)

-- a group's line, without its line feed
abbrev pub entry_body : Entry → List ℕ
entry_body x = id_text x.id ++ (codes " " ++ (class_text x.class ++ (codes " " ++ set_text x.occupied)))

parts_of-entry_body : (x : Entry) → parts_of 32 (entry_body x) ≡ id_text x.id ∷ class_text x.class ∷ set_text x.occupied ∷ []
parts_of-entry_body x = search (rules, parts-word, lacks-id_text, lacks-class_text, parts-last, lacks-set_text)

-- the lines of groups in the version have a class
abbrev pub HasClasses : Version → Type 0
HasClasses One = ⊥
HasClasses other = Unit {0}

-- the version names the serial and the class of the group
abbrev pub HasNames : Version → Entry → Type 0
HasNames version x = HasSerial version x.id × (names_class version x.class ≡ true)

pub entry_in-body : (version : Version) → HasClasses version → (x : Entry) → HasNames version x → slots_of_text (set_text x.occupied) ≡ x.occupied
    → FitsClass x → entry_in version (entry_body x) ≡ Ok (entry_parts x)
entry_in-body One classes x named back fits = absurd classes
entry_in-body version classes x named back fits =
    rw (parts_of-entry_body x, id_in-text version x.id named.0, class_in-text version x.class named.1, is_set_text-set_text x.occupied, back, is_on_page-below x.class x.occupied fits) refl

pub lacks-entry_body : (x : Entry) → lacks 10 (entry_body x) ≡ true
lacks-entry_body x = search (rules, lacks-append, lacks-id_text, lacks-class_text, lacks-set_text)

-- a group's line in version 1
abbrev pub classless_body : Entry → List ℕ
classless_body x = id_text x.id ++ (codes " " ++ set_text x.occupied)

pub lacks-classless_body : (x : Entry) → lacks 10 (classless_body x) ≡ true
lacks-classless_body x = search (rules, lacks-append, lacks-id_text, lacks-set_text)

-- a fold's line
abbrev pub pair_body : SpanId × SpanId → List ℕ
pair_body p = id_text p.0 ++ (codes " " ++ id_text p.1)

pub pair_in-body : (version : Version) (p : SpanId × SpanId) → HasSerial version p.0 × HasSerial version p.1 → pair_in version (pair_body p) ≡ Ok (pair_parts p)
pair_in-body version p within = search (rules, parts-word, lacks-id_text, parts-last, id_in-text)

pub lacks-pair_body : (p : SpanId × SpanId) → lacks 10 (pair_body p) ≡ true
lacks-pair_body p = lacks-append 10 (id_text p.0) (codes " " ++ id_text p.1) (lacks-id_text 10 p.0 (omega arith)) (lacks-append 10 (codes " ") (id_text p.1) refl (lacks-id_text 10 p.1 (omega arith)))

-- a title's line
abbrev pub title_body : List ℕ → ℕ → List ℕ
title_body title n = title ++ (codes " " ++ decimal n)

pub bytes_eq-same : (xs : List ℕ) → bytes_eq xs xs ≡ true
bytes_eq-same xs = (bytes_eq-Decides xs xs).1 refl

pub count_in-body : (title : List ℕ) (n : ℕ) → lacks 32 title ≡ true → n ≤ MOST_GROUPS → count_in title (title_body title n) ≡ Ok n
count_in-body title n plain few = search (rules, parts-word, parts-last, lacks-decimal, bytes_eq-same, number_in-decimal, le-leb)

pub lacks-title_body : (title : List ℕ) (n : ℕ) → lacks 10 title ≡ true → n ≤ MOST_GROUPS → lacks 10 (title_body title n) ≡ true
lacks-title_body title n plain few = lacks-append 10 title (codes " " ++ decimal n) plain (lacks-append 10 (codes " ") (decimal n) refl (lacks-decimal 10 n (omega arith) (omega arith)))
