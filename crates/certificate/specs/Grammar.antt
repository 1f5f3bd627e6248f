-- The texts that are certificates of version 1, 2 or 3, line by line; and, of another text, the
-- first line at fault and its first cause. A text is what its line feeds (10) part, so that a line
-- stands whole if a part follows it.
use Rattle.std.specs.Prelude.{◌+◌, ◌*◌, ◌/◌, ◌&&◌, ◌||◌, ◌<◌, ◌≡◌, ℕ, Bool, true, not, nat_eq, nat_lt, nat_le, List, [], ◌∷◌, length, map, Option, Some, None, Result, Ok, Err, slice_index_or, codes, zero, suc, if◌then◌else◌}
use Rattle.std.specs.List.{list_all, list_any}
use Rattle.std.specs.Str.{bytes_eq}
use Rattle.bitmap.specs.HexText.{is_set_text}
use Rattle.bitmap.specs.Slots.{SlotSet, ascending, slots_of_text}
use Rattle.span.specs.Classes.{class_with, slots_in, width_of}
use Rattle.span.specs.declared.class.Class.{Class}
use Rattle.span.specs.declared.class.Class.TheVariants.{C16}
use Rattle.span.specs.declared.id.SpanId.{SpanId}
use Rattle.span.specs.Ids.{rank}
use Rattle.span.specs.declared.entry.Entry.{Entry}
use Rattle.certificate.specs.Number.{number_in}
use Rattle.certificate.specs.Words.{parts_of}
use Rattle.certificate.specs.declared.text.cause.Cause.{Cause}
use Rattle.certificate.specs.declared.text.cause.Cause.TheVariants as cause
use Rattle.certificate.specs.declared.text.cause.Cause.TheVariants.{Cut, Form, Limit, Set, Order, Tail}
use Rattle.certificate.specs.declared.text.cause.ReadError.{ReadError}
use Rattle.certificate.specs.declared.text.cause.ReadError.TheVariants.{BadCertificate, OutOfMemory}
use Rattle.certificate.specs.declared.text.version.Version.{Version}
use Rattle.certificate.specs.declared.text.version.Version.TheVariants.{One, Two, Three}
use Rattle.certificate.specs.declared.text.version.TheConstants.{TEXT_SPANS}
use Rattle.certificate.specs.declared.certificate.Certificate.{Certificate}
use Rattle.mesh_graph.specs.declared.build.TheConstants.{MOST_GROUPS}
use Rattle.span.specs.declared.limits.TheConstants.{MOST_SHARDS, MOST_SPANS}

-- the first step, and then the next one, unless the first fails
infixl 10 ◌>>=◌
abbrev pub ◌>>=◌ : {A B E : Type 0} → Result A E → (A → Result B E) → Result B E
(Ok x) >>= f = f x
(Err e) >>= f = Err e

-- ---- words

-- an id: its shard and its serial
abbrev pub Id : Type 0
Id = ℕ × ℕ

-- ids stand by shard and then by serial
abbrev pub comes_before : Id → Id → Bool
comes_before a b = nat_lt (MOST_SPANS * a.0 + a.1) (MOST_SPANS * b.0 + b.1)

-- a serial in a text of the version is below this
abbrev pub spans_in : Version → ℕ
spans_in One = TEXT_SPANS
spans_in Two = TEXT_SPANS
spans_in Three = MOST_SPANS

-- two numbers as an id
abbrev pub id_of_numbers : Version → Option ℕ → Option ℕ → Result Id Cause
id_of_numbers version (Some shard) (Some serial) =
    if nat_lt shard MOST_SHARDS && nat_lt serial (spans_in version) then Ok (shard, serial) else
    Err Limit
id_of_numbers version (Some shard) None = Err Form
id_of_numbers version None serial = Err Form

abbrev pub id_of_parts : Version → List (List ℕ) → Result Id Cause
id_of_parts version (shard ∷ serial ∷ []) = id_of_numbers version (number_in shard)
    (number_in serial)
id_of_parts version _ = Err Form

-- a word as an id: a shard, a full stop (46) and a serial
abbrev pub id_in : Version → List ℕ → Result Id Cause
id_in version word = id_of_parts version (parts_of 46 word)

-- the bytes of a slot of the class, each word of which has 16
abbrev pub slot_bytes : Class → ℕ
slot_bytes class = 16 * width_of class

-- whether a text of the version names the class: by the words of an object, those of 1, 4 and 16 in
-- version 2, and that of 1 alone in version 1
abbrev pub names_class : Version → Class → Bool
names_class One class = nat_eq (width_of class) 1
names_class Two class = nat_eq (width_of class) 1
    || (nat_eq (width_of class) 4 || nat_eq (width_of class) 16)
names_class Three class = true

-- a number as a class that the version names, by the bytes of a slot
abbrev pub class_of_number : Version → Option ℕ → Result Class Cause
class_of_number version None = Err Form
class_of_number version (Some n) = if nat_eq (slot_bytes (class_with (n / 16))) n
    && names_class version (class_with (n / 16)) then Ok (class_with (n / 16)) else Err Limit

-- a word as a class
abbrev pub class_in : Version → List ℕ → Result Class Cause
class_in version word = class_of_number version (number_in word)

-- whether a page of the class has each slot of the set
abbrev pub is_on_page : Class → SlotSet → Bool
is_on_page class slots = list_all (λ slot. nat_lt slot (slots_in class)) (ascending slots)

-- a word as a set of slots that a page of the class has
abbrev pub set_in : Class → List ℕ → Result SlotSet Cause
set_in class word = if is_set_text word && is_on_page class (slots_of_text word) then
    Ok (slots_of_text word) else Err Set

-- two words; the form of both is asked before the range of either
abbrev pub both : {A B : Type 0} → Result A Cause → Result B Cause → Result (A × B) Cause
both (Ok a) (Ok b) = Ok (a, b)
both (Err Form) _ = Err Form
both _ (Err Form) = Err Form
both _ _ = Err Limit

-- ---- lines, by the words that spaces (32) part

-- the first line of a version
abbrev pub opening_of : Version → List ℕ
opening_of One = codes "meshcert 1"
opening_of Two = codes "meshcert 2"
opening_of Three = codes "meshcert 3"

-- the first line, which names the version
abbrev pub version_in : List ℕ → Result Version Cause
version_in line =
    if bytes_eq line (opening_of One) then Ok One
    else if bytes_eq line (opening_of Two) then Ok Two
    else if bytes_eq line (opening_of Three) then Ok Three else Err Form

-- a group of a side
pub record Listed : Type 0 where
  pub id : Id
  pub class : Class
  pub occupied : SlotSet

-- a group's id and class, and the word of its set
abbrev pub entry_of : Result Id Cause → Result Class Cause → List ℕ → Result Listed Cause
entry_of id class set = both id class >>= (λ named. set_in named.1 set >>=
    (λ slots. Ok (record { id = named.0; class = named.1; occupied = slots })))

-- a group: its id, its class and its set; in version 1 it has no class, and is of 16 bytes a slot
abbrev pub entry_of_words : Version → List (List ℕ) → Result Listed Cause
entry_of_words One (id ∷ set ∷ []) = entry_of (id_in One id) (Ok C16) set
entry_of_words Two (id ∷ class ∷ set ∷ []) = entry_of (id_in Two id) (class_in Two class) set
entry_of_words Three (id ∷ class ∷ set ∷ []) = entry_of (id_in Three id) (class_in Three class) set
entry_of_words version _ = Err Form

abbrev pub entry_in : Version → List ℕ → Result Listed Cause
entry_in version line = entry_of_words version (parts_of 32 line)

-- a fold: an abandoned id and an owned one
abbrev pub pair_of_words : Version → List (List ℕ) → Result (Id × Id) Cause
pair_of_words version (abandoned ∷ owned ∷ []) = both (id_in version abandoned)
    (id_in version owned)
pair_of_words version _ = Err Form

abbrev pub pair_in : Version → List ℕ → Result (Id × Id) Cause
pair_in version line = pair_of_words version (parts_of 32 line)

-- how many lines follow, at most 4,096
abbrev pub count_of_number : Option ℕ → Result ℕ Cause
count_of_number None = Err Form
count_of_number (Some n) = if nat_le n MOST_GROUPS then Ok n else Err Limit

abbrev pub count_of_words : List ℕ → List (List ℕ) → Result ℕ Cause
count_of_words title (word ∷ number ∷ []) = if bytes_eq word title then
    count_of_number (number_in number) else Err Form
count_of_words title _ = Err Form

-- a title and a count
abbrev pub count_in : List ℕ → List ℕ → Result ℕ Cause
count_in title line = count_of_words title (parts_of 32 line)

-- just these bytes
abbrev pub fixed_in : List ℕ → List ℕ → Result (Unit {0}) Cause
fixed_in bytes line = if bytes_eq line bytes then Ok tt else Err Form

-- ---- lines at their places, from 0 on

-- a fault of the line at the place: lines are counted from 1
abbrev pub at_line : {X : Type 0} → ℕ → Result X Cause → Result X ReadError
at_line at (Ok x) = Ok x
at_line at (Err cause) = Err (BadCertificate (at + 1) cause)

-- the line at the place, where it stands whole
abbrev pub whole_line : List (List ℕ) → ℕ → Result (List ℕ) Cause
whole_line parts at = if nat_lt (at + 1) (length parts) then Ok (slice_index_or parts at []) else
    Err Cut

-- what the line at the place says
abbrev pub line_in : {X : Type 0} → (List ℕ → Result X Cause) → List (List ℕ) → ℕ → Result X Cause
line_in parse parts at = whole_line parts at >>= parse

-- an id after the last one in its list
abbrev pub order_of : Option Id → Id → Result (Unit {0}) Cause
order_of None id = Ok tt
order_of (Some last) id = if comes_before last id then Ok tt else Err Order

-- an item of a list: its form first, and then its order
abbrev pub item_in : {X : Type 0} → (List ℕ → Result X Cause) → (X → Id) → Option Id → List ℕ
    → Result X Cause
item_in parse id_of last line = parse line >>= (λ x. order_of last (id_of x) >>= (λ fine. Ok x))

-- that many items from the place on, by ascending ids
abbrev pub items_in : {X : Type 0} → (List ℕ → Result X Cause) → (X → Id) → List (List ℕ)
    → Option Id → ℕ → ℕ → Result (List X) ReadError
items_in parse id_of parts last at zero = Ok []
items_in parse id_of parts last at (suc n) =
    at_line at (line_in (item_in parse id_of last) parts at) >>=
    (λ x. items_in parse id_of parts (Some (id_of x)) (at + 1) n >>= (λ more. Ok (x ∷ more)))

-- a title with a count, and that many items
unfoldable pub list_in : {X : Type 0} → List ℕ → (List ℕ → Result X Cause) → (X → Id)
    → List (List ℕ) → ℕ → Result (List X) ReadError
list_in title parse id_of parts at = at_line at (line_in (count_in title) parts at) >>= items_in
    parse id_of parts None (at + 1)

-- nothing follows: the part at the place is the last one, and is empty
abbrev pub end_in : List (List ℕ) → ℕ → Result (Unit {0}) Cause
end_in parts at = if nat_eq (length parts) (at + 1)
    && nat_eq (length (slice_index_or parts at [])) 0 then Ok tt else Err Tail

-- ---- certificates

-- what a certificate says: its ids by their numbers
pub record Outline : Type 0 where
  pub abandoned : List Listed
  pub owned : List Listed
  pub folds : List (Id × Id)
  pub short : List Id

-- a serial that versions 1 and 2 do not name
abbrev pub is_large : Id → Bool
is_large id = nat_le TEXT_SPANS id.1

-- a group that version 2 cannot say: its serial is large, or its class has no name there
abbrev pub is_beyond_version_two : Listed → Bool
is_beyond_version_two x = is_large x.id || not (names_class Two x.class)

-- version 2 has no text for it
abbrev pub needs_version_three : Outline → Bool
needs_version_three o =
    list_any is_beyond_version_two o.abandoned || (list_any is_beyond_version_two o.owned
    || (list_any (λ p. is_large p.0 || is_large p.1) o.folds || list_any is_large o.short))

-- the version of the text that is written: version 3 says what version 2 cannot
abbrev pub version_of : Outline → Version
version_of o = if needs_version_three o then Three else Two

-- a text of version 3 says what version 2 cannot, so one of them alone has a text for it
abbrev pub is_wanted : Version → Outline → Bool
is_wanted One o = true
is_wanted Two o = true
is_wanted Three o = needs_version_three o

-- the last line, of a text whose version is wanted or not
abbrev pub last_in : Bool → List ℕ → Result (Unit {0}) Cause
last_in wanted line = fixed_in (codes "end") line >>=
    (λ fine. if wanted then Ok tt else Err cause.Version)

-- the last line at the place, and nothing behind it
abbrev pub closing_in : Bool → List (List ℕ) → ℕ → Result (Unit {0}) ReadError
closing_in wanted parts at =
    at_line at (line_in (last_in wanted) parts at) >>=
    (λ ended. at_line (at + 1) (end_in parts (at + 1)))

-- what the lists say, if the text ends at the place
abbrev pub ending_in : Version → Outline → List (List ℕ) → ℕ → Result Outline ReadError
ending_in version o parts at = closing_in (is_wanted version o) parts at >>= (λ done. Ok o)

-- the lists and the last line, below the first line
abbrev pub body_in : Version → List (List ℕ) → Result Outline ReadError
body_in version parts = do
  abandoned ← list_in (codes "abandoned") (entry_in version) (λ x. x.id) parts 1
  owned ← list_in (codes "owned") (entry_in version) (λ x. x.id) parts (2 + length abandoned)
  folds ← list_in (codes "folds") (pair_in version) (λ p. p.0) parts (3 + length abandoned
      + length owned)
  short ← list_in (codes "short") (id_in version) (λ id. id) parts (4 + length abandoned
      + length owned + length folds)
  ending_in version (record { abandoned = abandoned; owned = owned; folds = folds; short = short })
      parts (5 + length abandoned + length owned + length folds + length short)

-- what the text says, where it is a certificate, or else its first line at fault and that line's
-- first cause
unfoldable pub certificate_in : List ℕ → Result Outline ReadError
certificate_in text = at_line 0 (line_in version_in (parts_of 10 text) 0) >>=
    (λ version. body_in version (parts_of 10 text))

-- ---- what is read

abbrev pub id_parts : SpanId → Id
id_parts id = (id.shard, id.serial)

abbrev pub entry_parts : Entry → Listed
entry_parts x = record { id = id_parts x.id; class = x.class; occupied = x.occupied }

abbrev pub pair_parts : SpanId × SpanId → Id × Id
pair_parts p = (id_parts p.0, id_parts p.1)

-- a certificate's outline
abbrev pub outline_of : Certificate → Outline
outline_of c =
    record {
      abandoned = map entry_parts c.snapshot.abandoned;
      owned = map entry_parts c.snapshot.owned;
      folds = map pair_parts c.plan;
      short = map id_parts c.short;
    }

-- an id comes after the last one of its list, where there is one
abbrev pub ComesAfter : Option SpanId → SpanId → Type 0
ComesAfter None id = Unit {0}
ComesAfter (Some last) id = rank last < rank id

-- the result with the function over what is answered
abbrev pub result_map : {X Y E : Type 0} → (X → Y) → Result X E → Result Y E
result_map f (Ok x) = Ok (f x)
result_map f (Err e) = Err e

-- what is read is what the grammar says, and so is each refusal but that of an allocation
abbrev pub Reads : {X Y : Type 0} → (X → Y) → Result X ReadError → Result Y ReadError → Type 0
Reads f (Ok x) said = said ≡ Ok (f x)
Reads f (Err OutOfMemory) said = Unit {0}
Reads f (Err (BadCertificate line cause)) said = said ≡ Err (BadCertificate line cause)
