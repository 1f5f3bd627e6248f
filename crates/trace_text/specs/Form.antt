-- The forms of a line below the header, in each version: first as the words that each form has,
-- then as a function of a line's words.
use Rattle.std.specs.Prelude.{◌≡◌, ◌*◌, ◌/◌, ◌%◌, ◌==◌, ◌&&◌, ◌||◌, ◌⊎◌, ℕ, Bool, true, nat_le, nat_lt, List, [], ◌∷◌, ◌++◌, length, take, drop, Option, Some, None, option_map, option_and_then, codes, decimal, if◌then◌else◌}
use Rattle.std.specs.List.{list_any, range_with_len}
use Rattle.std.specs.Str.{bytes_eq}
use Rattle.certificate.specs.Number.{number_in}
use Rattle.trace_text.specs.Name.{is_name}
use Rattle.trace_text.specs.Reference.{reference_in}
use Rattle.trace_text.specs.Words.{words_of}
use Rattle.span.specs.Classes.{class_with, width_of}
use Rattle.span.specs.declared.class.Class.{Class}
use Rattle.span.specs.declared.class.Class.TheVariants.{C16}
use Rattle.trace_text.specs.declared.header.Version.{Version}
use Rattle.trace_text.specs.declared.header.Version.TheVariants.{One, Two, Three, Four, Five, Six}
use Rattle.trace_text.specs.declared.name.Reference.{Reference}
use Rattle.trace_text.specs.declared.line.Call.{Call}
use Rattle.trace_text.specs.declared.line.Call.TheVariants.{Put, Fill, Get, Set, Free, Sweep, Later, Tend, Trim, Retire, End, Begin}
use Rattle.trace_text.specs.declared.line.Line.{Line}
use Rattle.trace_text.specs.declared.line.Line.TheVariants as line

-- what a word of a line says: a fixed verb, a number, a name or a reference
pub data Word : Type 0 where
  Verb : List ℕ → Word
  Number : ℕ → Word
  Named : List ℕ → Word
  Refers : Reference → Word

-- what the verb of a put or a fill ends with: the bytes of an object, but nothing for one word
abbrev pub size_text : Class → List ℕ
size_text class = if width_of class == 1 then [] else decimal (16 * width_of class)

-- the verb of a put, by the class of its object
abbrev pub put_verb : Class → List ℕ
put_verb class = codes "put" ++ size_text class

-- the verb of a fill, by the class of its objects
abbrev pub fill_verb : Class → List ℕ
fill_verb class = codes "fill" ++ size_text class

-- the verbs of calls that bind a name to objects of one word
abbrev pub binding_verbs : List (List ℕ)
binding_verbs = codes "put" ∷ codes "fill" ∷ []

-- the verbs of calls that bind a name to objects of four and of sixteen words
abbrev pub wide_verbs : List (List ℕ)
wide_verbs = codes "put64" ∷ codes "put256" ∷ codes "fill64" ∷ codes "fill256" ∷ []

-- the verb is one of a call that binds a name to objects of 1 to 16 words
abbrev pub is_binding_verb : List ℕ → Bool
is_binding_verb verb = list_any (λ words. bytes_eq verb (put_verb (class_with words))
    || bytes_eq verb (fill_verb (class_with words))) (range_with_len 1 16)

-- the verbs of calls that read a name
abbrev pub reading_verbs : List (List ℕ)
reading_verbs = codes "get" ∷ codes "free" ∷ codes "sweep" ∷ codes "later" ∷ []

-- the verb of calls that replace the object of a key
abbrev pub set_verb : List ℕ
set_verb = codes "set"

-- the verb of calls that give pages with no live slot back
abbrev pub trim_verb : List ℕ
trim_verb = codes "trim"

-- the verb of calls that let groups go to the pool
abbrev pub retire_verb : List ℕ
retire_verb = codes "retire"

-- the verb of calls that let a shard begin again
abbrev pub begin_verb : List ℕ
begin_verb = codes "begin"

-- the verbs of calls with no more words, which every version has
abbrev pub bare_verbs : List (List ℕ)
bare_verbs = codes "tend" ∷ codes "end" ∷ []

-- a thread's call may have the verb in a trace of any version
abbrev pub is_common_verb : List ℕ → Bool
is_common_verb verb = list_any (bytes_eq verb) binding_verbs
    || (list_any (bytes_eq verb) reading_verbs || list_any (bytes_eq verb) bare_verbs)

-- a thread's call may have the verb, in a trace of each version; the second adds the verbs of
-- objects of four and of sixteen words, the third that of sets, the fourth that of trims, the fifth
-- those of retirements and of begins, and the sixth those of objects of all widths
abbrev pub has_verb : Version → List ℕ → Bool
has_verb One verb = is_common_verb verb
has_verb Two verb = is_common_verb verb || list_any (bytes_eq verb) wide_verbs
has_verb Three verb = is_common_verb verb || (list_any (bytes_eq verb) wide_verbs
    || bytes_eq verb set_verb)
has_verb Four verb = is_common_verb verb || (list_any (bytes_eq verb) wide_verbs
    || (bytes_eq verb set_verb || bytes_eq verb trim_verb))
has_verb Five verb = is_common_verb verb || (list_any (bytes_eq verb) wide_verbs
    || (bytes_eq verb set_verb || (bytes_eq verb trim_verb
    || (bytes_eq verb retire_verb || bytes_eq verb begin_verb))))
has_verb Six verb = is_common_verb verb || (is_binding_verb verb
    || (bytes_eq verb set_verb || (bytes_eq verb trim_verb
    || (bytes_eq verb retire_verb || bytes_eq verb begin_verb))))

-- the verb of each call
abbrev pub verb_of : Call → List ℕ
verb_of (Put name class value) = put_verb class
verb_of (Fill name class count value) = fill_verb class
verb_of (Get key) = codes "get"
verb_of (Set key class value) = set_verb
verb_of (Free key) = codes "free"
verb_of (Sweep name from to) = codes "sweep"
verb_of (Later key) = codes "later"
verb_of Tend = codes "tend"
verb_of Trim = trim_verb
verb_of (Retire most) = retire_verb
verb_of End = codes "end"
verb_of Begin = begin_verb

-- the words of each call, after its verb; the class of a set is in none of them
abbrev pub words_behind : Call → List Word
words_behind (Put name class value) = Named name ∷ Number value ∷ []
words_behind (Fill name class count value) = Named name ∷ Number count ∷ Number value ∷ []
words_behind (Get key) = Refers key ∷ []
words_behind (Set key class value) = Refers key ∷ Number value ∷ []
words_behind (Free key) = Refers key ∷ []
words_behind (Sweep name from to) = Named name ∷ Number from ∷ Number to ∷ []
words_behind (Later key) = Refers key ∷ []
words_behind Tend = []
words_behind Trim = []
words_behind (Retire most) = Number most ∷ []
words_behind End = []
words_behind Begin = []

-- the words of each call, after its thread's number
abbrev pub words_of_call : Call → List Word
words_of_call call = Verb (verb_of call) ∷ words_behind call

-- the bytes are a word that says this
abbrev pub IsWord : List ℕ → Word → Type 0
IsWord bytes (Verb verb) = bytes ≡ verb
IsWord bytes (Number n) = number_in bytes ≡ Some n
IsWord bytes (Named name) = (bytes ≡ name) × (is_name name ≡ true)
IsWord bytes (Refers key) = reference_in bytes ≡ Some key

-- as many words as are said, and each says its own
abbrev pub AreWords : List (List ℕ) → List Word → Type 0
AreWords [] [] = Unit {0}
AreWords (bytes ∷ more) (word ∷ words) = IsWord bytes word × AreWords more words
AreWords _ _ = ⊥

-- in a trace of that version the words say this line, which is no empty line and no remark
abbrev pub SaysLine : Version → Line → List (List ℕ) → Type 0
SaysLine version line.Silent words = ⊥
SaysLine version (line.Call thread call) words = (has_verb version (verb_of call) ≡ true)
    × AreWords words (Number thread ∷ words_of_call call)
SaysLine version (line.Adopt shard) words = AreWords words (Verb (codes "adopt") ∷ Number shard
    ∷ [])
SaysLine version line.Mark words = AreWords words (Verb (codes "mark") ∷ [])

-- in a trace of that version the bytes have the form of this line, whose numbers may be of any
-- size, and a set may be of any class: nothing, a `#` and any bytes, or the words of a thread's
-- call, of an adoption or of a mark
abbrev pub HasForm : Version → Line → List ℕ → Type 0
HasForm version line.Silent bytes = (bytes ≡ []) ⊎ ((remark : List ℕ)
    × (bytes ≡ codes "#" ++ remark))
HasForm version line bytes = SaysLine version line (words_of bytes)

-- ---- the same as a function of the words, by which a set is of one word

-- a call of this name, where the bytes are a name
abbrev pub with_name : (List ℕ → Call) → List ℕ → Option Call
with_name call name = if is_name name then Some (call name) else None

-- a call with no more words than its verb
abbrev pub bare_call : List ℕ → Option Call
bare_call verb =
    if bytes_eq verb (codes "end") then Some End
    else (if bytes_eq verb (codes "tend") then Some Tend
    else (if bytes_eq verb trim_verb then Some Trim
    else (if bytes_eq verb begin_verb then Some Begin else None)))

-- a call on a key
abbrev pub key_call : List ℕ → List ℕ → Option Call
key_call verb key =
    if bytes_eq verb (codes "get") then option_map Get (reference_in key)
    else (if bytes_eq verb (codes "free") then option_map Free (reference_in key)
    else (if bytes_eq verb (codes "later") then option_map Later (reference_in key) else None))

-- a retirement of up to this many groups
abbrev pub retire_call : List ℕ → Option Call
retire_call most = option_map Retire (number_in most)

-- a call with one word behind its verb: a number or a key
abbrev pub aimed_call : List ℕ → List ℕ → Option Call
aimed_call verb word =
    if bytes_eq verb retire_verb then retire_call word
    else key_call verb word

-- the class of objects of so many bytes, which are more than one word
abbrev pub class_of_bytes : ℕ → Option Class
class_of_bytes bytes = if nat_lt 16 bytes && (nat_le bytes 256 && bytes % 16 == 0) then
    Some (class_with (bytes / 16)) else None

-- the class of objects of as many bytes as the digits say
abbrev pub class_of_size : List ℕ → Option Class
class_of_size digits = option_and_then class_of_bytes (number_in digits)

-- the class that the verb names: that of one word, where it is the word alone, and else that of the
-- size behind the word
abbrev pub class_behind : List ℕ → List ℕ → Option Class
class_behind word verb =
    if bytes_eq verb word then Some C16
    else (if bytes_eq (take (length word) verb) word then class_of_size (drop (length word) verb)
    else None)

-- the class of the object that a call of that verb puts
abbrev pub class_put : List ℕ → Option Class
class_put verb = class_behind (codes "put") verb

-- the class of the objects that a fill of that verb puts
abbrev pub class_filled : List ℕ → Option Class
class_filled verb = class_behind (codes "fill") verb

-- a call with a name and a value
abbrev pub value_call : List ℕ → List ℕ → List ℕ → Option Call
value_call verb name value = option_and_then (λ class. option_and_then
    (λ v. with_name (λ n. Put n class v) name) (number_in value)) (class_put verb)

-- a set of this key
abbrev pub set_call : List ℕ → List ℕ → Option Call
set_call key value = option_and_then (λ v. option_map (λ k. Set k C16 v) (reference_in key))
    (number_in value)

-- a call with a key or a name, and a value
abbrev pub valued_call : List ℕ → List ℕ → List ℕ → Option Call
valued_call verb target value =
    if bytes_eq verb set_verb then set_call target value
    else value_call verb target value

-- a call of this name and these two numbers
abbrev pub with_two : (List ℕ → ℕ → ℕ → Call) → List ℕ → List ℕ → List ℕ → Option Call
with_two call name first second = option_and_then (λ a. option_and_then
    (λ b. with_name (λ n. call n a b) name) (number_in second)) (number_in first)

-- a call with a name and two numbers
abbrev pub counted_call : List ℕ → List ℕ → List ℕ → List ℕ → Option Call
counted_call verb name first second =
    if bytes_eq verb (codes "sweep") then with_two (λ n a b. Sweep n a b) name first second
    else option_and_then (λ class. with_two (λ n a b. Fill n class a b) name first second)
    (class_filled verb)

-- the line of a thread's number and its call, whose verb the version must have
abbrev pub thread_line : Version → List ℕ → List ℕ → Option Call → Option Line
thread_line version thread verb call = if has_verb version verb then
    option_and_then (λ t. option_map (λ c. line.Call t c) call) (number_in thread) else None

-- the line of one word
abbrev pub one_word : List ℕ → Option Line
one_word word = if bytes_eq word (codes "mark") then Some line.Mark else None

-- the line of a shard that adopts
abbrev pub adopt_line : List ℕ → Option Line
adopt_line shard = option_map (λ s. line.Adopt s) (number_in shard)

-- the line of two words
abbrev pub two_words : Version → List ℕ → List ℕ → Option Line
two_words version first second =
    if bytes_eq first (codes "adopt") then adopt_line second
    else thread_line version first second (bare_call second)

-- the line of these words
abbrev pub form_of_words : Version → List (List ℕ) → Option Line
form_of_words version (word ∷ []) = one_word word
form_of_words version (first ∷ second ∷ []) = two_words version first second
form_of_words version (thread ∷ verb ∷ word ∷ []) =
    thread_line version thread verb (aimed_call verb word)
form_of_words version (thread ∷ verb ∷ target ∷ value ∷ []) =
    thread_line version thread verb (valued_call verb target value)
form_of_words version (thread ∷ verb ∷ name ∷ first ∷ second ∷ []) =
    thread_line version thread verb (counted_call verb name first second)
form_of_words version _ = None

-- the line that the bytes have the form of; a `#` is 35
abbrev pub form_of : Version → List ℕ → Option Line
form_of version [] = Some line.Silent
form_of version (b ∷ bs) = if b == 35 then Some line.Silent else form_of_words version
    (words_of (b ∷ bs))
