-- The serials and classes that a version names: of what is read in it, and of what is written in it.
use Rattle.std.proofs.Common.{ℕ, ◌<◌, ◌≡◌, ◌||◌, not, nat_eq, arith, Bool, true, false, List, [], ◌∷◌, map, Ok, refl, sym, ◌∙◌, ap, subst, rules}
use Rattle.std.specs.List.{AllByRecursion, list_any}
use Rattle.std.proofs.lemmas.Bool.{cases_Bool, leb-false, lt-leb, not-false, or_left, or_parts}
use Rattle.span.specs.Classes.{width_of}
use Rattle.span.specs.declared.class.Class.{Class}
use Rattle.span.specs.declared.entry.Entry.{Entry}
use Rattle.span.specs.declared.id.SpanId.{SpanId}
use Rattle.certificate.specs.declared.certificate.Certificate.{Certificate}
use Rattle.certificate.specs.declared.text.version.Version.{Version}
use Rattle.certificate.specs.declared.text.version.Version.TheVariants.{One, Two, Three}
use Rattle.certificate.specs.declared.text.version.TheConstants.{TEXT_SPANS}
use Rattle.certificate.specs.Grammar.{Id, Listed, Outline, body_in, class_in, entry_in, entry_of_words, entry_parts, id_in, id_of_parts, id_parts, is_beyond_version_two, is_large, names_class, needs_version_three, outline_of, pair_in, pair_of_words, spans_in, version_of}
use Rattle.certificate.specs.Number.{number_in}
use Rattle.certificate.specs.Words.{parts_of}
use Rattle.certificate.proofs.ReadAgain.{HasNames, HasSerial}
use Rattle.certificate.proofs.Rereading.{IsNamed}
use Rattle.certificate.proofs.Spelling.{>>=-ok, both-ok, class_in-named, ending_in-ok, entry_of-ok, id_of_numbers-ok, list_in-have}

-- ---- what is read

-- the version names the serial
abbrev HasNumber : Version → Id → Type 0
HasNumber version i = i.1 < spans_in version

abbrev HaveNumbers : Version → Id × Id → Type 0
HaveNumbers version p = HasNumber version p.0 × HasNumber version p.1

id_of_parts-serial : (version : Version) (parts : List (List ℕ)) (i : Id) → id_of_parts version parts ≡ Ok i → HasNumber version i
id_of_parts-serial version (shard ∷ serial ∷ []) i h = (id_of_numbers-ok version (number_in shard) (number_in serial) i h).3
id_of_parts-serial version parts i h = cc

-- the version names the serial and the class of a group
abbrev HasListed : Version → Listed → Type 0
HasListed version x = HasNumber version x.id × (names_class version x.class ≡ true)

entry_of_words-named : (version : Version) (words : List (List ℕ)) (x : Listed) → entry_of_words version words ≡ Ok x → HasListed version x
entry_of_words-named One (id ∷ set ∷ []) x h = search (rules, entry_of-ok, id_of_parts-serial)
entry_of_words-named One (id ∷ class ∷ set ∷ []) x h = cc
entry_of_words-named version (id ∷ class ∷ set ∷ []) x h =
    let p = entry_of-ok (id_in version id) (class_in version class) set x h in
    (id_of_parts-serial version (parts_of 46 id) x.id p.0, class_in-named version class x.class p.1)
entry_of_words-named version words x h = cc

pair_of_words-serial : (version : Version) (words : List (List ℕ)) (p : Id × Id) → pair_of_words version words ≡ Ok p → HaveNumbers version p
pair_of_words-serial version (a ∷ b ∷ []) p h =
    let q = both-ok (id_in version a) (id_in version b) p h in
    (id_of_parts-serial version (parts_of 46 a) p.0 q.0, id_of_parts-serial version (parts_of 46 b) p.1 q.1)
pair_of_words-serial version words p h = cc

-- a test that none of a list passes
list_any-none : {X : Type 0} (P : X → Type 0) (test : X → Bool) → ((x : X) → P x → test x ≡ false) → (xs : List X) → AllByRecursion P xs → list_any test xs ≡ false
list_any-none P test fails [] all = refl
list_any-none P test fails (x ∷ xs) all = ap (λ b. b || list_any test xs) (fails x all.0) ∙ list_any-none P test fails xs all.1

small-number : (version : Version) (i : Id) → spans_in version ≡ TEXT_SPANS → HasNumber version i → is_large i ≡ false
small-number version i small named = lt-leb TEXT_SPANS i.1 (subst (λ n. i.1 < n) small named)

-- a version of small serials names no class that version 2 does not
small-class : (version : Version) (class : Class) → spans_in version ≡ TEXT_SPANS → names_class version class ≡ true → names_class Two class ≡ true
small-class One class small named = or_left (nat_eq (width_of class) 1) (nat_eq (width_of class) 4 || nat_eq (width_of class) 16) named
small-class Two class small named = named
small-class Three class small named = absurd (omega (arith, small))

small-listed : (version : Version) (x : Listed) → spans_in version ≡ TEXT_SPANS → HasListed version x → is_beyond_version_two x ≡ false
small-listed version x small named = ap (λ b. b || not (names_class Two x.class)) (small-number version x.id small named.0) ∙ ap not (small-class version x.class small named.1)

-- what it says, version 2 can say
pub needs_version_three-read : (version : Version) (parts : List (List ℕ)) (o : Outline) → body_in version parts ≡ Ok o → spans_in version ≡ TEXT_SPANS → needs_version_three o ≡ false
needs_version_three-read version parts o h small =
    let a = >>=-ok _ _ o h in
    let w = >>=-ok _ _ o a.2 in
    let f = >>=-ok _ _ o w.2 in
    let s = >>=-ok _ _ o f.2 in
    let said : Outline = record { abandoned = a.0; owned = w.0; folds = f.0; short = s.0 } in
    let same : said ≡ o = (ending_in-ok version said parts _ o s.2).same in
    let named : (line : List ℕ) (x : Listed) → entry_in version line ≡ Ok x → HasListed version x = λ line. entry_of_words-named version (parts_of 32 line) in
    let abandoned = list_in-have (entry_in version) (λ x. x.id) (HasListed version) named parts _ _ a.0 a.1 in
    let owned = list_in-have (entry_in version) (λ x. x.id) (HasListed version) named parts _ _ w.0 w.1 in
    let folds = list_in-have (pair_in version) (λ p. p.0) (HaveNumbers version) (λ line. pair_of_words-serial version (parts_of 32 line)) parts _ _ f.0 f.1 in
    let short = list_in-have (id_in version) (λ id. id) (HasNumber version) (λ word. id_of_parts-serial version (parts_of 46 word)) parts _ _ s.0 s.1 in
    let no_abandoned : list_any is_beyond_version_two a.0 ≡ false = list_any-none (HasListed version) is_beyond_version_two (λ x n. small-listed version x small n) a.0 abandoned in
    let no_owned : list_any is_beyond_version_two w.0 ≡ false = list_any-none (HasListed version) is_beyond_version_two (λ x n. small-listed version x small n) w.0 owned in
    let no_folds : list_any (λ (p : Id × Id). is_large p.0 || is_large p.1) f.0
    ≡ false = list_any-none (HaveNumbers version) (λ p. is_large p.0 || is_large p.1)
    (λ p n. ap (λ b. b || is_large p.1) (small-number version p.0 small n.0) ∙ small-number version p.1 small n.1) f.0 folds in
    let no_short : list_any is_large s.0 ≡ false = list_any-none (HasNumber version) is_large (λ i n. small-number version i small n) s.0 short in
    ap needs_version_three (sym same) ∙ rw (no_abandoned, no_owned, no_folds, no_short) refl

-- ---- what is written

-- what holds of all that fail the test, of a list of which none passes
none-passes : {X Y : Type 0} (f : Y → X) (test : X → Bool) (P : Y → Type 0) → ((y : Y) → test (f y) ≡ false → P y) → (ys : List Y) → list_any test (map f ys) ≡ false → AllByRecursion P ys
none-passes f test P has [] none = tt
none-passes f test P has (y ∷ ys) none = search (rules, or_parts, (none-passes f test P has ys))

-- what holds of each holds of all
each-one : {Y : Type 0} (P : Y → Type 0) → ((y : Y) → P y) → (ys : List Y) → AllByRecursion P ys
each-one P has [] = tt
each-one P has (y ∷ ys) = (has y, each-one P has ys)

small-serial : (id : SpanId) → is_large (id_parts id) ≡ false → HasSerial Two id
small-serial id none = leb-false TEXT_SPANS id.serial none

small-names : (x : Entry) → is_beyond_version_two (entry_parts x) ≡ false → HasNames Two x
small-names x none = search (rules, or_parts, small-serial, not-false)

IsNamed-small : (c : Certificate) → needs_version_three (outline_of c) ≡ false → IsNamed Two c
IsNamed-small c none = search (rules, or_parts, none-passes, HasNames, small-names, HasSerial, small-serial)

IsNamed-large : (c : Certificate) → needs_version_three (outline_of c) ≡ true → IsNamed Three c
IsNamed-large c some = search (rules, each-one, HasNames, HasSerial)

-- the version that is written names each serial and each class
pub IsNamed-version_of : (c : Certificate) → IsNamed (version_of (outline_of c)) c
IsNamed-version_of c = search (rules, cases_Bool, IsNamed, IsNamed-large, IsNamed-small)
