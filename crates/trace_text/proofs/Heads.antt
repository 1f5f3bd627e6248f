-- The header of a text, line by line.
use Rattle.trace_text.proofs.Names.{◌≡◌, ℕ, ◌+◌, ◌==◌, if◌then◌else◌, true, List, [], ◌∷◌, ◌++◌, length, get_or, Option, Some, None, rules, refl, sym, ap, ◌∙◌, inl, inr, subst, bytes_eq, bytes_eq-Decides, IsInRange, AreWords, Verb, BeginWith, FailsField, FailsHeader, Field, HasHeader, IsAtFault, IsHeaderFault, IsWithin, Opening, SaysNumber, Size, field_in, fields, number_of, numbers_of, opening_of, words_of, Header, Version, Cause, ParseError, BadTrace, OutOfMemory, same_bytes}
use Rattle.trace_text.specs.Form as form
use Rattle.trace_text.specs.Number.{IsOutside, KeepsNumber}
use Rattle.trace_text.specs.declared.header.Version.TheVariants.{One, Two, Three, Four, Five, Six}
use Rattle.trace_text.specs.declared.numeral.Number.{Number}
use Rattle.trace_text.specs.declared.cause.Cause.TheVariants as cause
use Rattle.trace_text.proofs.Tests.{chosen}

-- the line below those that begin a header is at fault
pub FailsHeader-below : (above more : List Field) (field : Field) (numbers : List ℕ) (number : ℕ) (lines rest : List (List ℕ)) (e : ParseError)
    → fields ≡ above ++ field ∷ more → number ≡ length above + 1 → BeginWith above numbers lines rest → FailsField field number rest e → FailsHeader lines e
FailsHeader-below above more field numbers number lines rest OutOfMemory split place fine fails = absurd fails
FailsHeader-below above more field numbers number lines rest (BadTrace line c) split place fine fails = search (rules)

-- a word and a number are found in the two words that say them
field_in-says : (word : List ℕ) (words : List (List ℕ)) (n : ℕ) → AreWords words (Verb word ∷ form.Number n ∷ []) → field_in word words ≡ Some n
field_in-says word [] n says = absurd says
field_in-says word (a ∷ []) n says = absurd says.1
field_in-says word (a ∷ b ∷ []) n says = let same : bytes_eq a word ≡ true = search (rules, bytes_eq-Decides, says.0) in rw same says.1.0
field_in-says word (a ∷ b ∷ c ∷ more) n says = absurd says.1.1

-- and where they are found, the two words say them
field_in-found : (word : List ℕ) (words : List (List ℕ)) (n : ℕ) → field_in word words ≡ Some n → AreWords words (Verb word ∷ form.Number n ∷ [])
field_in-found word (a ∷ b ∷ []) n e = search (rules, chosen, same_bytes)
field_in-found word words n e = cc

-- its number is outside the range
pub size_outside : (word bytes : List ℕ) (most : ℕ) (number : Number) (lines rest : List (List ℕ)) → lines ≡ bytes ∷ rest
    → KeepsNumber (Some number) (field_in word (words_of bytes)) → IsOutside most number → IsAtFault (Size word most) lines cause.Limit
size_outside word bytes most number lines rest split says out = subst (λ ls. IsAtFault (Size word most) ls cause.Limit) (sym split)
    (let found = go (field_in word (words_of bytes)) refl says in inr (refl, found.0, found.1, found.2))
  where
    go : (o : Option ℕ) → field_in word (words_of bytes) ≡ o → KeepsNumber (Some number) o → (n : ℕ) × AreWords (words_of bytes) (Verb word ∷ form.Number n ∷ []) × (IsInRange 1 most n → ⊥)
    go None e says = absurd says
    go (Some n) e says = (n, field_in-found word (words_of bytes) n e, out n says)

-- a size that is read is in its range
pub size_range : (word : List ℕ) (most n : ℕ) (lines below : List (List ℕ)) → BeginWith (Size word most ∷ []) (n ∷ []) lines below → IsInRange 1 most n
size_range word most n [] below begin = absurd begin
size_range word most n (line ∷ lines) below begin = begin.0.1

-- the version of a number
abbrev of_number : ℕ → Version
of_number n =
    if n == 6 then Six else (if n == 5 then Five else (if n == 4 then Four else (if n == 3 then Three else (if n == 2 then Two else One))))

of_number_of : (version : Version) → of_number (number_of version) ≡ version
of_number_of version = search rules

-- the last byte of each first line is its version's digit
digit_of-opening : (version : Version) → get_or (opening_of version) 5 0 ≡ 48 + number_of version
digit_of-opening version = search rules

-- so each version has its own first line
opening_of-same : (version other : Version) → opening_of version ≡ opening_of other → version ≡ other
opening_of-same version other same = search (rules, digit_of-opening, of_number_of)

-- a line says one number
says_one : (field : Field) (line : List ℕ) (n m : ℕ) → SaysNumber field n line → SaysNumber field m line → n ≡ m
says_one Opening line n m (version, is, says) (other, is_other, says_other) = says ∙ ap number_of (opening_of-same version other (sym is ∙ is_other)) ∙ sym says_other
says_one (Size word most) line n m a b = search (rules, field_in-says)

-- lines begin with fields that say one list of numbers, and one list stands below them
BeginWith-same : (fs : List Field) (ns ms : List ℕ) (lines below other : List (List ℕ)) → BeginWith fs ns lines below → BeginWith fs ms lines other → (ns ≡ ms) × (below ≡ other)
BeginWith-same [] [] [] lines below other a b = (refl, sym a ∙ b)
BeginWith-same [] [] (m ∷ ms) lines below other a b = absurd b
BeginWith-same (f ∷ fs) (n ∷ ns) [] (line ∷ lines) below other a b = absurd b
BeginWith-same (f ∷ fs) (n ∷ ns) (m ∷ ms) (line ∷ lines) below other a b =
    let one = says_one f line n m a.0.0 b.0.0 in
    let more = BeginWith-same fs ns ms lines below other a.1 b.1 in
    (ap (λ x. x ∷ ns) one ∙ ap (λ xs. m ∷ xs) more.0, more.1)
BeginWith-same fs ns ms lines below other a b = absurd a

-- the header of these numbers
abbrev of_numbers : List ℕ → Header
of_numbers ns = record { version = of_number (get_or ns 0 0); shards = get_or ns 1 0; pages = get_or ns 2 0; ring = get_or ns 3 0; gens = get_or ns 4 0 }

of_numbers_of : (h : Header) → of_numbers (numbers_of h) ≡ h
of_numbers_of h = ap (λ version. record h { version = version }) (of_number_of h.version)

-- lines have one header
pub HasHeader-same : (h g : Header) (lines below other : List (List ℕ)) → HasHeader h lines below → HasHeader g lines other → (h ≡ g) × (below ≡ other)
HasHeader-same h g lines below other a b = let same = BeginWith-same fields (numbers_of h) (numbers_of g) lines below other a b in
    (sym (of_numbers_of h) ∙ ap of_numbers same.0 ∙ of_numbers_of g, same.1)

-- lines that begin with fields are not at fault in one of them
fine_or_fault : (above more : List Field) (field : Field) (ns ms : List ℕ) (lines below rest : List (List ℕ)) (c : Cause)
    → BeginWith (above ++ field ∷ more) ns lines below → BeginWith above ms lines rest → IsAtFault field rest c → ⊥
fine_or_fault [] more field (n ∷ ns) (m ∷ ms) lines below rest c all fine fault = fine
fine_or_fault [] more field (n ∷ ns) [] (line ∷ lines) below rest c all fine fault = go (subst (λ ls. IsAtFault field ls c) (sym fine) fault)
  where
    go : IsAtFault field (line ∷ lines) c → ⊥
    go (inl none) = none.1 n all.0.0
    go (inr (_, m, says, out)) = out (subst (IsWithin field) (says_one field line n m all.0.0 says) all.0.1)
fine_or_fault (f ∷ fs) more field (n ∷ ns) [] lines below rest c all fine fault = fine
fine_or_fault (f ∷ fs) more field (n ∷ ns) (m ∷ ms) (line ∷ lines) below rest c all fine fault = fine_or_fault fs more field ns ms lines below rest c all.1 fine.1 fault
fine_or_fault above more field ns ms lines below rest c all fine fault = all

-- so a header is not at fault
pub HasHeader-fine : (h : Header) (lines below : List (List ℕ)) (number : ℕ) (c : Cause) → HasHeader h lines below → IsHeaderFault lines number c → ⊥
HasHeader-fine h lines below number c head fault =
    fine_or_fault fault.above fault.more fault.field (numbers_of h) fault.numbers lines below fault.rest c
    (subst (λ fs. BeginWith fs (numbers_of h) lines below) fault.split head) fault.fine fault.fault
