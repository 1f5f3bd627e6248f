-- An accepted text is a text of what was read.
use mathlib.Core.List.{map-map}
use Rattle.std.proofs.Common.{ℕ, ◌≡◌, cond, true, false, List, [], ◌∷◌, map, Result, Ok, refl, sym, ◌∙◌, ap, inl, inr, rules}
use Rattle.std.specs.List.{AllByRecursion, join_with_byte}
use Rattle.std.specs.Prelude.{IfOk}
use Rattle.std.proofs.lemmas.List.{length-map}
use Rattle.std.proofs.lemmas.List.Elements.{All-from_recursion}
use Rattle.std.proofs.lemmas.List.Splits.{join_with_byte-slice_split}
use Rattle.span.specs.declared.class.Class.TheVariants.{C16}
use Rattle.span.specs.declared.entry.Entry.{Entry}
use Rattle.certificate.specs.declared.certificate.Certificate.{Certificate}
use Rattle.certificate.specs.declared.text.cause.ReadError.{ReadError}
use Rattle.certificate.specs.declared.text.version.Version.{Version}
use Rattle.certificate.specs.declared.text.version.Version.TheVariants.{One, Two, Three}
use Rattle.certificate.specs.declared.text.version.TheConstants.{TEXT_SPANS}
use Rattle.certificate.specs.Grammar.{Reads, at_line, body_in, certificate_in, entry_parts, is_wanted, line_in, needs_version_three, opening_of, outline_of, spans_in, version_in, version_of}
use Rattle.certificate.specs.Text.{IsTextOf, IsWritable, certificate_text, classless_text}
use Rattle.certificate.specs.Words.{parts_of}
use Rattle.certificate.proofs.ReadAgain.{classless_body, entry_body, pair_body, title_body}
use Rattle.certificate.proofs.Rereading.{all_lines, lines_with, parts_of-classless_text, parts_of-text}
use Rattle.certificate.proofs.Serials.{needs_version_three-read}
use Rattle.certificate.proofs.Spelling.{>>=-ok, IsOfVersion, Spells, body_in-spells, entry_words, id_word, if-ok, line_in-spells, outline_lines, pair_words, same_bytes}

version_in-spells : Spells version_in opening_of
version_in-spells line version h = search (rules, same_bytes, if-ok)

classes-version : (xs : List Entry) → AllByRecursion (IsOfVersion One) (map entry_parts xs) → AllByRecursion (λ (x : Entry). x.class ≡ C16) xs
classes-version [] h = tt
classes-version (x ∷ xs) h = (h.0 refl, classes-version xs h.1)

-- the lines that are said are those that are written
outline_lines-outline_of : (version : Version) (body : Entry → List ℕ) → ((x : Entry) → entry_words version (entry_parts x) ≡ body x) → (c : Certificate)
    → opening_of version ∷ outline_lines version (outline_of c) ≡ lines_with version body c
outline_lines-outline_of version body same c = search (rules, entry_words, map-map, pair_words, pair_body, id_word, title_body, length-map)

-- a text of which all lines are those of another is that text
same_text : (text other : List ℕ) → parts_of 10 text ≡ parts_of 10 other → text ≡ other
same_text text other same = sym (join_with_byte-slice_split 10 text) ∙ ap (join_with_byte 10) same ∙ join_with_byte-slice_split 10 other

-- the text is written of the certificate, where these are the lines of the version that is written
text-written : (c : Certificate) (text : List ℕ) (version : Version) → IsWritable c → version_of (outline_of c) ≡ version → parts_of 10 text ≡ all_lines version c → text ≡ certificate_text c
text-written c text version w is lines = same_text text (certificate_text c) (lines ∙ ap (λ v. all_lines v c) (sym is) ∙ sym (parts_of-text c w))

-- an accepted text is a text of what was read
pub IsTextOf-certificate_in : (c : Certificate) (text : List ℕ) → IsWritable c → certificate_in text ≡ Ok (outline_of c) → IsTextOf c text
unfolding certificate_in
IsTextOf-certificate_in c text w h =
    let p = >>=-ok (at_line 0 (line_in version_in (parts_of 10 text) 0)) (λ version. body_in version (parts_of 10 text)) (outline_of c) h in
    let body = body_in-spells p.0 (parts_of 10 text) (outline_of c) p.2 in
    named p.0 (line_in-spells version_in opening_of (parts_of 10 text) 0 p.0 version_in-spells p.1 ∙ ap (λ ps. opening_of p.0 ∷ ps) body.0) body.1 body.2 body.3
    (λ small. needs_version_three-read p.0 (parts_of 10 text) (outline_of c) p.2 small)
  where
    named : (version : Version) → parts_of 10 text ≡ opening_of version ∷ outline_lines version (outline_of c) → AllByRecursion (IsOfVersion version) (map entry_parts c.snapshot.abandoned)
        → AllByRecursion (IsOfVersion version) (map entry_parts c.snapshot.owned) → is_wanted version (outline_of c) ≡ true
        → (spans_in version ≡ TEXT_SPANS → needs_version_three (outline_of c) ≡ false) → IsTextOf c text
    named One lines abandoned owned wanted small = inr (
      same_text text (classless_text c) (lines ∙ outline_lines-outline_of One classless_body (λ x. refl) c ∙ sym (parts_of-classless_text c w)),
      record {
        abandoned = All-from_recursion (λ (x : Entry). x.class ≡ C16) c.snapshot.abandoned (classes-version c.snapshot.abandoned abandoned);
        owned = All-from_recursion (λ (x : Entry). x.class ≡ C16) c.snapshot.owned (classes-version c.snapshot.owned owned);
        serials = small refl;
      },
    )
    named Two lines abandoned owned wanted small = inl (text-written c text Two w (ap (λ b. cond b Three Two) (small refl)) (lines ∙ outline_lines-outline_of Two entry_body (λ x. refl) c))
    named Three lines abandoned owned wanted small = inl (text-written c text Three w (ap (λ b. cond b Three Two) wanted) (lines ∙ outline_lines-outline_of Three entry_body (λ x. refl) c))

-- the same, of whatever reading answered
pub IsTextOf-Reads : (answer : Result Certificate ReadError) (text : List ℕ) → Reads outline_of answer (certificate_in text) → IfOk answer IsWritable → IfOk answer (λ c. IsTextOf c text)
IsTextOf-Reads (Ok c) text said writable = IsTextOf-certificate_in c text writable said
IsTextOf-Reads answer text said writable = tt
