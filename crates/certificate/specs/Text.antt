-- A certificate as text: the one that is written, in version 2 or 3, and the one of version 1.
use Rattle.std.specs.Prelude.{ℕ, ◌≡◌, ◌≤◌, ◌⊎◌, false, List, [], ◌∷◌, ◌++◌, length, map, codes, decimal}
use Rattle.std.specs.List.{All}
use Rattle.bitmap.specs.Slots.{IsBelow, set_text, slots_of_text}
use Rattle.span.specs.Classes.{slots_in}
use Rattle.span.specs.declared.class.Class.{Class}
use Rattle.span.specs.declared.class.Class.TheVariants.{C16}
use Rattle.span.specs.declared.id.SpanId.{SpanId}
use Rattle.span.specs.Texts.{id_text}
use Rattle.span.specs.declared.entry.Entry.{Entry}
use Rattle.mesh_graph.specs.Groups.{IsAscending}
use Rattle.certificate.specs.declared.certificate.Certificate.{Certificate}
use Rattle.mesh_graph.specs.declared.build.TheConstants.{MOST_GROUPS}
use Rattle.certificate.specs.declared.text.version.Version.{Version}
use Rattle.certificate.specs.declared.text.version.Version.TheVariants.{One}
use Rattle.certificate.specs.Grammar.{needs_version_three, opening_of, outline_of, slot_bytes, version_of}

-- the bytes of a slot of the class, in digits
abbrev pub class_text : Class → List ℕ
class_text class = decimal (slot_bytes class)

-- a group: its id, its class and its set
abbrev pub entry_line : Entry → List ℕ
entry_line x = id_text x.id ++ (codes " " ++ (class_text x.class
    ++ (codes " " ++ (set_text x.occupied ++ codes "\n"))))

-- a group in version 1: its id and its set
abbrev pub classless_line : Entry → List ℕ
classless_line x = id_text x.id ++ (codes " " ++ (set_text x.occupied ++ codes "\n"))

-- the set's text gives the set again
abbrev pub IsReadable : Entry → Type 0
IsReadable x = slots_of_text (set_text x.occupied) ≡ x.occupied

-- each slot of the group is one that a page of its class has
abbrev pub FitsClass : Entry → Type 0
FitsClass x = IsBelow x.occupied (slots_in x.class)

-- a fold: an abandoned id and the owned one
abbrev pub pair_line : SpanId × SpanId → List ℕ
pair_line p = id_text p.0 ++ (codes " " ++ (id_text p.1 ++ codes "\n"))

-- a member of the short set
abbrev pub id_line : SpanId → List ℕ
id_line id = id_text id ++ codes "\n"

-- a line for each item
abbrev pub lines_text : {X : Type 0} → (X → List ℕ) → List X → List ℕ
lines_text line [] = []
lines_text line (x ∷ xs) = line x ++ lines_text line xs

-- a title with how many lines follow, and these
abbrev pub list_text : {X : Type 0} → List ℕ → (X → List ℕ) → List X → List ℕ
list_text title line xs = title ++ (codes " " ++ (decimal (length xs)
    ++ (codes "\n" ++ lines_text line xs)))

-- the text of a certificate below the first line of the version, with such a line for each group
abbrev pub text_with : Version → (Entry → List ℕ) → Certificate → List ℕ
text_with version line c =
    opening_of version ++ (codes "\n" ++ (list_text (codes "abandoned") line c.snapshot.abandoned
    ++ (list_text (codes "owned") line c.snapshot.owned
    ++ (list_text (codes "folds") pair_line c.plan
    ++ (list_text (codes "short") id_line c.short
    ++ codes "end\n")))))

-- the text of a certificate: of version 3 if version 2 has not the serial of an id or the class of
-- a group, else of version 2
unfoldable pub certificate_text : Certificate → List ℕ
certificate_text c = text_with (version_of (outline_of c)) entry_line c

-- the text of a certificate in version 1, which names no class
unfoldable pub classless_text : Certificate → List ℕ
classless_text c = text_with One classless_line c

-- version 1 can say the certificate: each group is of 16 bytes a slot, and no serial is large
pub record IsClassless (c : Certificate) : Type 0 where
  pub abandoned : All (λ x. x.class ≡ C16) c.snapshot.abandoned
  pub owned : All (λ x. x.class ≡ C16) c.snapshot.owned
  pub serials : needs_version_three (outline_of c) ≡ false

-- the text that is written of the certificate, or its text of version 1, if that can say it
abbrev pub IsTextOf : Certificate → List ℕ → Type 0
IsTextOf c text = (text ≡ certificate_text c) ⊎ ((text ≡ classless_text c) × IsClassless c)

-- at most 4,096 lines a list, the groups have slots of their class, and the ids of the folds and of
-- the short set ascend
pub record IsWritable (c : Certificate) : Type 0 where
  pub abandoned : length c.snapshot.abandoned ≤ MOST_GROUPS
  pub owned : length c.snapshot.owned ≤ MOST_GROUPS
  pub folds : length c.plan ≤ MOST_GROUPS
  pub short : length c.short ≤ MOST_GROUPS
  pub abandoned_fit : All FitsClass c.snapshot.abandoned
  pub owned_fit : All FitsClass c.snapshot.owned
  pub folds_ascending : IsAscending (map (λ p. p.0) c.plan)
  pub short_ascending : IsAscending c.short
