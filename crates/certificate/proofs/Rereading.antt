-- The lines of a written certificate, read at their places.
use Rattle.std.proofs.Common.{ℕ, ◌+◌, ◌<◌, ◌≤◌, ◌≡◌, true, List, [], ◌∷◌, ◌++◌, codes, length, map, get_or, Option, Some, None, option_map, Result, Ok, refl, subst, sym, ◌∙◌, ap, arith, suc, lt-ltb, eq-eqb, rules}
use Rattle.std.specs.Fmt.{decimal}
use Rattle.std.specs.List.{AllByRecursion}
use Rattle.std.proofs.lemmas.List.{append_assoc, length-append, length-map, map-id}
use Rattle.std.proofs.lemmas.List.Elements.{recursion_from_All}
use Rattle.bitmap.specs.Slots.{set_text}
use Rattle.span.specs.declared.id.SpanId.{SpanId}
use Rattle.span.specs.Ids.{rank}
use Rattle.span.specs.Texts.{id_text}
use Rattle.span.specs.declared.entry.Entry.{Entry}
use Rattle.mesh_graph.specs.Groups.{IsAscending, ids}
use Rattle.certificate.specs.declared.certificate.Certificate.{Certificate}
use Rattle.certificate.specs.declared.text.cause.Cause.{Cause}
use Rattle.certificate.specs.declared.text.version.Version.{Version}
use Rattle.certificate.specs.declared.text.version.Version.TheVariants.{One}
use Rattle.certificate.specs.Grammar.{◌>>=◌, ComesAfter, Id, at_line, body_in, certificate_in, count_in, end_in, entry_in, entry_parts, id_in, id_parts, is_wanted, item_in, items_in, last_in, line_in, list_in, opening_of, order_of, outline_of, pair_in, pair_parts, version_in, version_of}
use Rattle.certificate.specs.Text.{FitsClass, IsReadable, IsWritable, certificate_text, classless_line, classless_text, entry_line, id_line, lines_text, list_text, pair_line, text_with}
use Rattle.certificate.specs.Words.{parts_of}
use Rattle.certificate.proofs.Items.{body_in-lists}
use Rattle.certificate.proofs.ReadAgain.{HasClasses, HasNames, HasSerial, classless_body, count_in-body, entry_body, entry_in-body, id_in-text, lacks-classless_body, lacks-entry_body, lacks-id_text, lacks-pair_body, lacks-title_body, pair_body, pair_in-body, title_body}
use Rattle.certificate.proofs.Split.{lacks, parts-word}
use Rattle.mesh_graph.specs.declared.build.TheConstants.{MOST_GROUPS}

-- ---- the lines of a text

parts_of-lines : {X : Type 0} (line body : X → List ℕ) → ((x : X) → line x ≡ body x ++ 10 ∷ []) → ((x : X) → lacks 10 (body x) ≡ true)
    → (xs : List X) (rest : List ℕ) → parts_of 10 (lines_text line xs ++ rest) ≡ map body xs ++ parts_of 10 rest
parts_of-lines line body is plain [] rest = refl
parts_of-lines line body is plain (x ∷ xs) rest = search (rules, append_assoc, parts-word, (parts_of-lines line body is plain xs rest))

parts_of-list : {X : Type 0} (title : List ℕ) (line body : X → List ℕ) → lacks 10 title ≡ true → ((x : X) → line x ≡ body x ++ 10 ∷ [])
    → ((x : X) → lacks 10 (body x) ≡ true) → (xs : List X) (rest : List ℕ) → length xs ≤ MOST_GROUPS
    → parts_of 10 (list_text title line xs ++ rest) ≡ title_body title (length xs) ∷ (map body xs ++ parts_of 10 rest)
parts_of-list title line body head is plain xs rest few =
    let d : List ℕ = decimal (length xs) in
    let more : List ℕ = lines_text line xs in
    ap (parts_of 10) (append_assoc title (32 ∷ (d ++ 10 ∷ more)) rest ∙ ap (λ t. title ++ 32 ∷ t) (append_assoc d (10 ∷ more) rest) ∙ sym (append_assoc title (32 ∷ d) (10 ∷ (more ++ rest))))
    ∙ parts-word 10 (title_body title (length xs)) (more ++ rest) (lacks-title_body title (length xs) head few)
    ∙ ap (λ ps. title_body title (length xs) ∷ ps) (parts_of-lines line body is plain xs rest)

entry_line-body : (x : Entry) → entry_line x ≡ entry_body x ++ 10 ∷ []
entry_line-body x = search (rules, append_assoc)

classless_line-body : (x : Entry) → classless_line x ≡ classless_body x ++ 10 ∷ []
classless_line-body x = sym (append_assoc (id_text x.id) (32 ∷ set_text x.occupied) (10 ∷ []))

pair_line-body : (p : SpanId × SpanId) → pair_line p ≡ pair_body p ++ 10 ∷ []
pair_line-body p = sym (append_assoc (id_text p.0) (32 ∷ id_text p.1) (10 ∷ []))

-- the lines from the short set on
abbrev short_lines : Certificate → List (List ℕ)
short_lines c = title_body (codes "short") (length c.short) ∷ (map id_text c.short ++ (codes "end" ∷ [] ∷ []))

abbrev fold_lines : Certificate → List (List ℕ)
fold_lines c = title_body (codes "folds") (length c.plan) ∷ (map pair_body c.plan ++ short_lines c)

abbrev owned_lines : Certificate → List (List ℕ)
owned_lines c = title_body (codes "owned") (length c.snapshot.owned) ∷ (map entry_body c.snapshot.owned ++ fold_lines c)

-- the lines of a certificate below the first line of the version, with such a line for each group
abbrev pub lines_with : Version → (Entry → List ℕ) → Certificate → List (List ℕ)
lines_with version body c =
    opening_of version ∷ (title_body (codes "abandoned") (length c.snapshot.abandoned) ∷ (map body c.snapshot.abandoned
    ++ title_body (codes "owned") (length c.snapshot.owned) ∷ (map body c.snapshot.owned ++ fold_lines c)))

-- the lines with classes
abbrev pub all_lines : Version → Certificate → List (List ℕ)
all_lines version c = lines_with version entry_body c

lacks-opening_of : (version : Version) → lacks 10 (opening_of version) ≡ true
lacks-opening_of One = refl
lacks-opening_of version = refl

parts_of-text_with : (version : Version) (line body : Entry → List ℕ) → ((x : Entry) → line x ≡ body x ++ 10 ∷ [])
    → ((x : Entry) → lacks 10 (body x) ≡ true) → (c : Certificate) → IsWritable c
    → parts_of 10 (text_with version line c) ≡ lines_with version body c
parts_of-text_with version line body is plain c w =
    let last : parts_of 10 (codes "end\n") ≡ codes "end" ∷ [] ∷ [] = refl in
    let short = list_text (codes "short") id_line c.short ++ codes "end\n" in
    let folds = list_text (codes "folds") pair_line c.plan ++ short in
    let owned = list_text (codes "owned") line c.snapshot.owned ++ folds in
    let all = list_text (codes "abandoned") line c.snapshot.abandoned ++ owned in
    parts-word 10 (opening_of version) all (lacks-opening_of version)
    ∙ ap (λ ps. opening_of version ∷ ps) (
    parts_of-list (codes "abandoned") line body refl is plain c.snapshot.abandoned owned w.abandoned
    ∙ ap (λ ps. title_body (codes "abandoned") (length c.snapshot.abandoned) ∷ (map body c.snapshot.abandoned ++ ps)) (
    parts_of-list (codes "owned") line body refl is plain c.snapshot.owned folds w.owned
    ∙ ap (λ ps. title_body (codes "owned") (length c.snapshot.owned) ∷ (map body c.snapshot.owned ++ ps)) (
    parts_of-list (codes "folds") pair_line pair_body refl pair_line-body lacks-pair_body c.plan short w.folds
    ∙ ap (λ ps. title_body (codes "folds") (length c.plan) ∷ (map pair_body c.plan ++ ps)) (
    parts_of-list (codes "short") id_line id_text refl (λ id. refl) (λ id. lacks-id_text 10 id (omega arith)) c.short (codes "end\n") w.short
    ∙ ap (λ ps. title_body (codes "short") (length c.short) ∷ (map id_text c.short ++ ps)) last))))

-- the lines that are written
pub parts_of-text : (c : Certificate) → IsWritable c → parts_of 10 (certificate_text c) ≡ all_lines (version_of (outline_of c)) c
unfolding certificate_text
parts_of-text c w = parts_of-text_with (version_of (outline_of c)) entry_line entry_body entry_line-body lacks-entry_body c w

-- those in version 1
pub parts_of-classless_text : (c : Certificate) → IsWritable c → parts_of 10 (classless_text c) ≡ lines_with One classless_body c
unfolding classless_text
parts_of-classless_text c w = parts_of-text_with One classless_line classless_body classless_line-body lacks-classless_body c w

-- ---- lines at their places

at-front : {X : Type 0} (front : List X) (x : X) (rest : List X) (d : X) → get_or (front ++ x ∷ rest) (length front) d ≡ x
at-front [] x rest d = refl
at-front (y ∷ front) x rest d = at-front front x rest d

line_in-at : {X : Type 0} (parse : List ℕ → Result X Cause) (front : List (List ℕ)) (line : List ℕ) (rest : List (List ℕ)) → 0 < length rest
    → line_in parse (front ++ line ∷ rest) (length front) ≡ parse line
line_in-at parse front line rest some = search (rules, length-append, lt-ltb, at-front)

-- each comes after the one before it
abbrev Chain : {Y : Type 0} → (Y → SpanId) → Option SpanId → List Y → Type 0
Chain key last [] = Unit {0}
Chain key last (y ∷ ys) = ComesAfter last (key y) × Chain key (Some (key y)) ys

chain-after : {Y : Type 0} (key : Y → SpanId) (y : Y) (ys : List Y) → IsAscending (map key (y ∷ ys)) → Chain key (Some (key y)) ys
chain-after key y [] up = tt
chain-after key y (z ∷ ys) up = (up 0 (omega arith), chain-after key z ys (λ k l. let next : suc k + 1 ≡ suc (k + 1) = omega arith in rw next at (up (suc k) (omega arith))))

chain : {Y : Type 0} (key : Y → SpanId) (ys : List Y) → IsAscending (map key ys) → Chain key None ys
chain key [] up = tt
chain key (y ∷ ys) up = (tt, chain-after key y ys up)

in-order : (last : Option SpanId) (id : SpanId) → ComesAfter last id → order_of (option_map id_parts last) (id_parts id) ≡ Ok tt
in-order None id h = refl
in-order (Some last) id h = rw (lt-ltb (rank last) (rank id) h) refl

module _ {X Y : Type 0} (parse : List ℕ → Result X Cause) (id_of : X → Id) (view : Y → X) (key : Y → SpanId) (keys : (y : Y) → id_of (view y) ≡ id_parts (key y)) (body : Y → List ℕ) where
  items_in-at : (ys : List Y) (front rest : List (List ℕ)) (last : Option SpanId) → AllByRecursion (λ y. parse (body y) ≡ Ok (view y)) ys → Chain key last ys → 0 < length rest
      → items_in parse id_of (front ++ (map body ys ++ rest)) (option_map id_parts last) (length front) (length ys) ≡ Ok (map view ys)
  items_in-at [] front rest last reads up some = refl
  items_in-at (y ∷ ys) front rest last reads up some =
      let follow : 0 < length (map body ys ++ rest) = let all : length (map body ys ++ rest) ≡ length (map body ys) + length rest = length-append (map body ys) rest in omega arith in
      let item : item_in parse id_of (option_map id_parts last) (body y) ≡ Ok (view y) = rw (reads.0, keys y, in-order last (key y) up.0) refl in
      let here : line_in (item_in parse id_of (option_map id_parts last)) (front ++ (body y ∷ (map body ys ++ rest))) (length front)
      ≡ Ok (view y) = line_in-at (item_in parse id_of (option_map id_parts last)) front (body y) (map body ys ++ rest) follow ∙ item in
      let longer : length (front ++ body y ∷ []) ≡ length front + 1 = length-append front (body y ∷ []) in
      let again : items_in parse id_of (front ++ (body y ∷ (map body ys ++ rest))) (Some (id_of (view y))) (length front + 1) (length ys) ≡ Ok (map view ys) =
      (λ i. items_in parse id_of (sym (append_assoc front (body y ∷ []) (map body ys ++ rest)) i) (Some (keys y i)) (sym longer i) (length ys))
      ∙ items_in-at ys (front ++ body y ∷ []) rest (Some (key y)) reads.1 up.1 some in
      ap (λ r. at_line (length front) r >>= (λ x. items_in parse id_of (front ++ (body y ∷ (map body ys ++ rest))) (Some (id_of x)) (length front + 1) (length ys) >>= (λ more. Ok (x ∷ more)))) here
      ∙ ap (λ r. r >>= (λ more. Ok (view y ∷ more))) again

  list_in-at : (title : List ℕ) (ys : List Y) (front rest : List (List ℕ)) → lacks 32 title ≡ true → length ys ≤ MOST_GROUPS
      → AllByRecursion (λ y. parse (body y) ≡ Ok (view y)) ys → IsAscending (map key ys) → 0 < length rest
      → list_in title parse id_of (front ++ (title_body title (length ys) ∷ (map body ys ++ rest))) (length front) ≡ Ok (map view ys)
  unfolding list_in
  list_in-at title ys front rest plain few reads up some =
      let head : List ℕ = title_body title (length ys) in
      let follow : 0 < length (map body ys ++ rest) = let all : length (map body ys ++ rest) ≡ length (map body ys) + length rest = length-append (map body ys) rest in omega arith in
      let longer : length (front ++ head ∷ []) ≡ length front + 1 = length-append front (head ∷ []) in
      ap (λ r. at_line (length front) r >>= items_in parse id_of (front ++ (head ∷ (map body ys ++ rest))) None (length front + 1))
      (line_in-at (count_in title) front head (map body ys ++ rest) follow ∙ count_in-body title (length ys) plain few)
      ∙ (λ i. items_in parse id_of (sym (append_assoc front (head ∷ []) (map body ys ++ rest)) i) None (sym longer i) (length ys))
      ∙ items_in-at ys (front ++ head ∷ []) rest None reads (chain key ys up) some

-- ---- the certificate

each : {Y : Type 0} {P Q : Y → Type 0} → ((y : Y) → P y → Q y) → (ys : List Y) → AllByRecursion P ys → AllByRecursion Q ys
each h [] all = tt
each h (y ∷ ys) all = (h y all.0, each h ys all.1)

each_entry : (version : Version) → HasClasses version → (xs : List Entry) → AllByRecursion (HasNames version) xs → AllByRecursion IsReadable xs
    → AllByRecursion FitsClass xs → AllByRecursion (λ x. entry_in version (entry_body x) ≡ Ok (entry_parts x)) xs
each_entry version classes [] named back fit = tt
each_entry version classes (x ∷ xs) named back fit =
    (entry_in-body version classes x named.0 back.0 fit.0, each_entry version classes xs named.1 back.1 fit.1)

-- the version names each serial and each class of the certificate, and is wanted
pub record IsNamed (version : Version) (c : Certificate) : Type 0 where
  pub classes : HasClasses version
  pub abandoned : AllByRecursion (HasNames version) c.snapshot.abandoned
  pub owned : AllByRecursion (HasNames version) c.snapshot.owned
  pub folds : AllByRecursion (λ p. HasSerial version p.0 × HasSerial version p.1) c.plan
  pub short : AllByRecursion (HasSerial version) c.short
  pub wanted : is_wanted version (outline_of c) ≡ true
  pub opening : version_in (opening_of version) ≡ Ok version

-- the lines of a certificate are read again
body_in-all_lines : (version : Version) (c : Certificate) → IsWritable c → IsNamed version c → IsAscending (ids c.snapshot.abandoned) → IsAscending (ids c.snapshot.owned)
    → AllByRecursion IsReadable c.snapshot.abandoned → AllByRecursion IsReadable c.snapshot.owned
    → body_in version (all_lines version c) ≡ Ok (outline_of c)
body_in-all_lines version c w named up_a up_o sets_a sets_o =
    let A = c.snapshot.abandoned in
    let O = c.snapshot.owned in
    let front1 : List (List ℕ) = opening_of version ∷ [] in
    let head_a : List (List ℕ) = title_body (codes "abandoned") (length A) ∷ map entry_body A in
    let front2 : List (List ℕ) = front1 ++ head_a in
    let head_o : List (List ℕ) = title_body (codes "owned") (length O) ∷ map entry_body O in
    let front3 : List (List ℕ) = front2 ++ head_o in
    let head_f : List (List ℕ) = title_body (codes "folds") (length c.plan) ∷ map pair_body c.plan in
    let front4 : List (List ℕ) = front3 ++ head_f in
    let head_s : List (List ℕ) = title_body (codes "short") (length c.short) ∷ map id_text c.short in
    let front5 : List (List ℕ) = front4 ++ head_s in
    let whole2 : all_lines version c ≡ front2 ++ owned_lines c = sym (append_assoc front1 head_a (owned_lines c)) in
    let whole3 : all_lines version c ≡ front3 ++ fold_lines c = whole2 ∙ sym (append_assoc front2 head_o (fold_lines c)) in
    let whole4 : all_lines version c ≡ front4 ++ short_lines c = whole3 ∙ sym (append_assoc front3 head_f (short_lines c)) in
    let whole5 : all_lines version c ≡ front5 ++ (codes "end" ∷ [] ∷ []) = whole4 ∙ sym (append_assoc front4 head_s (codes "end" ∷ [] ∷ [])) in
    let whole6 : all_lines version c ≡ (front5 ++ codes "end" ∷ []) ++ ([] ∷ []) = whole5 ∙ sym (append_assoc front5 (codes "end" ∷ []) ([] ∷ [])) in
    let la : length (map entry_body A) ≡ length A = length-map A entry_body in
    let lo : length (map entry_body O) ≡ length O = length-map O entry_body in
    let lf : length (map pair_body c.plan) ≡ length c.plan = length-map c.plan pair_body in
    let ls : length (map id_text c.short) ≡ length c.short = length-map c.short id_text in
    let va : length (map entry_parts A) ≡ length A = length-map A entry_parts in
    let vo : length (map entry_parts O) ≡ length O = length-map O entry_parts in
    let vf : length (map pair_parts c.plan) ≡ length c.plan = length-map c.plan pair_parts in
    let vs : length (map id_parts c.short) ≡ length c.short = length-map c.short id_parts in
    let n3 : length front3 ≡ length front2 + length head_o = length-append front2 head_o in
    let n4 : length front4 ≡ length front3 + length head_f = length-append front3 head_f in
    let n5 : length front5 ≡ length front4 + length head_s = length-append front4 head_s in
    let n6 : length (front5 ++ codes "end" ∷ []) ≡ length front5 + 1 = length-append front5 (codes "end" ∷ []) in
    let n7 : length ((front5 ++ codes "end" ∷ []) ++ ([] ∷ [])) ≡ length (front5 ++ codes "end" ∷ []) + 1 = length-append (front5 ++ codes "end" ∷ []) ([] ∷ []) in
    let read_end : line_in (last_in (is_wanted version (outline_of c))) (all_lines version c) (length front5)
    ≡ Ok tt = ap (λ ps. line_in (last_in (is_wanted version (outline_of c))) ps (length front5)) whole5
    ∙ line_in-at (last_in (is_wanted version (outline_of c))) front5 (codes "end") ([] ∷ []) (omega arith)
    ∙ ap (λ wanted. last_in wanted (codes "end")) named.wanted in
    let size : length (all_lines version c) ≡ length front5 + 1 + 1 = ap length whole6 ∙ n7 ∙ ap (λ n. n + 1) n6 in
    let empty : get_or (all_lines version c) (length front5 + 1) [] ≡ [] = (λ i. get_or (whole6 i) (sym n6 i) []) ∙ at-front (front5 ++ codes "end" ∷ []) [] [] [] in
    let nothing : end_in (all_lines version c) (length front5 + 1) ≡ Ok tt = rw (eq-eqb (length (all_lines version c)) (length front5 + 1 + 1) size, empty) refl in
    body_in-lists version (all_lines version c) (map entry_parts A) (map entry_parts O) (map pair_parts c.plan) (map id_parts c.short) (length front2) (length front3)
    (length front4) (length front5)
    (list_in-at (entry_in version) (λ x. x.id) entry_parts (λ x. x.id) (λ y. refl) entry_body (codes "abandoned") A front1 (owned_lines c) refl w.abandoned
    (each_entry version named.classes A named.abandoned sets_a (recursion_from_All FitsClass A w.abandoned_fit)) up_a (omega arith))
    (ap (λ ps. list_in (codes "owned") (entry_in version) (λ x. x.id) ps (length front2)) whole2
    ∙ list_in-at (entry_in version) (λ x. x.id) entry_parts (λ x. x.id) (λ y. refl) entry_body (codes "owned") O front2 (fold_lines c) refl w.owned
    (each_entry version named.classes O named.owned sets_o (recursion_from_All FitsClass O w.owned_fit)) up_o (omega arith))
    (ap (λ ps. list_in (codes "folds") (pair_in version) (λ p. p.0) ps (length front3)) whole3
    ∙ list_in-at (pair_in version) (λ p. p.0) pair_parts (λ p. p.0) (λ y. refl) pair_body (codes "folds") c.plan front3 (short_lines c) refl w.folds
    (each (pair_in-body version) c.plan named.folds) w.folds_ascending (omega arith))
    (ap (λ ps. list_in (codes "short") (id_in version) (λ id. id) ps (length front4)) whole4
    ∙ list_in-at (id_in version) (λ id. id) id_parts (λ id. id) (λ y. refl) id_text (codes "short") c.short front4 (codes "end" ∷ [] ∷ []) refl w.short
    (each (id_in-text version) c.short named.short) (subst IsAscending (sym (map-id c.short)) w.short_ascending) (omega arith))
    (omega arith) (omega arith) (omega arith) (omega arith)
    ∙ rw (read_end, nothing) refl

-- what is written is read again
pub certificate_in-text : (c : Certificate) → IsWritable c → IsNamed (version_of (outline_of c)) c → IsAscending (ids c.snapshot.abandoned) → IsAscending (ids c.snapshot.owned)
    → AllByRecursion IsReadable c.snapshot.abandoned → AllByRecursion IsReadable c.snapshot.owned
    → certificate_in (certificate_text c) ≡ Ok (outline_of c)
unfolding certificate_in
certificate_in-text c w named up_a up_o sets_a sets_o = search (rules, title_body, entry_body, line_in-at, parts_of-text, body_in-all_lines)
