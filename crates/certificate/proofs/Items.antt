-- A list of items while it is read.
use Rattle.std.proofs.Common.{ℕ, ◌+◌, ◌-◌, ◌<◌, ◌≤◌, ◌≡◌, List, [], ◌∷◌, ◌++◌, codes, length, map, get_or, Option, Some, None, option_map, Result, Ok, Err, refl, sym, ◌∙◌, ap, arith, suc, rules}
use Rattle.std.proofs.lemmas.Bool.{cases_eq}
use Rattle.std.proofs.lemmas.List.{append-nil, append_assoc, get_or_append_left, get_or_push, length-map, length_push, map_push}
use Rattle.span.specs.declared.id.SpanId.{SpanId}
use Rattle.span.specs.Ids.{rank}
use Rattle.span.specs.declared.entry.Entry.{Entry}
use Rattle.mesh_graph.specs.Groups.{IsAscending}
use Rattle.certificate.specs.declared.text.cause.Cause.{Cause}
use Rattle.certificate.specs.declared.text.version.Version.{Version}
use Rattle.certificate.specs.declared.text.cause.ReadError.{ReadError}
use Rattle.certificate.specs.declared.text.cause.ReadError.TheVariants.{BadCertificate, OutOfMemory}
use Rattle.certificate.specs.Grammar.{◌>>=◌, ComesAfter, Id, Listed, Reads, at_line, body_in, count_in, ending_in, entry_in, entry_parts, id_in, id_parts, item_in, items_in, line_in, list_in, pair_in, pair_parts}
use Rattle.certificate.specs.Words.{lines_of}

-- a refusal that the grammar has, too
pub Reads-err : {X Y : Type 0} (f : X → Y) (e : ReadError) (said : Result Y ReadError) → said ≡ Err e → Reads f (Err e) said
Reads-err f OutOfMemory said h = tt
Reads-err f (BadCertificate line cause) said h = h

-- the first step, and then the next one
pub then-err : {A B E : Type 0} (r : Result A E) (next : A → Result B E) (e : E) → Err e ≡ r → (r >>= next) ≡ Err e
then-err r next e h = ap (λ x. x >>= next) (sym h)

pub then-ok : {A B E : Type 0} (r : Result A E) (next : A → Result B E) (a : A) → Ok a ≡ r → (r >>= next) ≡ next a
then-ok r next a h = ap (λ x. x >>= next) (sym h)

-- items that stand before the rest
abbrev pub carried : {X : Type 0} → List X → Result (List X) ReadError → Result (List X) ReadError
carried xs r = r >>= (λ more. Ok (xs ++ more))

carried-push : {X : Type 0} (xs : List X) (x : X) (r : Result (List X) ReadError) → carried xs (r >>= (λ more. Ok (x ∷ more))) ≡ carried (xs ++ x ∷ []) r
carried-push xs x (Ok more) = ap Ok (sym (append_assoc xs (x ∷ []) more))
carried-push xs x (Err e) = refl

-- one id more, that comes after the last one
ascending-push : (ids : List SpanId) (y : SpanId) → IsAscending ids → ((i : ℕ) → i + 1 ≡ length ids → get_or (map rank ids) i 0 < rank y) → IsAscending (ids ++ y ∷ [])
ascending-push ids y up late k l = search (rules, length-map, length_push, map_push, get_or_append_left, cases_eq, get_or_push)

-- the first k items of n have been read, and the last of them has this id
pub record IsReading {X Y : Type 0} (parse : List ℕ → Result X Cause) (id_of : X → Id) (view : Y → X) (key : Y
    → SpanId) (parts : List (List ℕ)) (at n : ℕ) (done : List Y) (last : Option SpanId) (k : ℕ) : Type 0 where
  pub count : length done ≡ k
  pub within : k ≤ n
  pub so_far : items_in parse id_of parts None at n ≡ carried (map view done) (items_in parse id_of parts (option_map id_parts last) (at + k) (n - k))
  pub ascending : IsAscending (map key done)
  pub first : last ≡ None → length done ≡ 0
  pub latest : (l : SpanId) (i : ℕ) → last ≡ Some l → i + 1 ≡ length done → get_or (map rank (map key done)) i 0 ≡ rank l

module _ {X Y : Type 0} (parse : List ℕ → Result X Cause) (id_of : X → Id) (view : Y → X) (key : Y → SpanId) (keys : (y : Y)
    → id_of (view y) ≡ id_parts (key y)) (parts : List (List ℕ)) (at n : ℕ) where
  module _ (done : List Y) (last : Option SpanId) (k : ℕ) (s : IsReading parse id_of view key parts at n done last k) where
    pub IsReading-more : (y : Y) → k < n → Ok (view y) ≡ line_in (item_in parse id_of (option_map id_parts last)) parts (at + k) → ComesAfter last (key y)
        → IsReading parse id_of view key parts at n (done ++ y ∷ []) (Some (key y)) (k + 1)
    IsReading-more y l line after = record {
      count = length_push done y ∙ ap (λ m. m + 1) s.count;
      within = omega arith;
      so_far = s.so_far
          ∙ ap (λ m. carried (map view done) (items_in parse id_of parts (option_map id_parts last) (at + k) m)) (suc_of)
          ∙ ap (λ r. carried (map view done) (at_line (at + k) r >>= (λ x. items_in parse id_of parts (Some (id_of x)) (at + k + 1) (n - (k + 1)) >>= (λ more. Ok (x ∷ more))))) (sym line)
          ∙ carried-push (map view done) (view y) (items_in parse id_of parts (Some (id_of (view y))) (at + k + 1) (n - (k + 1)))
          ∙ (λ i. carried (sym (map_push view done y) i) (items_in parse id_of parts (Some (keys y i)) (next i) (n - (k + 1))));
      ascending = rw (map_push key done y) (ascending-push (map key done) (key y) s.ascending (λ i e. before last after s.latest s.first i (e ∙ length-map done key)));
      first = λ e. let no : Some (key y) ≡ None = e in cc;
      latest = λ l i e n. let same : key y ≡ l = cc in
          let long : length (map rank (map key done)) ≡ length done = length-map (map key done) rank ∙ length-map done key in
          let more : length (done ++ y ∷ []) ≡ length done + 1 = length_push done y in
          ap (λ xs. get_or (map rank xs) i 0) (map_push key done y) ∙ ap (λ xs. get_or xs i 0) (map_push rank (map key done) (key y))
          ∙ get_or_push (map rank (map key done)) (rank (key y)) 0 i (omega arith) ∙ ap rank same;
    }
      where
        suc_of : n - k ≡ suc (n - (k + 1))
        suc_of = omega arith

        next : at + k + 1 ≡ at + (k + 1)
        next = omega arith

        before : (last : Option SpanId) → ComesAfter last (key y)
            → ((l : SpanId) (i : ℕ) → last ≡ Some l → i + 1 ≡ length done → get_or (map rank (map key done)) i 0 ≡ rank l) → (last ≡ None → length done ≡ 0)
            → (i : ℕ) → i + 1 ≡ length done → get_or (map rank (map key done)) i 0 < rank (key y)
        before None after latest first i e = let none : length done ≡ 0 = first refl in absurd (omega arith)
        before (Some l) after latest first i e = let at_l : get_or (map rank (map key done)) i 0 ≡ rank l = latest l i refl e in omega (arith, after)

    pub IsReading-refused : (cause : Cause) → k < n → Err cause ≡ line_in (item_in parse id_of (option_map id_parts last)) parts (at + k)
        → items_in parse id_of parts None at n ≡ Err (BadCertificate (at + k + 1) cause)
    IsReading-refused cause l line =
        s.so_far
        ∙ ap (λ m. carried (map view done) (items_in parse id_of parts (option_map id_parts last) (at + k) m)) (suc_of)
        ∙ ap (λ r. carried (map view done) (at_line (at + k) r >>= (λ x. items_in parse id_of parts (Some (id_of x)) (at + k + 1) (n - (k + 1)) >>= (λ more. Ok (x ∷ more))))) (sym line)
      where
        suc_of : n - k ≡ suc (n - (k + 1))
        suc_of = omega arith

    pub IsReading-done : n ≤ k → items_in parse id_of parts None at n ≡ Ok (map view done)
    IsReading-done past = search (rules, option_map, append-nil)

-- the items of a list, where its title is read
module _ {X : Type 0} (title : List ℕ) (parse : List ℕ → Result X Cause) (id_of : X → Id) (parts : List (List ℕ)) (at : ℕ) where
  pub list_in-ok : (n : ℕ) → Ok n ≡ at_line at (line_in (count_in title) parts at) → list_in title parse id_of parts at ≡ items_in parse id_of parts None (at + 1) n
  unfolding list_in
  list_in-ok n h = ap (λ r. r >>= items_in parse id_of parts None (at + 1)) (sym h)

  pub list_in-err : (e : ReadError) → Err e ≡ at_line at (line_in (count_in title) parts at) → list_in title parse id_of parts at ≡ Err e
  unfolding list_in
  list_in-err e h = ap (λ r. r >>= items_in parse id_of parts None (at + 1)) (sym h)

-- the body of a certificate, where its lists are read
pub body_in-lists : (version : Version) (parts : List (List ℕ)) (abandoned owned : List Listed) (folds : List (Id × Id)) (short : List Id) (second third fourth fifth : ℕ)
    → list_in (codes "abandoned") (entry_in version) (λ x. x.id) parts 1 ≡ Ok abandoned
    → list_in (codes "owned") (entry_in version) (λ x. x.id) parts second ≡ Ok owned → list_in (codes "folds") (pair_in version) (λ p. p.0) parts third ≡ Ok folds
    → list_in (codes "short") (id_in version) (λ id. id) parts fourth ≡ Ok short
    → second ≡ 2 + length abandoned → third ≡ 3 + length abandoned + length owned → fourth ≡ 4 + length abandoned + length owned + length folds
    → fifth ≡ 5 + length abandoned + length owned + length folds + length short
    → body_in version parts ≡ ending_in version (record { abandoned = abandoned; owned = owned; folds = folds; short = short }) parts fifth
body_in-lists version parts abandoned owned folds short second third fourth fifth a o f s two three four five = search (rules)

-- a list of the text was read from the place on, and then another text and place are left: the same text, and the place past the list
pub record IsPast {X Y : Type 0} (title : List ℕ) (parse : List ℕ → Result X Cause) (id_of : X → Id) (view : Y
    → X) (text : List ℕ) (at : ℕ) (ys : List Y) (text_now : List ℕ) (at_now : ℕ) : Type 0 where
  pub read : list_in title parse id_of (lines_of text) at ≡ Ok (map view ys)
  pub text_is : text_now ≡ text
  pub place : at_now ≡ at + 1 + length ys

-- the body of a certificate, where its lists are read one after another
pub body_in-read : (version : Version) {text text1 text2 text3 text4 : List ℕ} {at at1 at2 at3 at4 : ℕ} (abandoned owned : List Entry) (folds : List (SpanId × SpanId)) (short : List SpanId) → at ≡ 1
    → IsPast (codes "abandoned") (entry_in version) (λ x. x.id) entry_parts text at abandoned text1 at1 → IsPast (codes "owned") (entry_in version) (λ x. x.id) entry_parts text1 at1 owned text2 at2
    → IsPast (codes "folds") (pair_in version) (λ p. p.0) pair_parts text2 at2 folds text3 at3 → IsPast (codes "short") (id_in version) (λ id. id) id_parts text3 at3 short text4 at4
    → body_in version (lines_of text)
    ≡ ending_in version (record { abandoned = map entry_parts abandoned; owned = map entry_parts owned; folds = map pair_parts folds; short = map id_parts short })
    (lines_of text4) at4
body_in-read version {text} {text1} {text2} {text3} {text4} {at} {at1} {at2} {at3} {at4} abandoned owned folds short first a o f s =
    search (rules, length-map, body_in-lists)
