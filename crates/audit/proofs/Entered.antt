-- Receipts that are entered, one after another, as those of the changes that they make.
use Rattle.std.proofs.Common.{◌≡◌, ℕ, ◌+◌, ◌<◌, Bool, true, false, List, [], ◌∷◌, ◌++◌, map, flat_map, take, drop, length, set, get_or, Option, Some, None, slice_get, sym, subst, ap, refl, ◌∙◌, inl, inr, ◌⊎◌, arith, get_or-set_same, get_or-set_other, rules}
use Rattle.std.proofs.lemmas.Bool.{cases_eq}
use Rattle.std.proofs.lemmas.List.{length-set, map-set, append-nil, append_assoc, take-append-drop}
use Rattle.std.proofs.lemmas.Grind.{flat_map-append}
use Rattle.std.proofs.lemmas.Option.{same_Some, slice_get_cases, slice_get_within, slice_get-get_or, slice_get_read, get_or_from_slice_get}
use Rattle.span.specs.KeptLogs.{kept_changes}
use Rattle.span.specs.declared.change.Change.{Change}
use Rattle.span.specs.declared.id.SpanId.{SpanId}
use Rattle.span.specs.declared.key.Key.{Key}
use Rattle.span.specs.declared.receipt.Call.{Call}
use Rattle.span.specs.declared.receipt.Receipt.{Receipt}
use Rattle.span.specs.declared.span_log.SpanLog.{SpanLog}
use Rattle.span.proofs.KeptReceipts.{get_left, get_right}
use Rattle.audit.specs.Receipts.{log_of, makes_change}
use Rattle.audit.specs.Agreement.{ChangesHaveReceipts, CallMakes, HaveOneSpanEach}
use Rattle.audit.specs.Tables.{AreEntered, AreFull, IsKnown, IsLogAt, IsRowOf, MakeChanges, MakesAt, WereEntered}
use Rattle.audit.proofs.Flat.{get_cases, place, flat_at, flat_from, flat_once}
use Rattle.audit.proofs.LogTable.{find_log}
use Rattle.audit.proofs.Replies.{take_more}
use Rattle.audit.proofs.Rows.{section_in}

-- a receipt of the calls with one more
last_cases : (calls : List Receipt) (r : Receipt) (k : ℕ) (a : Receipt) → slice_get (calls ++ r ∷ []) k ≡ Some a
    → ((k < length calls) × (slice_get calls k ≡ Some a)) ⊎ ((k ≡ length calls) × (r ≡ a))
last_cases calls r k a at = search (rules, get_cases, slice_get_within, same_Some)

last_at : (calls : List Receipt) (r : Receipt) → slice_get (calls ++ r ∷ []) (length calls) ≡ Some r
last_at calls r = get_right calls (r ∷ []) (length calls) 0 r (omega arith) refl

pub MakeChanges-front : (logs : List SpanLog) (calls more : List Receipt) → MakeChanges logs (calls ++ more) → MakeChanges logs calls
MakeChanges-front logs calls more all = record {
  known = λ k r at. all.known k r (get_left calls more k r at);
  once = λ k l a b at_k at_l. all.once k l a b (get_left calls more k a at_k) (get_left calls more l b at_l);
}

-- the row of a log of which the last call makes no change
IsRowOf-kept : (calls : List Receipt) (r : Receipt) (log : SpanLog) (row : List (Option ℕ)) → ((at : ℕ) → MakesAt log.span at r → ⊥) → IsRowOf calls log row → IsRowOf (calls ++ r ∷ []) log row
IsRowOf-kept calls r log row none is = record {
  len = is.len;
  marked = λ k at a at_k makes. elim (last_cases calls r k a at_k) [
    | inl before ↦ is.marked k at a before.1 makes
    | inr last ↦ absurd (none at (subst (MakesAt log.span at) (sym last.1) makes))
  ];
  made = λ at section there. let made = is.made at section there in (made.0, made.1, get_left calls (r ∷ []) made.0 made.1 made.2, made.3, made.4);
}

-- a call that makes no change
module _ (logs : List SpanLog) (calls : List Receipt) (r : Receipt) (quiet : makes_change r ≡ false) where
  not_r : (a : Receipt) → r ≡ a → makes_change a ≡ true → ⊥
  not_r a same makes = let e : false ≡ true = sym quiet ∙ ap makes_change same ∙ makes in cc

  MakeChanges-quiet : MakeChanges logs calls → MakeChanges logs (calls ++ r ∷ [])
  MakeChanges-quiet good = search (rules, last_cases, not_r)

  pub AreEntered-quiet : (rows : List (List (Option ℕ))) → AreEntered logs calls rows → AreEntered logs (calls ++ r ∷ []) rows
  AreEntered-quiet rows are = record {
    good = MakeChanges-quiet are.good;
    rows_are = record {
      len = are.rows_are.len;
      each = λ j log row at_log at_row. IsRowOf-kept calls r log row (λ at makes. not_r r refl makes.makes) (are.rows_are.each j log row at_log at_row);
    };
  }

-- a call whose change is not known
pub unknown_last : (logs : List SpanLog) (calls : List Receipt) (r : Receipt) → (IsKnown logs r → ⊥) → MakeChanges logs (calls ++ r ∷ []) → ⊥
unknown_last logs calls r unknown good = unknown (good.known (length calls) r (last_at calls r))

-- a call that makes the change at its place of the log at an index
module _ (logs : List SpanLog) (calls : List Receipt) (rows : List (List (Option ℕ))) (r : Receipt) (are : AreEntered logs calls rows) (makes : makes_change r ≡ true)
    (known : IsKnown logs r) (j : ℕ) (log : SpanLog) (row : List (Option ℕ)) (at_log : slice_get logs j ≡ Some log) (of_span : log.span ≡ r.key.span)
    (at_row : slice_get rows j ≡ Some row) (one : HaveOneSpanEach logs) where
  is_row : IsRowOf calls log row
  is_row = are.rows_are.each j log row at_log at_row

  pub entered_twice : (section : ℕ) → get_or row r.at None ≡ Some section → MakeChanges logs (calls ++ r ∷ []) → ⊥
  entered_twice section there good =
      let made = is_row.made r.at section there in
      let same : made.0 ≡ length calls = good.once made.0 (length calls) made.1 r (get_left calls (r ∷ []) made.0 made.1 made.2) (last_at calls r) made.3.makes makes
      (made.3.same_span ∙ of_span) made.3.same_place in
      let within = slice_get_within calls made.0 made.1 made.2 in
      omega arith

  module _ (free : get_or row r.at None ≡ None) (inside : r.at < length row) where
    -- no earlier call makes this change
    never : (k : ℕ) (a : Receipt) → slice_get calls k ≡ Some a → makes_change a ≡ true → a.key.span ≡ r.key.span → a.at ≡ r.at → ⊥
    never k a at_k makes_a spans places =
        let e : Some a.section ≡ None = sym (is_row.marked k r.at a at_k (record { makes = makes_a; same_span = spans ∙ sym of_span; same_place = places })) ∙ free in
        cc

    MakeChanges-more : MakeChanges logs (calls ++ r ∷ [])
    MakeChanges-more = search (rules, last_cases, never)

    IsRowOf-here : IsRowOf (calls ++ r ∷ []) log (set row r.at (Some r.section))
    IsRowOf-here = record {
      len = length-set row r.at (Some r.section) ∙ is_row.len;
      marked = λ k at a at_k makes_a. elim (last_cases calls r k a at_k) [
        | inl before ↦ elim (cases_eq at r.at) [
          | inl same ↦ absurd (never k a before.1 makes_a.makes (makes_a.same_span ∙ of_span) (makes_a.same_place ∙ same))
          | inr other ↦ get_or-set_other row r.at at (Some r.section) None other ∙ is_row.marked k at a before.1 makes_a
        ]
        | inr last ↦
            let here : at ≡ r.at = sym makes_a.same_place ∙ sym (ap (λ (x : Receipt). x.at) last.1) in
            ap (λ q. get_or (set row r.at (Some r.section)) q None) here ∙ get_or-set_same row r.at (Some r.section) None inside ∙ ap (λ (x : Receipt). Some x.section) last.1
      ];
      made = λ at section there. elim (cases_eq at r.at) [
        | inl same ↦
            let e : Some r.section ≡ Some section = sym (ap (λ q. get_or (set row r.at (Some r.section)) q None) same ∙ get_or-set_same row r.at (Some r.section) None inside) ∙ there in
            (length calls, r, last_at calls r, record { makes = makes; same_span = sym of_span; same_place = sym same }, same_Some r.section section e)
        | inr other ↦
            let made = is_row.made at section (sym (get_or-set_other row r.at at (Some r.section) None other) ∙ there) in
            (made.0, made.1, get_left calls (r ∷ []) made.0 made.1 made.2, made.3, made.4)
      ];
    }

    pub AreEntered-more : AreEntered logs (calls ++ r ∷ []) (set rows j (set row r.at (Some r.section)))
    AreEntered-more = record {
      good = MakeChanges-more;
      rows_are = record {
        len = length-set rows j (set row r.at (Some r.section)) ∙ are.rows_are.len;
        each = λ i x l at_x at_l. elim (cases_eq i j) [
          | inl same ↦
              let inside_rows = slice_get_within rows j row at_row in
              let is_l : l ≡ set row r.at (Some r.section) =
              sym (get_or_from_slice_get (set rows j (set row r.at (Some r.section))) i l l at_l) ∙ ap (λ q. get_or (set rows j (set row r.at (Some r.section))) q l) same
              ∙ get_or-set_same rows j (set row r.at (Some r.section)) l inside_rows in
              let is_x : log ≡ x = same_Some log x (sym at_log ∙ sym (ap (λ k. slice_get logs k) same) ∙ at_x) in
              subst (λ l. IsRowOf (calls ++ r ∷ []) x l) (sym is_l) (subst (λ (y : SpanLog). IsRowOf (calls ++ r ∷ []) y (set row r.at (Some r.section))) is_x IsRowOf-here)
          | inr other ↦
              let within : i < length rows = let fits = slice_get_within (set rows j (set row r.at (Some r.section))) i l at_l in
              let long = length-set rows j (set row r.at (Some r.section)) in omega arith in
              let read : l ≡ get_or rows i l = sym (get_or_from_slice_get (set rows j (set row r.at (Some r.section))) i l l at_l)
              ∙ get_or-set_other rows j i (set row r.at (Some r.section)) l other in
              IsRowOf-kept calls r x l (λ at makes. other (one i j x log at_x at_log (sym makes.same_span ∙ sym of_span)))
              (are.rows_are.each i x l at_x (slice_get_read rows (length rows) i l refl within read))
        ];
      };
    }

-- the row of a log has each place of it
pub row_inside : (logs : List SpanLog) (calls : List Receipt) (rows : List (List (Option ℕ))) (r : Receipt) → AreEntered logs calls rows → (j : ℕ) → (there : IsLogAt logs r.key.span j)
    → (row : List (Option ℕ)) → slice_get rows j ≡ Some row → r.at < length (log_of logs r.key.span) → r.at < length row
row_inside logs calls rows r are j there row at_row inside = search (rules)

pub entered_by : (logs : List SpanLog) (calls : List Receipt) (rows : List (List (Option ℕ))) (b : Bool) → (b ≡ true → AreEntered logs calls rows) → (b ≡ false → MakeChanges logs calls → ⊥)
    → WereEntered logs calls rows b
entered_by logs calls rows true entered refused = entered refl
entered_by logs calls rows false entered refused = refused refl

-- a row that is set in the list of lists
pub rows_set : {V : Type 0} (f : V → List (Option ℕ)) (rows : List V) (j : ℕ) (row : V) (items : List (Option ℕ)) → f row ≡ items → map f (set rows j row) ≡ set (map f rows) j items
rows_set f rows j row items is = map-set f rows j row ∙ ap (set (map f rows) j) is

-- calls with the first of a list, and one more of it
pub front_more : (before list : List Receipt) (n : ℕ) (r : Receipt) → slice_get list n ≡ Some r → (before ++ take n list) ++ r ∷ [] ≡ before ++ take (n + 1) list
front_more before list n r at = append_assoc before (take n list) (r ∷ []) ∙ ap (λ l. before ++ l) (sym (take_more list n r at))

pub front_of : (before list : List Receipt) (n : ℕ) → (before ++ take n list) ++ drop n list ≡ before ++ list
front_of before list n = append_assoc before (take n list) (drop n list) ∙ ap (λ l. before ++ l) (take-append-drop n list)

-- where the first of a list are not entered, all of it is not
pub front_unknown : (logs : List SpanLog) (before list : List Receipt) (n : ℕ) (r : Receipt) → slice_get list n ≡ Some r → (MakeChanges logs ((before ++ take n list) ++ r ∷ []) → ⊥)
    → MakeChanges logs (before ++ list) → ⊥
front_unknown logs before list n r at unknown good = search (rules, front_more, MakeChanges-front, front_of)

-- the same of lists
module _ {X : Type 0} (f : X → List Receipt) (xs : List X) (n : ℕ) (x : X) (at : slice_get xs n ≡ Some x) where
  pub flat_more : flat_map f (take n xs) ++ f x ≡ flat_map f (take (n + 1) xs)
  flat_more =
      sym (ap (flat_map f) (take_more xs n x at) ∙ flat_map-append f (take n xs) (x ∷ []) ∙ ap (λ l. flat_map f (take n xs) ++ l) (append-nil (f x)))

  flat_of : flat_map f (take (n + 1) xs) ++ flat_map f (drop (n + 1) xs) ≡ flat_map f xs
  flat_of = sym (flat_map-append f (take (n + 1) xs) (drop (n + 1) xs)) ∙ ap (flat_map f) (take-append-drop (n + 1) xs)

  pub flat_unknown : (logs : List SpanLog) → (MakeChanges logs (flat_map f (take n xs) ++ f x) → ⊥) → MakeChanges logs (flat_map f xs) → ⊥
  flat_unknown logs unknown good = search (rules, flat_more, MakeChanges-front, flat_of)

-- nothing is entered yet
pub IsRowOf-none : (log : SpanLog) (row : List (Option ℕ)) → length row ≡ length (kept_changes log.log) → ((at : ℕ) → get_or row at None ≡ None) → IsRowOf [] log row
IsRowOf-none log row long none = search (rules)

-- the change at a receipt's place is the one at that place of its span's log
same_change : (logs : List SpanLog) (span : SpanId) (r : Receipt) (at : ℕ) (c d : Change) → slice_get (log_of logs r.key.span) r.at ≡ Some c → r.key.span ≡ span → r.at ≡ at
    → slice_get (log_of logs span) at ≡ Some d → c ≡ d
same_change logs span r at c d at_c spans places at_d = search (rules, same_Some)

CallMakes-same : (call : Call) (key : Key) (c d : Change) → c ≡ d → CallMakes call key c → CallMakes call key d
CallMakes-same call key c d same makes = subst (CallMakes call key) same makes

module _ {X : Type 0} (f : X → List Receipt) (xs : List X) (logs : List SpanLog) where
  -- where each place has its section, each change has its receipt
  pub changes_have : (rows : List (List (Option ℕ))) → AreEntered logs (flat_map f xs) rows → AreFull rows → ChangesHaveReceipts logs (map f xs)
  changes_have rows are full = record {
    some = λ span at change is. elim (find_log logs span) [
      | inl none ↦ let e : slice_get {X = Change} [] at ≡ Some change = ap (λ l. slice_get l at) (sym none.0) ∙ is in absurd cc
      | inr found ↦
          let at_change : slice_get (kept_changes found.1.0.log) at ≡ Some change = ap (λ l. slice_get l at) (sym found.1.3) ∙ is in
          let row : List (Option ℕ) = get_or rows found.0 [] in
          let at_row : slice_get rows found.0
          ≡ Some row = slice_get-get_or rows found.0 []
          (let within = slice_get_within logs found.0 found.1.0 found.1.1 in let len = are.rows_are.len in omega arith) in
          let is_row = are.rows_are.each found.0 found.1.0 row found.1.1 at_row in
          let inside : at < length row = let within = slice_get_within (kept_changes found.1.0.log) at change at_change in let len = is_row.len in omega arith in
          let there = section_in row at inside (full found.0 row at_row) in
          let made = is_row.made at there.0 there.1 in
          let r = made.1 in
          let listed = flat_from f xs made.0 r made.2 in
          let known = are.good.known made.0 r made.2 made.3.makes in
          let spans : r.key.span ≡ span = made.3.same_span ∙ found.1.2 in
          let same = same_change logs span r at known.0 change known.1 spans made.3.same_place is in (
            listed.0,
            listed.1,
            r,
            listed.2,
            record { makes = made.3.makes; same_span = spans; same_place = made.3.same_place; same_change = CallMakes-same r.call r.key known.0 change same known.2 },
          )
    ];
    once = λ v i w j a b at_a at_b makes_a makes_b spans places.
        flat_once f xs v i w j a b at_a at_b
        (are.good.once (place f xs v i) (place f xs w j) a b (flat_at f xs v i a at_a) (flat_at f xs w j b at_b) makes_a makes_b spans places);
    known = λ w i r at makes. are.good.known (place f xs w i) r (flat_at f xs w i r at) makes;
  }

  pub MakeChanges-from : ChangesHaveReceipts logs (map f xs) → MakeChanges logs (flat_map f xs)
  MakeChanges-from all = search (rules, flat_from, place)

  pub AreFull-from : (rows : List (List (Option ℕ))) → AreEntered logs (flat_map f xs) rows → HaveOneSpanEach logs → ChangesHaveReceipts logs (map f xs) → AreFull rows
  AreFull-from rows are one all j row at_row at inside none =
      elim (slice_get_cases logs j).1 [
        | inr past ↦ let within = slice_get_within rows j row at_row in let len = are.rows_are.len in omega (arith, past.0)
        | inl there ↦
            let log = there.0 in
            let is_row = are.rows_are.each j log row there.2 at_row in
            elim (find_log logs log.span) [
              | inl unknown ↦ unknown.1 j log there.2 refl
              | inr found ↦
                  let same_j : found.0 ≡ j = one found.0 j found.1.0 log found.1.1 there.2 found.1.2 in
                  let same : found.1.0 ≡ log = same_Some found.1.0 log (sym found.1.1 ∙ ap (λ k. slice_get logs k) same_j ∙ there.2) in
                  let items : log_of logs log.span ≡ kept_changes log.log = found.1.3 ∙ ap (λ (l : SpanLog). kept_changes l.log) same in
                  let len = is_row.len in
                  let change : Change = get_or (kept_changes log.log) at (Change.Free 0 0) in
                  let at_change : slice_get (kept_changes log.log) at ≡ Some change = slice_get-get_or (kept_changes log.log) at (Change.Free 0 0) (omega arith) in
                  let receipt = all.some log.span at change (ap (λ l. slice_get l at) items ∙ at_change) in
                  let r = receipt.2 in
                  let e : Some r.section ≡ None =
                  sym (is_row.marked (place f xs receipt.0 receipt.1) at r (flat_at f xs receipt.0 receipt.1 r receipt.3)
                  (record { makes = receipt.4.makes; same_span = receipt.4.same_span; same_place = receipt.4.same_place })) ∙ none in
                  absurd cc
            ]
      ]
