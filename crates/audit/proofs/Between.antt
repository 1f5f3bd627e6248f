-- That sections are in order is told by the sections of the changes.
use Rattle.std.proofs.Common.{zero, suc, ◌≡◌, ℕ, ◌+◌, ◌-◌, ◌<◌, ◌≤◌, true, cond, List, [], map, flat_map, length, get_or, Option, Some, None, slice_get, sym, ap, refl, ◌∙◌, inl, inr, ◌⊎◌, arith, rules}
use Rattle.std.proofs.lemmas.Bool.{cases_lt}
use Rattle.std.proofs.lemmas.List.{get_or_past}
use Rattle.std.proofs.lemmas.Option.{same_Some, slice_get_within, slice_get-get_or}
use Rattle.span.specs.declared.receipt.Receipt.{Receipt}
use Rattle.span.specs.declared.span_log.SpanLog.{SpanLog}
use Rattle.audit.specs.Receipts.{IsAt, log_of, makes_change, changes_after}
use Rattle.audit.specs.Agreement.{HaveOneSpanEach, RepliesAreRight, SectionsAreInOrder}
use Rattle.audit.specs.Tables.{AreEntered, AreFull, IsBetween, IsLogAt, IsRowOf, MakesAt, StandsBetween}
use Rattle.audit.proofs.Flat.{place, flat_at, flat_from}
use Rattle.audit.proofs.LogTable.{find_log}
use Rattle.audit.proofs.Orderly.{changes_after-low}
use Rattle.audit.proofs.Rows.{section_in}

-- how many changes stood after a call, by whether it made one
changes_after-cases : (r : Receipt) → ((makes_change r ≡ true) × (changes_after r ≡ r.at + 1)) ⊎ (changes_after r ≡ r.at)
changes_after-cases r = search (rules)

module _ {X : Type 0} (f : X → List Receipt) (xs : List X) (logs : List SpanLog) (rows : List (List (Option ℕ))) (are : AreEntered logs (flat_map f xs) rows) (full : AreFull rows) where
  abbrev pub AllBetween : Type 0
  AllBetween = (w i : ℕ) (r : Receipt) → IsAt (map f xs) w i r → StandsBetween logs rows r

  -- the call at an index that makes a change of a log
  module _ (j : ℕ) (log : SpanLog) (row : List (Option ℕ)) (at_log : slice_get logs j ≡ Some log) (at_row : slice_get rows j ≡ Some row) where
    is_row : IsRowOf (flat_map f xs) log row
    is_row = are.rows_are.each j log row at_log at_row

    -- the section of the change at a place, and its call
    maker : (at : ℕ) → at < length row → (s w i : ℕ) × (r : Receipt) × (get_or row at None ≡ Some s) × IsAt (map f xs) w i r × MakesAt log.span at r × (r.section ≡ s)
    maker at inside =
        let there = section_in row at inside (full j row at_row) in
        let made = is_row.made at there.0 there.1 in
        let listed = flat_from f xs made.0 made.1 made.2 in
        (there.0, listed.0, listed.1, made.1, there.1, listed.2, made.3, made.4)

    after-change : (r : Receipt) (at : ℕ) → MakesAt log.span at r → changes_after r ≡ at + 1
    after-change r at makes = ap (λ b. cond b (r.at + 1) r.at) makes.makes ∙ ap (λ n. n + 1) makes.same_place

    -- where sections are in order, a call stands between
    pub between_here : SectionsAreInOrder (map f xs) → (w i : ℕ) (r : Receipt) → IsAt (map f xs) w i r → log.span ≡ r.key.span → IsBetween row r.at r.section
    between_here order w i r at spans = record {
      after = λ s some there.
          let no : r.section < s → ⊥ = λ back.
          let made = is_row.made (r.at - 1) s there in
          let listed = flat_from f xs made.0 made.1 made.2 in
          let p = order w i listed.0 listed.1 r made.1 at listed.2 (sym spans ∙ sym made.3.same_span) (omega (arith, made.4)) in
          omega (arith, made.3.same_place, changes_after-low r) in
          omega arith;
      before = λ s there.
          let no : s < r.section → ⊥ = λ back.
          let made = is_row.made r.at s there in
          let listed = flat_from f xs made.0 made.1 made.2 in
          let p = order listed.0 listed.1 w i made.1 r listed.2 at (made.3.same_span ∙ spans) (omega (arith, made.4)) in
          let late = after-change made.1 r.at made.3 in
          omega arith in
          omega arith;
    }

    -- the sections of the changes rise with their places
    rises : AllBetween → (m p : ℕ) → p + m < length row → (s t : ℕ) → get_or row p None ≡ Some s → get_or row (p + m) None ≡ Some t → s ≤ t
    rises all zero p inside s t at_s at_t = search (rules, same_Some)
    rises all (suc m) p inside s t at_s at_t =
        let last = maker (p + m) (omega arith) in
        let before = rises all m p (omega arith) s last.0 at_s last.4 in
        let here = maker (p + suc m) inside in
        let r = here.3 in
        let between = all here.1 here.2 r here.5 j log row at_log (sym here.6.same_span) at_row in
        let step : last.0 ≤ r.section = between.after last.0 (omega (arith, here.6.same_place)) (ap (λ k. get_or row k None) (omega (arith, here.6.same_place)) ∙ last.4) in
        let same : here.0 ≡ t = same_Some here.0 t (sym here.4 ∙ at_t) in
        omega (arith, here.7)

    -- where all calls stand between, one before the end of another's changes is of no later section
    pub sections_here : AllBetween → (v i w k : ℕ) (a b : Receipt) → IsAt (map f xs) v i a → IsAt (map f xs) w k b → a.key.span ≡ log.span → b.key.span ≡ log.span → a.at ≤ length row
        → b.at < changes_after a → b.section ≤ a.section
    sections_here all v i w k a b at_a at_b of_a of_b fits early =
        let between_a = all v i a at_a j log row at_log (sym of_a) at_row in
        let between_b = all w k b at_b j log row at_log (sym of_b) at_row in
        elim (changes_after-cases a) [
          | inl change ↦
              let inside : a.at < length row = read_inside a (record { makes = change.0; same_span = of_a; same_place = refl }) v i at_a in
              let first = maker b.at (omega (arith, change.1)) in
              let own = maker a.at inside in
              let low = between_b.before first.0 first.4 in
              let high : own.0 ≤ a.section = let same : own.0 ≡ a.section = same_Some own.0 a.section (sym own.4 ∙ is_row.marked (place f xs v i) a.at a (flat_at f xs v i a at_a) (record { makes = change.0; same_span = of_a; same_place = refl })) in omega arith in
              let m : b.at + (a.at - b.at) ≡ a.at = omega (arith, change.1) in
              let up = rises all (a.at - b.at) b.at (omega arith) first.0 own.0 first.4 (ap (λ q. get_or row q None) m ∙ own.4) in
              omega arith
          | inr quiet ↦
              let first = maker b.at (omega (arith, quiet)) in
              let last = maker (a.at - 1) (omega (arith, quiet)) in
              let low = between_b.before first.0 first.4 in
              let high = between_a.after last.0 (omega (arith, quiet)) last.4 in
              let m : b.at + ((a.at - 1) - b.at) ≡ a.at - 1 = omega (arith, quiet) in
              let up = rises all ((a.at - 1) - b.at) b.at (omega (arith, quiet)) first.0 last.0 first.4 (ap (λ q. get_or row q None) m ∙ last.4) in
              omega arith
        ]
      where
        read_inside : (a : Receipt) → MakesAt log.span a.at a → (v i : ℕ) → IsAt (map f xs) v i a → a.at < length row
        read_inside a makes v i at_a =
            let no : length row ≤ a.at → ⊥ = λ past.
            let e : None ≡ Some a.section = sym (get_or_past row a.at None past) ∙ is_row.marked (place f xs v i) a.at a (flat_at f xs v i a at_a) makes in
            cc in
            omega arith

  pub between_all : SectionsAreInOrder (map f xs) → AllBetween
  between_all order w i r at j log row at_log spans at_row = between_here j log row at_log at_row order w i r at spans

  pub sections_all : RepliesAreRight logs (map f xs) → AllBetween → SectionsAreInOrder (map f xs)
  sections_all replies all v i w k a b at_a at_b spans less = elim (cases_lt b.at (changes_after a)) [
    | inr fine ↦ fine
    | inl early ↦
        let fits = (replies v i a at_a).0 in
        elim (find_log logs a.key.span) [
          | inr found ↦
              let log = found.1.0 in
              let row : List (Option ℕ) = get_or rows found.0 [] in
              let at_row : slice_get rows found.0
              ≡ Some row = slice_get-get_or rows found.0 []
              (let within = slice_get_within logs found.0 log found.1.1 in let len = are.rows_are.len in omega arith) in
              let is = are.rows_are.each found.0 log row found.1.1 at_row in
              let len : length (log_of logs a.key.span) ≡ length row = ap length found.1.3 ∙ sym is.len in
              let p = sections_here found.0 log row found.1.1 at_row all v i w k a b at_a at_b (sym found.1.2) (sym spans ∙ sym found.1.2) (omega arith) early in
              absurd (omega arith)
          | inl none ↦
              let none_fits : a.at ≤ 0 = rw none.0 at fits in
              elim (changes_after-cases a) [
                | inl change ↦
                    let known = are.good.known (place f xs v i) a (flat_at f xs v i a at_a) change.0 in
                    let within = slice_get_within (log_of logs a.key.span) a.at known.0 known.1 in
                    let len : length (log_of logs a.key.span) ≡ 0 = ap length none.0 in
                    absurd (omega arith)
                | inr quiet ↦ absurd (omega (arith, quiet))
              ]
        ]
  ]

-- what the row of a span's log says is what every row of its logs says
pub stands-to : (logs : List SpanLog) (rows : List (List (Option ℕ))) (r : Receipt) (j : ℕ) (row : List (Option ℕ)) → HaveOneSpanEach logs → IsLogAt logs r.key.span j → slice_get rows j ≡ Some row
    → IsBetween row r.at r.section → StandsBetween logs rows r
stands-to logs rows r j row one there at between i log other at_log same at_other = search (rules, same_Some)
