-- A text that is read line by line: what is left of it, by its bytes and by its lines.
use Rattle.std.proofs.lemmas.Grind.{common_steps}
use Rattle.std.proofs.Common.{ℕ, ◌+◌, ◌-◌, ◌<◌, ◌≤◌, ◌≡◌, ◌==◌, ◌&&◌, cond, Bool, true, false, List, [], ◌∷◌, length, get_or, take, drop, ◌≢◌, Some, None, Result, Ok, Err, refl, sym, ◌∙◌, ap, arith, suc, nat_eq, lt-ltb, le-ltb, eq-eqb, rules}
use Rattle.std.specs.List.{join_with_byte, position_or_len}
use Rattle.std.specs.Prelude.{position}
use Rattle.std.proofs.lemmas.Bool.{cases_eq, cases_lt, ne_eqb}
use Rattle.std.proofs.lemmas.List.{drop-drop, drop_more, length-drop, nil_from_length}
use Rattle.std.proofs.lemmas.List.Splits.{join_with_byte-slice_split, length-slice_split, slice_split_first, slice_split_none}
use Rattle.std.proofs.lemmas.List.Sums.{fails_before_first}
use Rattle.certificate.specs.declared.text.cause.Cause.{Cause}
use Rattle.certificate.specs.declared.text.cause.Cause.TheVariants.{Cut, Tail}
use Rattle.certificate.specs.Grammar.{at_line, end_in, whole_line}
use Rattle.certificate.specs.Words.{lines_of}
use Rattle.certificate.proofs.Spelling.{end_in-ok}

-- the byte is a line feed
abbrev pub is_feed : ℕ → Bool
is_feed b = b == 10

position-some : (xs : List ℕ) (end : ℕ) → position is_feed xs ≡ Some end → (end < length xs) × (position_or_len is_feed xs ≡ end)
position-some xs end h = search (rules, cases_lt, lt-ltb, le-ltb)

position-none : (xs : List ℕ) → position is_feed xs ≡ None → length xs ≤ position_or_len is_feed xs
position-none xs h = search (rules, cases_lt, lt-ltb)

lines_of-no_feed : (xs : List ℕ) → length xs ≤ position_or_len is_feed xs → lines_of xs ≡ xs ∷ []
lines_of-no_feed xs none = slice_split_none is_feed xs (λ k d l. fails_before_first is_feed xs k d (omega arith))

lines_of-feed : (xs : List ℕ) (end : ℕ) → position is_feed xs ≡ Some end → lines_of xs ≡ take end xs ∷ lines_of (drop (end + 1) xs)
lines_of-feed xs end h = search (rules, position-some, slice_split_first)

-- the first line of those that are left
get_or-left : (parts : List (List ℕ)) (at : ℕ) (line : List ℕ) (rest : List (List ℕ)) → drop at parts ≡ line ∷ rest
    → (length parts ≡ at + 1 + length rest) × (get_or parts at [] ≡ line) × (drop (at + 1) parts ≡ rest)
get_or-left parts at line rest left =
    let long : length parts - at ≡ suc (length rest) = sym (length-drop at parts) ∙ ap length left in
    let both : get_or parts at [] ∷ drop (at + 1) parts ≡ line ∷ rest = sym (drop_more parts at [] (omega arith)) ∙ left in
    (omega arith, cc, cc)

-- what is said where the rest is tested
abbrev ended_if : Bool → Result (Unit {0}) Cause
ended_if b = cond b (Ok tt) (Err Tail)

module _ (text : List ℕ) (start at : ℕ) (left : drop at (lines_of text) ≡ lines_of (drop start text)) where
  -- where no line feed is left, no whole line is
  pub whole_line-cut : position is_feed (drop start text) ≡ None → whole_line (lines_of text) at ≡ Err Cut
  whole_line-cut none = search (rules, get_or-left, lines_of-no_feed, position-none, le-ltb)

  module _ (end : ℕ) (feed : position is_feed (drop start text) ≡ Some end) where
    next_left : drop at (lines_of text) ≡ take end (drop start text) ∷ lines_of (drop (end + 1) (drop start text))
    next_left = left ∙ lines_of-feed (drop start text) end feed

    pub whole_line-next : whole_line (lines_of text) at ≡ Ok (take end (drop start text))
    whole_line-next = search (rules, get_or-left, next_left, length-slice_split, lt-ltb)

    pub within-next : start ≤ length text → start + (end + 1) ≤ length text
    within-next within = let p = position-some (drop start text) end feed in omega (arith, p.0, length-drop start text)

    pub left-next : drop (at + 1) (lines_of text) ≡ lines_of (drop (start + (end + 1)) text)
    left-next = search (rules, get_or-left, next_left, drop-drop)

  more_left : start ≤ length text → start ≢ length text → (b : Bool) → (nat_eq (length (lines_of text)) (at + 1) && nat_eq (length (get_or (lines_of text) at [])) 0) ≡ b → ended_if b ≡ Err Tail
  more_left within more true ended =
      let said : at_line at (end_in (lines_of text) at) ≡ Ok tt = rw ended refl in
      let lines : lines_of (drop start text) ≡ [] ∷ [] = sym left ∙ end_in-ok (lines_of text) at tt said in
      let none : drop start text ≡ [] = sym (join_with_byte-slice_split 10 (drop start text)) ∙ ap (join_with_byte 10) lines in
      absurd (more (omega (arith, ap length none, length-drop start text)))
  more_left within more false ended = refl

  -- nothing follows where the last byte was read
  pub end_in-left : start ≤ length text → end_in (lines_of text) at ≡ ended_if (nat_eq start (length text))
  end_in-left within = grind (arith, common_steps, cases_eq, nil_from_length, length-drop, get_or-left, eq-eqb, ne_eqb, more_left, nat_eq)
