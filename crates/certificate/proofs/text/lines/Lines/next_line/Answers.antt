use Rattle.std.proofs.Common.{◌≡◌, ℕ, List, ◌-◌, length, take, drop, arith, rules}
use Rattle.std.proofs.lemmas.List.{length-drop, take_all}
use Rattle.certificate.proofs.LinesLeft.{is_feed, left-next, whole_line-cut, whole_line-next, within-next}
use Rattle.certificate.proofs.text.lines.Lines.next_line.Goals as goal

-- all that is left of the text
all_left : (text : List ℕ) (start : ℕ) → take (length text - start) (drop start text) ≡ drop start text
all_left text start = take_all (length text - start) (drop start text) (omega (arith, length-drop start text))

pub returns-in_default-clause-line : goal.returns-in_default-clause-line
returns-in_default-clause-line c = search (rules, is_feed, all_left, whole_line-cut)

pub invariant_of-self : goal.invariant_of-self
invariant_of-self c = search (rules, is_feed, all_left, within-next, left-next)

pub returns-clause-line : goal.returns-clause-line
returns-clause-line c = search (rules, is_feed, all_left, whole_line-next)
