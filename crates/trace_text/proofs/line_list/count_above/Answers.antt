use Rattle.trace_text.proofs.Names.{◌≡◌, ◌∙◌, Bool, true, false, ℕ, List, get_or, ap, arith, inl, inr, lt-ltb, nat_lt, of_calls, rules, sym, cases_eq, ltb-false, ltb-true, get_or_from_slice_get, slice_get-get_or, slice_get_within, AreInOrder, KeptLine}
use Rattle.std.proofs.lemmas.Fn.{always_returns_same}
use Rattle.std.specs.List.Sorted.{IsPartitionPoint, IsPartitionedBy}
use Rattle.trace_text.proofs.line_list.count_above.Goals as goal

-- the line is kept for a place above that one
abbrev is_above : ℕ → KeptLine → Bool
is_above place one = nat_lt one.place place

IsPartitionedBy-places : (kept : List KeptLine) (count place : ℕ) → AreInOrder kept count → IsPartitionedBy (is_above place) kept
IsPartitionedBy-places kept count place order low high d below within is = elim (cases_eq low high) [
  | inl same ↦ ap (λ at. is_above place (get_or kept at d)) same ∙ is
  | inr apart ↦ lt-ltb _ _ (omega (
    arith,
    order.ascend low high (get_or kept low d) (get_or kept high d) (omega arith) (slice_get-get_or kept low d (omega arith))
        (slice_get-get_or kept high d within),
    ltb-true _ _ is,
  ))
]

point : (c : goal.After-partition_point) → IsPartitionPoint (λ one. is_above c.args.place one ≡ true) (λ one. is_above c.args.place one ≡ false) c.args.kept.now c.partition_point.result
point c = c.partition_point.ensures.partitioned (is_above c.args.place) (always_returns_same _ _ _ (λ a r f k. search (rules, of_calls)))
    (IsPartitionedBy-places c.args.kept.now c.requires.0 c.args.place c.requires.1)

pub returns-clause-above : goal.returns-clause-above
returns-clause-above c other one below here =
    let at : get_or c.args.kept.now other one ≡ one = get_or_from_slice_get c.args.kept.now other one one here in
    ltb-true _ _ (ap (is_above c.args.place) (sym at) ∙ (point c).0 other one (omega arith) below)

pub returns-clause-others : goal.returns-clause-others
returns-clause-others c other one above here =
    let at : get_or c.args.kept.now other one ≡ one = get_or_from_slice_get c.args.kept.now other one one here in
    ltb-false _ _ (ap (is_above c.args.place) (sym at) ∙ (point c).1 other one above (slice_get_within c.args.kept.now other one here))
