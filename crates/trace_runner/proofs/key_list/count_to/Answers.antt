use Rattle.trace_runner.proofs.Names.{◌≡◌, ◌∙◌, Bool, true, false, ℕ, List, get_or, ap, arith, inl, inr, nat_le, of_calls, rules, sym, cases_eq, leb-false, leb-true, le-leb, get_or_from_slice_get, slice_get-get_or, slice_get_within, AreInRow, Stretch}
use Rattle.std.proofs.lemmas.Fn.{always_returns_same}
use Rattle.std.specs.List.Sorted.{IsPartitionPoint, IsPartitionedBy}
use Rattle.trace_runner.proofs.Giving.{row_ascends}
use Rattle.trace_runner.proofs.key_list.count_to.Goals as goal

-- the stretch begins at that place or above it
abbrev begins_to : ℕ → Stretch → Bool
begins_to place one = nat_le one.place place

IsPartitionedBy-places : (closed : List Stretch) (end last place : ℕ) → AreInRow 0 0 closed end last → IsPartitionedBy (begins_to place) closed
IsPartitionedBy-places closed end last place row low high d below within is = elim (cases_eq low high) [
  | inl same ↦ ap (λ at. begins_to place (get_or closed at d)) same ∙ is
  | inr apart ↦ le-leb _ _ (omega (
    arith,
    row_ascends closed 0 0 end last low high (get_or closed low d) (get_or closed high d) row (omega arith)
        (slice_get-get_or closed low d (omega arith)) (slice_get-get_or closed high d within),
    leb-true _ _ is,
  ))
]

point : (c : goal.After-partition_point) → IsPartitionPoint (λ one. begins_to c.args.place one ≡ true) (λ one. begins_to c.args.place one ≡ false) c.args.closed.now c.partition_point.result
point c = c.partition_point.ensures.partitioned (begins_to c.args.place) (always_returns_same _ _ _ (λ a r f k. search (rules, of_calls)))
    (IsPartitionedBy-places c.args.closed.now c.requires.0 c.requires.1 c.args.place c.requires.2)

pub returns-clause-above : goal.returns-clause-above
returns-clause-above c other one below here =
    let at : get_or c.args.closed.now other one ≡ one = get_or_from_slice_get c.args.closed.now other one one here in
    leb-true _ _ (ap (begins_to c.args.place) (sym at) ∙ (point c).0 other one (omega arith) below)

pub returns-clause-others : goal.returns-clause-others
returns-clause-others c other one above here =
    let at : get_or c.args.closed.now other one ≡ one = get_or_from_slice_get c.args.closed.now other one one here in
    leb-false _ _ (ap (begins_to c.args.place) (sym at) ∙ (point c).1 other one above (slice_get_within c.args.closed.now other one here))
