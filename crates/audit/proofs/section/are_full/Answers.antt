use Rattle.std.proofs.Common.{◌≡◌, ◌∙◌, Some, map, slice_get, length, sym, refl, true, false, arith}
use Rattle.std.proofs.lemmas.List.{length-map}
use Rattle.audit.specs.Tables.{IsFull, filled_row}
use Rattle.audit.proofs.Lists.{each_more, each_all, row_at}
use Rattle.audit.proofs.section.are_full.Goals as goal

pub returns-then-not-is_full : goal.returns-then-not-is_full
returns-then-not-is_full c = (
  λ so. absurd cc,
  λ full.
      let row = c.row-item.result in
      let at : slice_get (map filled_row c.args.rows.now) c.loop-row.row-index ≡ Some (filled_row row) = row_at filled_row c.args.rows.now c.loop-row.row-index row c.loop-row-test.true c.row-item.is in
      let here : IsFull (filled_row row) = full c.loop-row.row-index (filled_row row) at in
      let e : false ≡ true = sym c.if-not-is_full.true ∙ c.is_full.ensures.1 here in
      absurd cc,
)

pub loop-row-preserved : goal.loop-row-preserved
loop-row-preserved c =
    let row = c.row-item.result in
    each_more IsFull (map filled_row c.args.rows.now) c.loop-row.row-index (filled_row row) c.loop-row.invariant
    (row_at filled_row c.args.rows.now c.loop-row.row-index row c.loop-row-test.true c.row-item.is)
    (c.is_full.ensures.0 c.if-not-is_full.false)

pub returns : goal.returns
returns c = (
  λ so. each_all IsFull (map filled_row c.args.rows.now) c.loop-row.row-index c.loop-row.invariant
      (let long : length (map filled_row c.args.rows.now)
      ≡ length c.args.rows.now = length-map c.args.rows.now filled_row in omega (arith, c.loop-row-test.false)),
  λ full. refl,
)
