use Rattle.std.proofs.Common.{◌+◌, length, ap, refl, arith, ltb-true}
use Rattle.std.proofs.lemmas.Option.{get_or_from_slice_get, slice_get_read, slice_get_within}
use Rattle.span.specs.declared.stored_receipt.ReceiptRun.{ReceiptRun}
use Rattle.span.proofs.receipt_run.has_place.Goals as goal

pub returns-then-i-runs : goal.returns-then-i-runs
returns-then-i-runs c so =
    let start = ap (λ (r : ReceiptRun). r.start) c.index-runs-i.is in
    record {
      run = c.index-runs-i.result;
      at = slice_get_read c.args.runs.now (length c.args.runs.now) c.args.i c.index-runs-i.result refl c.if-runs-i.false c.index-runs-i.is;
      from = omega (arith, start, c.if-place-runs.false);
      to = λ next at. absurd (let within = slice_get_within c.args.runs.now (c.args.i + 1) next at in omega (arith, c.if-i-runs.true));
    }

pub returns : goal.returns
returns c so =
    let start = ap (λ (r : ReceiptRun). r.start) c.index-runs-i.is in
    record {
      run = c.index-runs-i.result;
      at = slice_get_read c.args.runs.now (length c.args.runs.now) c.args.i c.index-runs-i.result refl c.if-runs-i.false c.index-runs-i.is;
      from = omega (arith, start, c.if-place-runs.false);
      to = λ next at.
          let same = ap (λ (r : ReceiptRun). r.start) (get_or_from_slice_get c.args.runs.now (c.args.i + 1) next c.index-runs-i-2.result at) in
          let less = ltb-true _ _ so in
          omega arith;
    }
