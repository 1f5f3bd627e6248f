use Rattle.std.proofs.Common.{◌-◌, ◌∙◌, length, refl, sym, arith}
use Rattle.std.proofs.lemmas.Option.{slice_get_read}
use Rattle.span.proofs.KeptReceipts.{not_empty}
use Rattle.span.proofs.receipt_run.joins.Goals as goal

pub returns-in-Some : goal.returns-in-Some
returns-in-Some c =
    let runs = c.args.runs.now in
    let some = not_empty (length runs) (sym c.is_empty.ensures ∙ c.if-is_empty.false) in
    record {
      run = c.index-runs-runs.result;
      last = length runs - 1;
      is_last = record {
        count = omega arith;
        at = slice_get_read runs (length runs) (length runs - 1) c.index-runs-runs.result refl (omega arith) c.index-runs-runs.is;
        from = c.if-len-last.false;
      };
      next = c.in-Some.ensures;
    }

pub returns-then-is_next_of : goal.returns-then-is_next_of
returns-then-is_next_of c =
    let runs = c.args.runs.now in
    let some = not_empty (length runs) (sym c.is_empty.ensures ∙ c.if-is_empty.false) in
    record {
      run = c.index-runs-runs.result;
      last = length runs - 1;
      is_last = record {
        count = omega arith;
        at = slice_get_read runs (length runs) (length runs - 1) c.index-runs-runs.result refl (omega arith) c.index-runs-runs.is;
        from = c.if-len-last.false;
      };
      next = c.is_next_of.ensures c.if-is_next_of.true;
    }
