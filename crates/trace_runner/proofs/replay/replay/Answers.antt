use Rattle.trace_runner.proofs.Names.{◌∙◌, ◌++◌, ap, end_line, Ending}
use Rattle.trace_runner.proofs.Reporting.{IsReportOf-run, Serves-start}
use Rattle.trace_runner.proofs.replay.replay.Goals as goal

pub run_lines-requires-clause-serves : goal.run_lines-requires-clause-serves
run_lines-requires-clause-serves g c = rw c.core_of-core.ensures.core (Serves-start c.args.trace.now.header)

pub returns : goal.returns
returns g c =
    let totals = c.totals-totals in
    let ran = c.in_ok-core.ensures in
    let ending : Ending = record { pages = totals.result.pages; live = totals.result.live; calls = c.in_ok-core.field-0.calls } in
    IsReportOf-run c.args.trace.now c.args.replies c.core_of-core.result c.in_ok-core.field-0.core ending ran.0 c.core_of-core.ensures.core c.core_of-core.ensures.empty ran.1
    totals.ensures.pages totals.ensures.live totals.ensures.shown c.push_ending.new.out.items c.in_ok-core.field-0.certificate.items
    (c.in_ok-push_ending.ensures ∙ ap (λ text. text ++ end_line ending) ran.2) ran.3
