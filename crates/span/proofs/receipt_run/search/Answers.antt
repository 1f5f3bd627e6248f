use Rattle.std.proofs.Common.{◌≡◌, ◌+◌, slice_get, ap, ◌∙◌, inl, inr, arith}
use Rattle.std.proofs.lemmas.Option.{slice_get_cases}
use Rattle.span.proofs.receipt_run.search.Goals as goal

pub returns : goal.returns
returns c =
    let runs = c.args.runs.now in
    let low = c.loop-high.low in
    let kept = c.loop-high.invariant in
    elim (slice_get_cases runs low).1 [
      | inl there ↦ record {
        run = there.0;
        at = there.2;
        from = kept.from there.0 there.2;
        to = λ next at.
            let order = kept.order in
            let last : c.loop-high.high ≡ low + 1 = omega (arith, c.loop-high-test.false) in
            kept.to next (ap (λ k. slice_get runs k) last ∙ at);
      }
      | inr past ↦ absurd (let order = kept.order in let within = kept.within in omega (arith, past.0))
    ]
