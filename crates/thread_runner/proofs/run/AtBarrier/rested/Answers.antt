use Rattle.thread_runner.proofs.Names.{◌≡◌, ◌∙◌, ◌+◌, ap, rules, subst, sym, AreKept, AreResting}
use Rattle.thread_runner.proofs.run.AtBarrier.rested.Goals as goal

pub invariant_of-result : goal.invariant_of-result
invariant_of-result g c =
    let total : c.in_ok-sections_run.sections_run ≡ c.args.sections_run + 1 = search rules in
    let next = total ∙ ap (λ n. n + 1) c.requires.section in
    record {
      reads = c.args.self.reads;
      rest = subst (λ n. AreResting g.J.Reading.lines g.J.Reading.shown g.J.Reading.table (AreKept c.in_ok-threads.keys.kept.items) n c.in_ok-threads.threads.items) (sym next) c.in_ok-threads.ensures;
    }
