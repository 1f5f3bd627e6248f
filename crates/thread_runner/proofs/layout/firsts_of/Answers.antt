use Rattle.thread_runner.proofs.Names.{◌≡◌, ◌∙◌, ◌+◌, ap, rules, sym, take, keys_in}
use Rattle.thread_runner.proofs.Numbering.{keys_in-next}
use Rattle.thread_runner.proofs.layout.firsts_of.Goals as goal

pub loop-place-preserved : goal.loop-place-preserved
loop-place-preserved c =
    let lines = c.args.lines.now.items in
    let so_far = c.loop-place in
    let total : c.in_ok-count.count ≡ so_far.count + c.keys_at.result = search rules in
    record {
      firsts = c.in_ok-enter_first.ensures lines so_far.invariant.firsts so_far.invariant.count;
      count = total ∙ ap (λ n. n + c.keys_at.result) so_far.invariant.count ∙ ap (λ n. keys_in (take so_far.place lines) + n) c.keys_at.ensures
          ∙ sym (keys_in-next lines so_far.place c.line_at-line.result.now c.line_at-line.ensures);
    }
