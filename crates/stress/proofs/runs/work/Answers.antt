use Rattle.std.proofs.Common.{◌∙◌, ap, arith, sym}
use Rattle.arena.proofs.Linking.{same_by}
use Rattle.stress.proofs.runs.work.Goals as goal

pub returns : goal.returns
returns g c =
    let made = c.in_ok-after.ensures {u = tt} in
    let before = c.args.workers.items in
    let after = c.in_ok-after.after.items in
    same_by (λ worker. worker.seat.table) before after (omega (arith, made.len, c.args.workers.ok.0, c.in_ok-after.after.ok.0))
    (λ i d e less. let one = (made.each i e less).1 in one.call.met ∙ ap (λ worker. worker.seat.table) (sym (one.job_is d)))
