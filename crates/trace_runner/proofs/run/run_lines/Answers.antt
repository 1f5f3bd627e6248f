use Rattle.trace_runner.proofs.Names.{◌≡◌, ◌∙◌, ap, arith, length, Kept, kept_in, news_at}
use Rattle.trace_runner.proofs.Progress.{HasCome-CanLeave, HasCome-IsRun, HasCome-calls}
use Rattle.trace_runner.proofs.run.run_lines.Goals as goal

pub next_line-requires-clause-here : goal.next_line-requires-clause-here
next_line-requires-clause-here g c = rw c.loop-place.invariant.trace c.line_at.ensures

pub next_line-requires-clause-fine : goal.next_line-requires-clause-fine
next_line-requires-clause-fine g c = rw c.loop-place.invariant.trace (c.args.trace.now.sound c.loop-place.place c.line_at.result.now c.line_at.ensures)

pub next_line-requires-clause-come : goal.next_line-requires-clause-come
next_line-requires-clause-come g c = (c.args.replies, c.args.core, rw c.loop-place.invariant.trace c.loop-place.invariant.come)

pub settle-requires-clause-leave : goal.settle-requires-clause-leave
settle-requires-clause-leave g c = rw c.loop-place.invariant.trace (HasCome-CanLeave c.args.trace.now.header _ _ _ _ _ _ _ _ c.loop-place.invariant.come)

pub settle-requires-clause-knows : goal.settle-requires-clause-knows
settle-requires-clause-knows g c = c.loop-place.invariant.come.knows

pub overflow_sub-calls : goal.overflow_sub-calls
overflow_sub-calls g c =
    let all : c.loop-place.place ≡ length c.args.trace.now.lines.items = omega (arith, c.len-place-end.ensures.len) in
    let count = HasCome-calls c.args.trace.now.header _ _ _ _ _ _ _ _ c.loop-place.invariant.come all in
    let long : c.in_ok-count.count ≡ (kept_in c.loop-place.run.replies).count = c.in_ok-count.ensures.count ∙ ap (λ (kept : Kept). kept.count) c.settle.ensures.rest in
    omega (arith, count, c.adoptions.ensures, long)

pub returns : goal.returns
returns g c =
    let all : c.loop-place.place ≡ length c.args.trace.now.lines.items = omega (arith, c.len-place-end.ensures.len) in
    let count = HasCome-calls c.args.trace.now.header _ _ _ _ _ _ _ _ c.loop-place.invariant.come all in
    let long : c.in_ok-count.count ≡ (kept_in c.loop-place.run.replies).count = c.in_ok-count.ensures.count ∙ ap (λ (kept : Kept). kept.count) c.settle.ensures.rest in (
      news_at (kept_in c.settle.new.self.replies) c.settle.new.self.plans,
      HasCome-IsRun c.args.trace.now.header _ _ _ _ _ _ _ _ c.loop-place.invariant.come
          c.settle.new.self.core _ _ all (rw c.loop-place.invariant.trace at c.in_ok-settle.ensures.made) (omega (arith, count, c.adoptions.ensures, long)),
      ap (λ v. v.items) c.into_text.ensures,
      ap (λ v. v.items) c.into_certificate.ensures,
    )
