use Rattle.thread_runner.proofs.Names.{◌≡◌, ◌∙◌, ◌+◌, ◌<◌, ◌≤◌, ◌^◌, Some, ap, arith, length, slice_get, subst, sym, take, true, false, take_all, IfOk-weaker, is_mark, is_mark_at, marks_above, plan_pairs, marks}
use Rattle.thread_runner.proofs.Noting.{HaveCome-other, HaveCome-same, barrier_from-mark, is_mark_at-here, marks_above-other}
use Rattle.thread_runner.proofs.Numbering.{IsOneSection, IsOneSection-mark, IsOneSection-other}
use Rattle.thread_runner.proofs.run.BetweenSections.run_to_end.Goals as goal
use Rattle.thread_runner.proofs.run.BetweenSections.run_to_end.Goals.{then-is_mark+in_ok-both, else-is_mark}

pub loop-place-preserved : goal.loop-place-preserved
loop-place-preserved g c =
    let lines = c.args.lines.now.items in
    let place = c.loop-place.place in
    let line = c.line_at.result.now in
    let so_far = c.loop-place.invariant in
    let here : slice_get lines place ≡ Some line = c.line_at.ensures in
    let is : is_mark_at lines place ≡ c.is_mark.result = is_mark_at-here lines place line here ∙ sym c.is_mark.ensures in
    elim c.if-is_mark.branch [
      | then-is_mark+in_ok-both w ↦
          let from_is = w.from-is in
          let sections_is = ap (λ k. k.sections_run) w.between-is ∙ w.in_ok-both.ensures.sections in
          let mark : is_mark line ≡ true = sym c.is_mark.ensures ∙ w.if-is_mark.true in
          let next = IsOneSection-mark lines c.loop-place.from place c.loop-place.between.sections_run line here mark so_far.within so_far.one in
          record {
            within = omega (arith, from_is);
            come = HaveCome-same lines (place + 1) c.if-is_mark.from w.in_ok-both.both.1.steward.plan c.if-is_mark.plans.steward.plan w.in_ok-both.both.1.minutes c.if-is_mark.plans.minutes from_is
                (ap (λ k. plan_pairs k.steward.plan) w.plans-is) (ap (λ k. k.minutes) w.plans-is)
                (w.in_ok-both.ensures.notes lines (w.barrier_of-barrier.ensures.barrier, so_far.same, is ∙ w.if-is_mark.true) so_far.come);
            same = ap (marks_above lines) (sym from_is);
            one = subst (λ s. IsOneSection lines c.if-is_mark.from (place + 1) s) (sym sections_is)
                (subst (λ f. IsOneSection lines f (place + 1) (c.loop-place.between.sections_run + 1)) (sym from_is) next);
          }
      | else-is_mark w ↦
          let from_is = w.from-is in
          let sections_is = ap (λ k. k.sections_run) w.between-is in
          let other : is_mark line ≡ false = sym c.is_mark.ensures ∙ w.if-is_mark.false in
          let next = IsOneSection-other lines c.loop-place.from place c.loop-place.between.sections_run line here other so_far.within so_far.one in
          record {
            within = let within = so_far.within in omega (arith, from_is);
            come = HaveCome-same lines c.loop-place.from c.if-is_mark.from c.loop-place.plans.steward.plan c.if-is_mark.plans.steward.plan
                c.loop-place.plans.minutes c.if-is_mark.plans.minutes from_is
                (ap (λ k. plan_pairs k.steward.plan) w.plans-is) (ap (λ k. k.minutes) w.plans-is) so_far.come;
            same = marks_above-other lines place (is ∙ w.if-is_mark.false) ∙ so_far.same ∙ ap (marks_above lines) (sym from_is);
            one = subst (λ s. IsOneSection lines c.if-is_mark.from (place + 1) s) (sym sections_is)
                (subst (λ f. IsOneSection lines f (place + 1) c.loop-place.between.sections_run) (sym from_is) next);
          }
    ]

pub run_section-requires-clause-bounds : goal.run_section-requires-clause-bounds
run_section-requires-clause-bounds g c κs within =
    let lines = c.args.lines.now.items in
    let place = c.loop-place.place in
    let line = c.line_at.result.now in
    let here : slice_get lines place ≡ Some line = c.line_at.ensures in
    let mark : is_mark line ≡ true = sym c.is_mark.ensures ∙ c.if-is_mark.true in
    let before = barrier_from-mark lines c.loop-place.from place line here mark c.loop-place.invariant.within in
    let few : place < 2 ^ 63 = omega (arith, c.loop-place-test.true, c.loop-place.auto.place-end, c.len-place-end.ensures.few) in
    (c.barrier_of-barrier.ensures.within.0, subst (λ b. b ≤ place) (sym c.barrier_of-barrier.ensures.barrier) before, few)

pub returns-clause-notes : goal.returns-clause-notes
returns-clause-notes g c =
    let lines = c.args.lines.now.items in
    let so_far = c.loop-place.invariant in
    let end : c.loop-place.place ≡ length lines = omega (arith, c.loop-place-test.false, c.loop-place.auto.place-end, c.len-place-end.ensures.len) in
    IfOk-weaker c.run_last_section.result _ _
    (λ both come. (HaveCome-other lines c.loop-place.from (length lines) both.1.minutes (ap (marks_above lines) (sym end) ∙ so_far.same) come).noted)
    (c.run_last_section.ensures.notes lines so_far.come c.barrier_of-barrier-2.ensures.barrier)

pub returns-clause-sections : goal.returns-clause-sections
returns-clause-sections g c =
    let lines = c.args.lines.now.items in
    let so_far = c.loop-place.invariant in
    let end : c.loop-place.place ≡ length lines = omega (arith, c.loop-place-test.false, c.loop-place.auto.place-end, c.len-place-end.ensures.len) in
    let all : marks lines ≡ c.loop-place.between.sections_run = ap marks (sym (take_all (length lines) lines (omega arith))) ∙ ap (λ n. marks (take n lines)) (sym end)
    ∙ so_far.one c.loop-place.place so_far.within (omega arith) in
    IfOk-weaker c.run_last_section.result _ _ (λ both sections. sections ∙ ap (λ n. n + 1) (sym all)) c.run_last_section.ensures.sections
