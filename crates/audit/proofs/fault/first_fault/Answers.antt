use Rattle.std.proofs.Common.{◌≡◌, ◌∙◌, sym, true, false}
use Rattle.std.proofs.lemmas.Option.{MatchOption-at_some}
use Rattle.audit.proofs.fault.first_fault.Goals as goal

pub returns-then-not-sections_are_in_order : goal.returns-then-not-sections_are_in_order
returns-then-not-sections_are_in_order c =
    let logs = MatchOption-at_some _ _ _ c.in-Some.is (c.in_ok-table.ensures {u = tt}) in
    let sections = MatchOption-at_some _ _ _ c.in-Some-2.is (c.in_ok-sections.ensures {u = tt}).entered in (
      logs.0,
      sections.0,
      (c.in_ok-replies_are_right.ensures {u = tt}).0 c.if-not-branch.false,
      (c.in_ok-workers_are_in_order.ensures {u = tt}).0 c.if-not-branch-2.false,
      λ order. let e : false ≡ true = sym c.if-not-sections_are_in_order.true ∙ c.sections_are_in_order.ensures.1 order in cc,
    )

pub returns : goal.returns
returns c =
    let logs = MatchOption-at_some _ _ _ c.in-Some.is (c.in_ok-table.ensures {u = tt}) in
    let sections = MatchOption-at_some _ _ _ c.in-Some-2.is (c.in_ok-sections.ensures {u = tt}).entered in
    record {
      log = logs.0;
      change = sections.0;
      reply = (c.in_ok-replies_are_right.ensures {u = tt}).0 c.if-not-branch.false;
      order = (c.in_ok-workers_are_in_order.ensures {u = tt}).0 c.if-not-branch-2.false;
      barrier = c.sections_are_in_order.ensures.0 c.if-not-sections_are_in_order.false;
    }
