use Rattle.std.proofs.lemmas.Grind.{common_steps}
use Rattle.std.proofs.Common.{◌≡◌, ◌∙◌, true, false, sym, arith}
use Rattle.audit.proofs.Orderly.{LeaveNothing-from}
use Rattle.audit.proofs.verdict.verdict_of.Goals as goal

pub list_is_in_order-requires-clause-nothing : goal.list_is_in_order-requires-clause-nothing
list_is_in_order-requires-clause-nothing c = grind (arith, common_steps, LeaveNothing-from)

pub returns-then-not-stand_between : goal.returns-then-not-stand_between
returns-then-not-stand_between c = (
  c.list_is_right.ensures.0 c.if-not-list_is_right.false,
  (c.in-Ok.ensures {u = tt}).0 c.if-not-in_order.false,
  λ all. let e : false ≡ true = sym c.if-not-stand_between.true ∙ c.stand_between.ensures.1 all in absurd cc,
)

pub returns : goal.returns
returns c = (
  c.list_is_right.ensures.0 c.if-not-list_is_right.false,
  (c.in-Ok.ensures {u = tt}).0 c.if-not-in_order.false,
  c.stand_between.ensures.0 c.if-not-stand_between.false,
)
