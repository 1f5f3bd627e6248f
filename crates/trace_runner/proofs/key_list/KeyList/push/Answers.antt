use Rattle.trace_runner.proofs.Names.{◌∙◌, ◌∷◌, [], arith, length-append, rules, sym}
use Rattle.trace_runner.proofs.Giving.{AreInRow-closed, all_given-key, all_given-next, row_apart}
use Rattle.trace_runner.proofs.key_list.KeyList.push.Goals as goal

pub overflow_sub-more : goal.overflow_sub-more
overflow_sub-more c = omega (arith, row_apart c.self.inside.closed.items 0 0 c.self.inside.place c.self.inside.above c.self.invariant.0)

pub returns-then-self-eq0 : goal.returns-then-self-eq0
returns-then-self-eq0 c = rw (← c.self.view_is, c.in_ok-push.ensures.items, c.in-Some.is, c.if-self-eq0.true)
    (all_given-key c.self.inside.keys.items c.in-Some.key c.self.inside.closed.items c.self.inside.place c.self.inside.above c.self.invariant.0 c.self.invariant.1)

pub invariant_of-self-in_err-push-3 : goal.invariant_of-self-in_err-push-3
invariant_of-self-in_err-push-3 c = (
  AreInRow-closed c.self.inside.keys.items c.self.inside.closed.items c.push-2.new.self.items c.self.inside.place c.self.inside.above c.self.inside.refused
      c.len.result c.in_ok-place.place c.len-self-inside.result c.self.invariant.0 c.self.invariant.1
      (c.len.ensures ∙ c.self.inside.keys.ok.0) c.in_ok-push-2.ensures.items c.in_ok-place.ensures.count (c.len-self-inside.ensures ∙ sym c.len.ensures),
  search rules,
  omega (arith, c.self.invariant.1, c.self.invariant.2, c.in_ok-place.ensures.count, c.len.ensures, c.len-self-inside.ensures, c.self.inside.keys.ok.0),
)

pub invariant_of-self-2 : goal.invariant_of-self-2
invariant_of-self-2 c = (
  AreInRow-closed c.self.inside.keys.items c.self.inside.closed.items c.push-2.new.self.items c.self.inside.place c.self.inside.above c.self.inside.refused
      c.len.result c.in_ok-place.place c.len-self-inside.result c.self.invariant.0 c.self.invariant.1
      (c.len.ensures ∙ c.self.inside.keys.ok.0) c.in_ok-push-2.ensures.items c.in_ok-place.ensures.count (c.len-self-inside.ensures ∙ sym c.len.ensures),
  rw (c.in_ok-push-3.ensures.items) (omega (arith, c.len-self-inside.ensures, c.self.inside.keys.ok.0, length-append c.self.inside.keys.items (c.in-Some.key ∷ []))),
  omega (arith, c.self.invariant.1, c.self.invariant.2, c.in_ok-place.ensures.count, c.len.ensures, c.len-self-inside.ensures, c.self.inside.keys.ok.0),
)

pub returns : goal.returns
returns c = rw (← c.self.view_is, c.in-Some.is)
    (all_given-next c.self.inside.keys.items c.push-3.new.self.items c.in-Some.key c.self.inside.closed.items c.push-2.new.self.items c.self.inside.place
    c.self.inside.above c.self.inside.refused c.len.result c.in_ok-place.place c.len-self-inside.result
    c.self.invariant.0 c.self.invariant.1 (c.len.ensures ∙ c.self.inside.keys.ok.0) c.in_ok-push-2.ensures.items c.in_ok-place.ensures.count
    (c.len-self-inside.ensures ∙ sym c.len.ensures) c.in_ok-push-3.ensures.items)
