use Rattle.std.proofs.Common.{arith, rules, tests, ℕ, ◌==◌, ◌≡◌, length, ap, ◌∙◌}
use Rattle.std.proofs.lemmas.Bool.Decides.{nat_tests}
use Rattle.std.proofs.lemmas.Iterator.Consumers.{YieldsList-turn, YieldsList-end}
use Rattle.std.proofs.lemmas.Iterator.Splits.{YieldsList-from_slice_split}
use Rattle.std.specs.Slice.Iter as slice
use Rattle.certificate.proofs.text.parts.parts.Goals as goal

pub returns-then-is_full-clause-none : goal.returns-then-is_full-clause-none
returns-then-is_full-clause-none c =
    let same : c.into_iter-part-iterator.result ≡ c.split-part-items.result = c.into_iter-part-iterator.ensures.into_iter_gives in
    let turn = YieldsList-turn (YieldsList-from_slice_split _ (λ (b : ℕ). b == c.args.separator) c.args.bytes.now
    (ap slice.split_rest same ∙ c.split-part-items.ensures.rest) (ap slice.split_done same ∙ c.split-part-items.ensures.done)
    (ap slice.split_callee same ∙ c.split-part-items.ensures.closure) (λ x r q k. search (rules, tests))) c.loop-part.yielded _ c.loop-part.yielded_by _ _
    c.in-Some.part c.in-Some.is c.next.ensures.steps in
    let count : length c.loop-part.parts.items ≡ length c.loop-part.yielded = ap length c.loop-part.invariant in
    let full : length c.loop-part.parts.items ≡ 3 = grind (arith, nat_tests) in
    omega (arith, turn.0)

pub returns-clause-some : goal.returns-clause-some
returns-clause-some c =
    let same : c.into_iter-part-iterator.result ≡ c.split-part-items.result = c.into_iter-part-iterator.ensures.into_iter_gives in
    let whole = YieldsList-end (YieldsList-from_slice_split _ _ c.args.bytes.now (ap slice.split_rest same ∙ c.split-part-items.ensures.rest)
    (ap slice.split_done same ∙ c.split-part-items.ensures.done) (ap slice.split_callee same ∙ c.split-part-items.ensures.closure)
    (λ x r q k. search (rules, tests))) c.loop-part.yielded _ c.loop-part.yielded_by _ _ c.in-None.is c.next.ensures.steps in
    rw c.loop-part.invariant whole.0
