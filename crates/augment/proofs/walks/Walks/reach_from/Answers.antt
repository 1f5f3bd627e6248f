use Rattle.std.proofs.Common.{arith, ◌≡◌, ◌<◌, ◌+◌, ◌∙◌, ap, length, sym, Some}
use Rattle.std.proofs.lemmas.List.{get_or_default}
use Rattle.bitmap.specs.Slots.{has_bit}
use Rattle.augment.specs.Mates.{mate}
use Rattle.augment.specs.Walks.{unpassed}
use Rattle.augment.proofs.Opposite.{passed-from_bits, unpassed-from_bit}
use Rattle.augment.proofs.Steps.{reaching_end, reaching_push}
use Rattle.augment.proofs.walks.Walks.reach_from.Goals as goal

pub partners-preserved : goal.partners-preserved
partners-preserved c =
    let graph = c.args.graph.now in
    let reached = c.partners.self.reached in
    let group = c.index.result.now.group in
    let owned = c.in-Some.owned in
    let s = c.partners.invariant in
    let within : owned < length graph.owned = c.in-Some.ensures.within in
    let long : length c.args.mates.now.planned.items ≡ length graph.owned = c.requires.owned in
    let planned : mate c.args.mates.now.planned.items owned ≡ Some c.in-Some-index.back = grind (arith, get_or_default) in
    rw (c.in_ok-push-in-Some-index.ensures.items, c.pass.ensures)
    (reaching_push graph c.args.mates.now.onto.items c.args.mates.now.planned.items c.partners.self.entries.items reached.passed.items c.args.at group
    c.partners.from (length c.args.self.now.entries.items + unpassed c.args.self.now.reached.passed.items) (length graph.owned) owned c.in-Some-index.back
    c.args.mates.now.paired s
    (λ q late less. passed-from_bits graph reached.unpassed.items reached.passed.items group q reached.opposite s.places
    (λ on. c.in-Some.ensures.least q late less (ap (λ l. has_bit l q) c.deref.ensures.value ∙ on)))
    c.in-Some.ensures.partner within
    (unpassed-from_bit reached.unpassed.items reached.passed.items owned reached.opposite (omega (arith, within, s.places))
    (sym (ap (λ l. has_bit l owned) c.deref.ensures.value) ∙ c.in-Some.ensures.among))
    planned)

pub returns-clause-searched : goal.returns-clause-searched
returns-clause-searched c =
    let graph = c.args.graph.now in
    let reached = c.partners.self.reached in
    let group = c.index.result.now.group in
    reaching_end graph c.args.mates.now.onto.items c.partners.self.entries.items reached.passed.items c.args.at group c.partners.from
    (length c.args.self.now.entries.items + unpassed c.args.self.now.reached.passed.items) (length graph.owned) c.partners.invariant
    (λ q late. passed-from_bits graph reached.unpassed.items reached.passed.items group q reached.opposite c.partners.invariant.places
    (λ on. c.in_default.ensures.none q late (ap (λ l. has_bit l q) c.deref.ensures.value ∙ on)))
