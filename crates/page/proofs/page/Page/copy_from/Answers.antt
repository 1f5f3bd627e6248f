use Rattle.std.proofs.Common.{List, ℕ, ◌∙◌, ap, subst, sym}
use Rattle.bitmap.specs.Slots.{ascending}
use Rattle.page.specs.Words.{PageState}
use Rattle.page.proofs.Copied.{IsCopying, IsCopying-all, IsCopying-first, IsCopying-next, slot-on_page}
use Rattle.page.proofs.page.Page.copy_from.Goals as goal

pub loop-slot-init : goal.loop-slot-init
loop-slot-init c = record {
  words = subst (λ (left : List ℕ). IsCopying c.args.self.now.words c.args.self.now.words c.args.class c.args.other.words left (ascending c.args.slots.now))
      (sym (c.into_iter-slot-iterator.ensures.into_iter_gives ∙ c.iter-slot-items.ensures.slots))
      (IsCopying-first c.args.self.now.words c.args.class c.args.other.words c.args.slots.now c.requires.on_page);
  room = λ i. c.args.self.now.room;
}

pub loop-slot-preserved : goal.loop-slot-preserved
loop-slot-preserved c = record {
  words = rw (c.set_at.ensures, c.value_at.ensures.object)
      (IsCopying-next c.args.self.now.words c.loop-slot.self.words c.args.class c.args.other.words c.in-Some.slot c.loop-slot.slot-iterator c.next.new.self
      (ascending c.args.slots.now) c.in-Some.ensures.steps c.loop-slot.invariant.words);
  room = ap (λ (page : PageState). page.room) c.set_at.ensures ∙ c.loop-slot.invariant.room;
}

pub returns-clause-words : goal.returns-clause-words
returns-clause-words c = IsCopying-all c.args.self.now.words c.loop-slot.self.words c.args.class c.args.other.words c.args.slots.now c.loop-slot.slot-iterator c.in-None.ensures.steps.0
    c.loop-slot.invariant.words

pub value_at-requires-clause-on_page : goal.value_at-requires-clause-on_page
value_at-requires-clause-on_page c = slot-on_page c.args.self.now.words c.loop-slot.self.words c.args.class c.args.other.words c.in-Some.slot c.loop-slot.slot-iterator c.next.new.self
    (ascending c.args.slots.now) c.in-Some.ensures.steps c.loop-slot.invariant.words

pub set_at-requires-clause-on_page : goal.set_at-requires-clause-on_page
set_at-requires-clause-on_page c = slot-on_page c.args.self.now.words c.loop-slot.self.words c.args.class c.args.other.words c.in-Some.slot c.loop-slot.slot-iterator
    c.next.new.self (ascending c.args.slots.now) c.in-Some.ensures.steps c.loop-slot.invariant.words
