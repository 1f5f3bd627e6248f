use Rattle.std.proofs.Common.{ℕ, ◌^◌, ◌≡◌, ◌+◌, ◌-◌, ◌%◌, ◌∙◌, ap, get_or, ◌≤◌, ◌<◌, true, arith, sym, subst, List, length, length-append, ◌*◌, ◌++◌, ◌∷◌, [], Bool, rules}
use Rattle.std.specs.FinSet as set
use Rattle.span.specs.Log.{Holds, all_puts, live_slots}
use Rattle.span.specs.State.{SpanState}
use Rattle.span.specs.declared.id.SpanId.{SpanId}
use Rattle.span.specs.Kept.{IsKept}
use Rattle.span.specs.Marks.{marks_of}
use Rattle.span.specs.declared.marks.Marks.{Marks}
use Rattle.span.specs.declared.class.Class.{Class}
use Rattle.span.proofs.OfClass.{IsOfClass-push}
use Rattle.span.specs.declared.change.Change.{Change}
use Rattle.span.specs.declared.change.Change.TheVariants.{Free}
use Rattle.span.proofs.Counting.{all_puts-free, all_puts-le}
use Rattle.span.proofs.LiveSlots.{FitInto-set}
use Rattle.span.proofs.Slots.{live_slots-free, worn_slots-free}
use Rattle.span.proofs.Keeping.{Follows-free, Holds-kept, len-remove_member, live-if_held, live-within, some_member}
use Rattle.bitmap.specs.declared.bits.TheConstants.{SLOTS}
use Rattle.span.proofs.span.Span.free_at.Goals as goal

-- what the room kept for a live key's free comes to
module _ {id : SpanId} {class : Class} {gens : ℕ} {worn : Bool} {count : ℕ} {marks : Marks} {log : List Change} {room : ℕ}
    (kept : IsKept class gens worn count marks log room) (state : SpanState) (view_is : record { id = id; class = class; gens = gens; log = log } ≡ state)
    (slot generation : ℕ) (within : slot < SLOTS) (live : Holds state.log slot generation) where
  holds : Holds log slot generation
  holds = subst (λ (S : SpanState). Holds S.log slot generation) (sym view_is) live

  member : set.contains (live_slots log) slot ≡ true
  member = live-if_held log slot generation holds

  odd : get_or (marks_of marks) slot 0 % 2 ≡ 1
  odd = omega (arith, Holds-kept gens log (marks_of marks) kept.follows slot within generation holds)

  has_mark : slot < length (marks_of marks)
  has_mark = live-within gens log (marks_of marks) kept.follows slot within odd

  some_live : 0 < count
  some_live = omega (arith, kept.count_is, some_member (live_slots log) slot member)

  one_less : set.len (live_slots (log ++ Free slot generation ∷ [])) ≡ count - 1
  one_less = ap set.len (live_slots-free log slot generation) ∙ len-remove_member (live_slots log) slot member ∙ ap (λ n. n - 1) (sym kept.count_is)

  count_after_free : length (log ++ Free slot generation ∷ []) + (count - 1) ≤ 2 * all_puts (log ++ Free slot generation ∷ []) + 2 ^ 63
  count_after_free = omega (arith, kept.few_sets, some_live, all_puts-free log slot generation, length-append log (Free slot generation ∷ []))

pub push_free-requires-clause-in_range : goal.push_free-requires-clause-in_range
push_free-requires-clause-in_range g c = search (rules, all_puts-le)

pub push_free-requires-clause-room : goal.push_free-requires-clause-room
push_free-requires-clause-room g c =
    omega (arith, c.self.invariant.room_for_frees, some_live c.self.invariant c.args.self.now c.self.view_is c.args.slot c.args.generation c.ranges.slot.fits c.requires)

pub overflow_sub-self : goal.overflow_sub-self
overflow_sub-self g c = omega (arith, some_live c.self.invariant c.args.self.now c.self.view_is c.args.slot c.args.generation c.ranges.slot.fits c.requires)

pub take_back-requires-clause-within : goal.take_back-requires-clause-within
take_back-requires-clause-within g c = has_mark c.self.invariant c.args.self.now c.self.view_is c.args.slot c.args.generation c.ranges.slot.fits c.requires

pub take_back-requires-clause-live : goal.take_back-requires-clause-live
take_back-requires-clause-live g c = odd c.self.invariant c.args.self.now c.self.view_is c.args.slot c.args.generation c.ranges.slot.fits c.requires

pub invariant_of-self : goal.invariant_of-self
invariant_of-self g c =
    let inside = c.self.inside in
    let held = holds c.self.invariant c.args.self.now c.self.view_is c.args.slot c.args.generation c.ranges.slot.fits c.requires in
    record {
      some_generation = c.self.invariant.some_generation;
      follows = rw (c.push_free.ensures.changes, c.take_back.ensures.given)
          (Follows-free inside.gens (g.L.Log.changes inside.log) (marks_of inside.marks) c.self.invariant.follows c.args.slot c.ranges.slot.fits c.args.generation held);
      none_worn = λ none. rw c.push_free.ensures.changes
          (worn_slots-free inside.gens (g.L.Log.changes inside.log) c.args.slot c.args.generation ∙ c.self.invariant.none_worn none);
      count_is = rw c.push_free.ensures.changes (sym (one_less c.self.invariant c.args.self.now c.self.view_is c.args.slot c.args.generation c.ranges.slot.fits c.requires));
      fit = FitInto-set inside.class inside.marks c.take_back.new.self c.args.slot _ c.self.invariant.fit c.take_back.ensures.given;
      gens_fit = c.self.invariant.gens_fit;
      of_class = rw c.push_free.ensures.changes (IsOfClass-push inside.class (g.L.Log.changes inside.log) _ c.self.invariant.of_class tt);
      few_sets = rw c.push_free.ensures.changes (count_after_free c.self.invariant c.args.self.now c.self.view_is c.args.slot c.args.generation c.ranges.slot.fits c.requires);
      room_for_frees = omega (arith, c.push_free.ensures.room, c.self.invariant.room_for_frees, some_live c.self.invariant c.args.self.now c.self.view_is c.args.slot c.args.generation c.ranges.slot.fits c.requires);
    }

pub returns-clause-legal : goal.returns-clause-legal
returns-clause-legal g c = (invariant_of-self g c).follows.legal
