use Rattle.std.proofs.Common.{ℕ, ◌≡◌, ◌+◌, ◌≤◌, ◌<◌, ◌^◌, arith, sym, subst, ap, ◌∙◌, List, length, length-append, ◌*◌, ◌++◌, ◌∷◌, [], Bool}
use Rattle.std.specs.FinSet as set
use Rattle.span.specs.Classes.{width_of}
use Rattle.span.specs.Log.{Holds, IsOfClass, Value, all_puts}
use Rattle.span.specs.State.{IsSettable, SpanState}
use Rattle.span.specs.Kept.{Follows, IsKept}
use Rattle.span.specs.Marks.{marks_of}
use Rattle.span.specs.declared.marks.Marks.{Marks}
use Rattle.span.specs.declared.class.Class.{Class}
use Rattle.span.specs.declared.id.SpanId.{SpanId}
use Rattle.span.proofs.OfClass.{Fits-replay, Holds-on_page, IsOfClass-push}
use Rattle.span.specs.declared.change.Change.{Change}
use Rattle.span.specs.declared.change.Change.TheVariants.{Set}
use Rattle.span.proofs.Keeping.{Follows-set}
use Rattle.span.proofs.Slots.{live_slots-set, worn_slots-set}
use Rattle.bitmap.specs.declared.bits.TheConstants.{SLOTS}
use Rattle.span.proofs.span.Span.set_at.Goals as goal

-- the span before the set, seen by its state
module _ {id : SpanId} {class : Class} {gens : ℕ} {worn : Bool} {count : ℕ} {marks : Marks} {log : List Change} {room : ℕ}
    (kept : IsKept class gens worn count marks log room) (state : SpanState) (view_is : record { id = id; class = class; gens = gens; log = log } ≡ state)
    (slot generation : ℕ) (within : slot < SLOTS) (words : Value)
    (settable : IsSettable state slot generation words) where
  holds : Holds log slot generation
  holds = subst (λ (S : SpanState). Holds S.log slot generation) (sym view_is) settable.0

  wide : length words ≡ width_of class
  wide = subst (λ (S : SpanState). length words ≡ width_of S.class) (sym view_is) settable.1

  follows_set : Follows gens (log ++ Set slot generation words ∷ []) (marks_of marks)
  follows_set = Follows-set gens log (marks_of marks) kept.follows slot within generation words holds (λ held is. (Fits-replay class log kept.of_class slot held is).1 ∙ sym wide)

  of_class_set : IsOfClass class (log ++ Set slot generation words ∷ [])
  of_class_set = IsOfClass-push class log _ kept.of_class (Holds-on_page class log slot generation kept.of_class holds, wide)

  few_after_set : length log + (count + 1) ≤ 2 ^ 63 → length (log ++ Set slot generation words ∷ []) + count ≤ 2 * all_puts (log ++ Set slot generation words ∷ []) + 2 ^ 63
  few_after_set few = omega (arith, few, length-append log (Set slot generation words ∷ []))

pub push_set-requires-clause-width : goal.push_set-requires-clause-width
push_set-requires-clause-width g c = wide c.self.invariant c.args.self.now c.self.view_is c.args.slot c.args.generation c.ranges.slot.fits c.args.words.now c.requires

pub push_set-requires-clause-in_range : goal.push_set-requires-clause-in_range
push_set-requires-clause-in_range g c = omega (arith, c.in_ok-reserve_set.ensures.few)

pub invariant_of-self-2 : goal.invariant_of-self-2
invariant_of-self-2 g c =
    let inside = c.self.inside in
    record {
      some_generation = c.self.invariant.some_generation;
      follows = rw (c.push_set.ensures.changes, c.in_ok-reserve_set.ensures.changes)
          (follows_set c.self.invariant c.args.self.now c.self.view_is c.args.slot c.args.generation c.ranges.slot.fits c.args.words.now c.requires);
      none_worn = λ none. rw (c.push_set.ensures.changes, c.in_ok-reserve_set.ensures.changes)
          (worn_slots-set inside.gens (g.L.Log.changes inside.log) c.args.slot c.args.generation c.args.words.now ∙ c.self.invariant.none_worn none);
      count_is = rw (c.push_set.ensures.changes, c.in_ok-reserve_set.ensures.changes)
          (c.self.invariant.count_is ∙ sym (ap set.len (live_slots-set (g.L.Log.changes inside.log) c.args.slot c.args.generation c.args.words.now
          (holds c.self.invariant c.args.self.now c.self.view_is c.args.slot c.args.generation c.ranges.slot.fits c.args.words.now c.requires))));
      fit = c.self.invariant.fit;
      gens_fit = c.self.invariant.gens_fit;
      of_class = rw (c.push_set.ensures.changes, c.in_ok-reserve_set.ensures.changes)
          (of_class_set c.self.invariant c.args.self.now c.self.view_is c.args.slot c.args.generation c.ranges.slot.fits c.args.words.now c.requires);
      few_sets = rw (c.push_set.ensures.changes, c.in_ok-reserve_set.ensures.changes)
          (few_after_set c.self.invariant c.args.self.now c.self.view_is c.args.slot c.args.generation c.ranges.slot.fits c.args.words.now c.requires
          (omega (arith, c.from.ensures, c.in_ok-reserve_set.ensures.few, ap length c.in_ok-reserve_set.ensures.changes)));
      room_for_frees = omega (arith, c.from.ensures, c.in_ok-reserve_set.ensures.ok, c.push_set.ensures.room);
    }

pub returns-clause-legal : goal.returns-clause-legal
returns-clause-legal g c = (invariant_of-self-2 g c).follows.legal

pub returns-clause-of_class : goal.returns-clause-of_class
returns-clause-of_class g c = (invariant_of-self-2 g c).of_class
