use Rattle.std.proofs.Common.{◌^◌, ◌<◌, ◌≤◌, ◌+◌, ◌/◌, ◌%◌, ◌≡◌, ◌∙◌, ℕ, List, length, length-append, ◌*◌, ◌++◌, ◌∷◌, [], get_or, ap, arith, sym, subst, false, Bool}
use Rattle.std.proofs.lemmas.Bool.{true≢false}
use Rattle.std.specs.FinSet as set
use Rattle.span.specs.Log.{Value, was_issued, worn_slots, live_slots, all_puts}
use Rattle.span.specs.Kept.{Follows, IsKept}
use Rattle.span.specs.State.{SpanState}
use Rattle.span.specs.declared.span.Span.TheInside.{Inside}
use Rattle.span.specs.Classes.{slots_in, width_of}
use Rattle.span.specs.declared.class.Class.{Class}
use Rattle.span.proofs.OfClass.{IsOfClass-push}
use Rattle.span.specs.declared.id.SpanId.{SpanId}
use Rattle.span.specs.Marks.{HasRoom, marks_of}
use Rattle.span.specs.declared.marks.Marks.{Marks}
use Rattle.span.specs.declared.marks.Marks.TheVariants.{Bytes, Words, Longs}
use Rattle.span.specs.declared.change.Change.{Change}
use Rattle.span.specs.declared.change.Change.TheVariants.{Put}
use Rattle.span.proofs.Counting.{all_puts-put, all_puts-le}
use Rattle.span.proofs.LegalLogs.{puts_of-lt, was_issued-next}
use Rattle.span.proofs.Keeping.{Follows-room, Follows-put, dead-at, none_worn-put, len-insert_new}
use Rattle.span.proofs.LiveSlots.{FitInto-set, len-live-most}
use Rattle.span.proofs.Slots.{live_slots-put}
use Rattle.span.proofs.span.Span.put_at.Goals as goal
use Rattle.span.proofs.span.Span.put_at.Goals.{then-generation-self, else-generation-self}
use Rattle.bitmap.specs.declared.bits.TheConstants.{SLOTS}

-- the span before the put, seen by its state, at a slot that is neither live nor worn
module _ {id : SpanId} {class : Class} {gens : ℕ} {worn : Bool} {count : ℕ} {kept_marks : Marks} {log : List Change} {room : ℕ}
    (kept : IsKept class gens worn count kept_marks log room) (state : SpanState)
    (view_is : record { id = id; class = class; gens = gens; log = log } ≡ state) (slot : ℕ) (within : slot < SLOTS)
    (not_live : set.contains (live_slots state.log) slot ≡ false) (not_worn : set.contains (worn_slots state.gens state.log) slot ≡ false) where
  unused : set.contains (live_slots log) slot ≡ false
  unused = ap (λ (S : SpanState). set.contains (live_slots S.log) slot) view_is ∙ not_live

  unworn : set.contains (worn_slots gens log) slot ≡ false
  unworn = ap (λ (S : SpanState). set.contains (worn_slots S.gens S.log) slot) view_is ∙ not_worn

  one_more : (generation : ℕ) (value : Value) → set.len (live_slots (log ++ Put slot generation value ∷ [])) ≡ count + 1
  one_more generation value = ap set.len (live_slots-put log slot generation value) ∙ len-insert_new (live_slots log) slot unused ∙ ap (λ n. n + 1) (sym kept.count_is)

  count_after_put : (generation : ℕ) (value : Value) → length (log ++ Put slot generation value ∷ []) + (count + 1) ≤ 2 * all_puts (log ++ Put slot generation value ∷ []) + 2 ^ 63
  count_after_put generation value =
      omega (arith, kept.few_sets, all_puts-put log slot generation value within, length-append log (Put slot generation value ∷ []))

  -- so few slots are live
  few_live : count ≤ SLOTS
  few_live = omega (arith, kept.count_is, len-live-most class log kept.of_class)

  -- the marks after room was made for them give the slot's next generation
  module _ (marks : List ℕ) (same : (q : ℕ) → get_or marks q 0 ≡ get_or (marks_of kept_marks) q 0) where
    before : Follows gens log marks
    before = Follows-room gens log (marks_of kept_marks) kept.follows marks same

    even : get_or marks slot 0 % 2 ≡ 0
    even = dead-at gens log marks before slot within unused

    next-le : get_or marks slot 0 / 2 + 1 ≤ gens
    next-le = omega (arith, before.generation_is slot within, puts_of-lt gens log slot kept.follows.legal within unworn)

    fits : get_or marks slot 0 + 3 < 2 ^ 33
    fits = omega (arith, even, next-le, kept.gens_fit)

    next_is_fresh : was_issued state.log slot (get_or marks slot 0 / 2 + 1) ≡ false
    next_is_fresh = rw (← view_is, before.generation_is slot within) (was_issued-next gens log slot kept.follows.legal)

-- the put is of the span's class
put_fits : {id : SpanId} {class : Class} {gens : ℕ} {log : List Change} {state : SpanState} {slot : ℕ} (words : List ℕ)
    → record { id = id; class = class; gens = gens; log = log } ≡ state → slot < slots_in state.class → length words ≡ width_of state.class
    → (slot < slots_in class) × (length words ≡ width_of class)
put_fits {class = class} {state = state} {slot = slot} words view_is on_page width =
    let same : class ≡ state.class = ap (λ (S : SpanState). S.class) view_is in
    (subst (λ (c : Class). slot < slots_in c) (sym same) on_page, subst (λ (c : Class). length words ≡ width_of c) (sym same) width)

-- a slot with room has a mark
HasRoom-within : (slot : ℕ) (marks : Marks) → HasRoom slot marks → slot < length (marks_of marks)
HasRoom-within slot (Bytes bytes) room = room.0
HasRoom-within slot (Words words) room = room.0
HasRoom-within slot (Longs longs) room = room

pub push_put-requires-clause-width : goal.push_put-requires-clause-width
push_put-requires-clause-width g c = (put_fits {slot = c.args.slot} c.args.words.now c.self.view_is c.requires.on_page c.requires.width).1

pub give_next-generation-requires-clause-in_range : goal.give_next-generation-requires-clause-in_range
give_next-generation-requires-clause-in_range g c =
    fits c.self.invariant c.args.self.now c.self.view_is c.args.slot c.ranges.slot.fits c.requires.not_live c.requires.not_worn
    (marks_of c.reserve_all.new.self) c.in_ok-reserve_all.ensures.same

pub give_next-generation-requires-clause-not_live : goal.give_next-generation-requires-clause-not_live
give_next-generation-requires-clause-not_live g c =
    even c.self.invariant c.args.self.now c.self.view_is c.args.slot c.ranges.slot.fits c.requires.not_live c.requires.not_worn
    (marks_of c.reserve_all.new.self) c.in_ok-reserve_all.ensures.same

pub overflow_add-self : goal.overflow_add-self
overflow_add-self g c = record {
  fits = omega (arith, few_live c.self.invariant c.args.self.now c.self.view_is c.args.slot c.ranges.slot.fits c.requires.not_live c.requires.not_worn);
}

pub push_put-requires-clause-in_range : goal.push_put-requires-clause-in_range
push_put-requires-clause-in_range g c =
    rw c.in_ok-reserve.ensures.changes
    (omega (arith, c.self.invariant.few_sets, c.self.invariant.gens_fit, all_puts-le _ _ c.self.invariant.follows.legal))

pub invariant_of-self-2 : goal.invariant_of-self-2
invariant_of-self-2 g c =
    let s = c.self.inside in
    let state = c.args.self.now in
    let marks = marks_of c.reserve_all.new.self in
    let not_live = unused c.self.invariant c.args.self.now c.self.view_is c.args.slot c.ranges.slot.fits c.requires.not_live c.requires.not_worn in
    let not_worn = unworn c.self.invariant c.args.self.now c.self.view_is c.args.slot c.ranges.slot.fits c.requires.not_live c.requires.not_worn in
    let one = one_more c.self.invariant c.args.self.now c.self.view_is c.args.slot c.ranges.slot.fits c.requires.not_live c.requires.not_worn in
    let counted = count_after_put c.self.invariant c.args.self.now c.self.view_is c.args.slot c.ranges.slot.fits c.requires.not_live c.requires.not_worn in
    let follows = before c.self.invariant c.args.self.now c.self.view_is c.args.slot c.ranges.slot.fits c.requires.not_live c.requires.not_worn marks c.in_ok-reserve_all.ensures.same in
    let long : c.args.slot < length marks = HasRoom-within c.args.slot c.reserve_all.new.self c.in_ok-reserve_all.ensures.ok in
    let kept : (worn : Bool) → (worn ≡ false → worn_slots s.gens (g.L.Log.changes c.push_put.new.self) ≡ set.empty)
    → IsKept s.class s.gens worn (s.live_count + 1) c.give_next-generation.new.self (g.L.Log.changes c.push_put.new.self) (g.L.Log.room c.push_put.new.self) = λ worn none. record {
      some_generation = c.self.invariant.some_generation;
      follows = rw (c.push_put.ensures.changes, c.in_ok-reserve.ensures.changes, c.give_next-generation.ensures.given, c.give_next-generation.ensures.next)
          (Follows-put s.gens (g.L.Log.changes s.log) marks follows c.args.slot c.ranges.slot.fits long c.args.words.now not_live not_worn);
      none_worn = none;
      count_is = rw (c.push_put.ensures.changes, c.in_ok-reserve.ensures.changes) (sym (one _ c.args.words.now));
      fit = FitInto-set s.class c.reserve_all.new.self c.give_next-generation.new.self c.args.slot _ c.in_ok-reserve_all.ensures.fit c.give_next-generation.ensures.given;
      gens_fit = c.self.invariant.gens_fit;
      of_class = rw (c.push_put.ensures.changes, c.in_ok-reserve.ensures.changes)
          (IsOfClass-push s.class (g.L.Log.changes s.log) _ c.self.invariant.of_class
          (put_fits {slot = c.args.slot} c.args.words.now c.self.view_is c.requires.on_page c.requires.width));
      few_sets = rw (c.push_put.ensures.changes, c.in_ok-reserve.ensures.changes) (counted _ c.args.words.now);
      room_for_frees = omega (arith, c.from.ensures, c.in_ok-reserve.ensures.ok, c.push_put.ensures.room);
    } in
    elim c.if-generation-self.branch [
      | then-generation-self w ↦ subst (λ (s : Inside g.row.L.Denot). IsKept s.class s.gens s.may_be_worn s.live_count s.marks (g.L.Log.changes s.log) (g.L.Log.room s.log)) (sym w.self-inside-is)
          (kept _ (λ none. absurd (true≢false none)))
      | else-generation-self w ↦ subst (λ (s : Inside g.row.L.Denot). IsKept s.class s.gens s.may_be_worn s.live_count s.marks (g.L.Log.changes s.log) (g.L.Log.room s.log)) (sym w.self-inside-is)
          (kept _ (λ none. rw (c.push_put.ensures.changes, c.in_ok-reserve.ensures.changes, c.give_next-generation.ensures.next)
          (none_worn-put s.gens (g.L.Log.changes s.log) marks follows c.args.slot c.ranges.slot.fits long c.args.words.now not_live not_worn
          (λ e. w.if-generation-self.false (c.give_next-generation.ensures.next ∙ e)) (c.self.invariant.none_worn none))))
    ]

pub returns-clause-at_most_gens : goal.returns-clause-at_most_gens
returns-clause-at_most_gens g c =
    rw (c.give_next-generation.ensures.next, ← c.self.view_is)
    (next-le c.self.invariant c.args.self.now c.self.view_is c.args.slot c.ranges.slot.fits c.requires.not_live c.requires.not_worn
    (marks_of c.reserve_all.new.self) c.in_ok-reserve_all.ensures.same)

pub returns-clause-never_issued : goal.returns-clause-never_issued
returns-clause-never_issued g c =
    rw c.give_next-generation.ensures.next
    (next_is_fresh c.self.invariant c.args.self.now c.self.view_is c.args.slot c.ranges.slot.fits c.requires.not_live c.requires.not_worn
    (marks_of c.reserve_all.new.self) c.in_ok-reserve_all.ensures.same)

pub returns-clause-legal : goal.returns-clause-legal
returns-clause-legal g c = (invariant_of-self-2 g c).follows.legal

pub returns-clause-of_class : goal.returns-clause-of_class
returns-clause-of_class g c = (invariant_of-self-2 g c).of_class
