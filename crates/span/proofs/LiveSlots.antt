-- The live slots of a log of a class, and of marks that follow it.
use Rattle.std.proofs.Common.{◌≡◌, ◌<◌, ◌≤◌, ℕ, true, List, length, length-set, Option, Some, None, slice_set, is_some, ap, sym, subst, ◌∙◌, refl, eq-eqb, arith, rules}
use Rattle.std.specs.FinMap as map
use Rattle.std.specs.FinSet.{contains, empty, len, empty_of_len}
use Rattle.std.proofs.lemmas.Bool.{false_from_ne_true}
use Rattle.bitmap.specs.Slots.{IsBelow, slots_where}
use Rattle.bitmap.specs.declared.bits.TheConstants.{SLOTS}
use Rattle.span.specs.Kept.{Follows}
use Rattle.span.specs.Log.{Held, IsOfClass, live_slots, replay}
use Rattle.span.specs.Marks.{FitInto, HasNoLiveFrom, IsFirstLiveFrom, is_live_at, marks_of}
use Rattle.span.specs.Order.{HasNoMemberFrom, IsLowestFrom}
use Rattle.span.specs.declared.change.Change.{Change}
use Rattle.span.specs.declared.class.Class.{Class}
use Rattle.span.specs.declared.marks.Marks.{Marks}
use Rattle.span.proofs.Keeping.{live-at}
use Rattle.span.proofs.OfClass.{Fits-replay}
use Rattle.span.proofs.Slots.{contains-live_slots}
use Rattle.span.proofs.SlotsWhere.{len-slots_where-le, slots_where-below, slots_where-same}
use Rattle.span.proofs.Widths.{slots_in-most}

-- a live slot is one of a page
pub IsBelow-live : (class : Class) (log : List Change) → IsOfClass class log → IsBelow (live_slots log) SLOTS
IsBelow-live class log of_class slot inside = there (map.get (replay log) slot) refl (sym (contains-live_slots log slot) ∙ inside)
  where
    there : (o : Option Held) → map.get (replay log) slot ≡ o → is_some o ≡ true → slot < SLOTS
    there None e h = absurd cc
    there (Some held) e h = omega (arith, (Fits-replay class log of_class slot held e).0, slots_in-most class)

pub len-live-most : (class : Class) (log : List Change) → IsOfClass class log → len (live_slots log) ≤ SLOTS
len-live-most class log of_class =
    subst (λ s. len s ≤ SLOTS) (slots_where-below (live_slots log) SLOTS (IsBelow-live class log of_class)) (len-slots_where-le (contains (live_slots log)) SLOTS)

-- no more slots have a mark than a page has
pub few-marks : (class : Class) (marks : Marks) → FitInto class marks → length (marks_of marks) ≤ SLOTS
few-marks class marks fit = omega (arith, fit, slots_in-most class)

-- another mark takes no other place
pub FitInto-set : (class : Class) (before after : Marks) (slot mark : ℕ) → FitInto class before → marks_of after ≡ slice_set (marks_of before) slot mark → FitInto class after
FitInto-set class before after slot mark fit given = omega (arith, fit, ap (λ (marks : List ℕ). length marks) given, length-set (marks_of before) slot mark)

module _ (class : Class) (gens : ℕ) (log : List Change) (marks : List ℕ) (of_class : IsOfClass class log) (follows : Follows gens log marks) where
  -- the slots with a mark of a live one are the live ones
  pub live-are : slots_where (is_live_at marks) SLOTS ≡ live_slots log
  live-are = slots_where-same (is_live_at marks) (contains (live_slots log)) SLOTS follows.live_is ∙ slots_where-below (live_slots log) SLOTS (IsBelow-live class log of_class)

  pub none-live : (from : ℕ) → HasNoLiveFrom marks from → HasNoMemberFrom (live_slots log) from
  none-live from none slot above = false_from_ne_true (contains (live_slots log) slot) (λ inside.
      absurd (omega (arith, none slot above, live-at gens log marks follows slot (IsBelow-live class log of_class slot inside) inside)))

  pub first-live : (from slot : ℕ) → slot < SLOTS → IsFirstLiveFrom marks from slot → IsLowestFrom (live_slots log) from slot
  first-live from slot small first = search (rules, eq-eqb, live-at)

-- where none is counted, none is live
pub live-none : (log : List Change) → len (live_slots log) ≡ 0 → live_slots log ≡ empty
live-none log none = empty_of_len (live_slots log) none
