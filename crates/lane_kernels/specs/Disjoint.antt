-- Which sets of a list a set is disjoint from.
use Rattle.std.specs.Prelude.{◌==◌, Bool, false, Option, Some, None}
use Rattle.std.specs.FinSet.{intersection, len}
use Rattle.bitmap.specs.Slots.{SlotSet}

-- whether no slot is in both
abbrev pub are_disjoint : SlotSet → SlotSet → Bool
are_disjoint a b = len (intersection a b) == 0

-- whether a set is disjoint from another, where there is one
abbrev pub fits : SlotSet → Option SlotSet → Bool
fits a None = false
fits a (Some b) = are_disjoint a b
