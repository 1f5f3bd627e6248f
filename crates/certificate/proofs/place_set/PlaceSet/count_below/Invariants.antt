use Rattle.std.proofs.Common.{◌≡◌, ◌≤◌, count_by}
use Rattle.std.specs.List.{range_with_len}
use Rattle.bitmap.specs.Slots.{has_bit}
use Rattle.certificate.proofs.place_set.PlaceSet.count_below.Given as goal

abbrev pub invariant-loop-place : goal.invariant-loop-place
invariant-loop-place l = record { counted : l.count ≡ count_by (has_bit l.self.words) (range_with_len 0 l.place); at_most : l.count ≤ l.place }
