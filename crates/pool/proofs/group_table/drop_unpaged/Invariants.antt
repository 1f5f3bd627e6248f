use Rattle.std.proofs.Common.{◌≡◌, ◌≤◌, ◌-◌, length, vec_capacity}
use Rattle.std.specs.FinMap as table
use Rattle.pool.specs.Ranked.{AreFound}
use Rattle.pool.proofs.ForgottenGroups.{IsDropping}
use Rattle.pool.proofs.group_table.drop_unpaged.Given as goal

abbrev pub invariant-loop-place : goal.invariant-loop-place
invariant-loop-place g l = record {
  dropping : IsDropping l.fn.groups.items l.groups.items l.place;
  found : AreFound l.groups.items (table.get l.places.entries);
  fewer : length l.groups.items ≤ length l.fn.groups.items;
  capacity : vec_capacity l.groups ≡ vec_capacity l.fn.groups;
  spare : l.fn.places.room ≤ l.places.room;
}

abbrev pub decreases-loop-place : goal.decreases-loop-place
decreases-loop-place g l = length l.groups.items - l.place
