use Rattle.std.proofs.Common.{ap, arith}
use Rattle.pool.specs.Groups.{GroupsState}
use Rattle.pool.proofs.Started.{IsSound-none}
use Rattle.groups.specs.Directory.{DirectoryState}
use Rattle.groups.proofs.GuestDirectory.{IsDirectory-none}
use Rattle.pool.proofs.stock.Stock.new.Goals as goal

pub invariant_of-result : goal.invariant_of-result
invariant_of-result g c = record {
  sound = rw c.new.ensures (IsSound-none c.args.has_plan);
  room_for_groups = omega arith;
  guests_known = IsDirectory-none _ _ c.new.result.groups _ (ap (λ (s : GroupsState). s.groups) c.new.ensures) (ap (λ (d : DirectoryState). d.entries) c.new-2.ensures);
  room_for_entries = omega arith;
}
