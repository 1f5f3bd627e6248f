use Rattle.std.proofs.Common.{◌≡◌, ◌∙◌, ◌-◌, IfOk, List, ap, arith, length, min, refl, subst, sym, vec_capacity}
use Rattle.std.specs.FinMap as table
use Rattle.pool.specs.Groups.{GroupsState}
use Rattle.pool.specs.State.{PooledState}
use Rattle.pool.proofs.KeptTable.{AreKept-same}
use Rattle.pool.proofs.RankedGroups.{length-row}
use Rattle.pool.proofs.group_table.GroupTable.gather.Goals as goal

pub invariant_of-self : goal.invariant_of-self
invariant_of-self g c =
    let kept = c.self.invariant.kept in
    let many = ap (λ (gs : List PooledState). length gs) c.gather_some.ensures.items in
    record {
      kept = AreKept-same c.self.inside.row.items (vec_capacity c.self.inside.row) (table.get c.self.inside.places.entries) (c.self.inside.places.room) c.self.inside.paged c.self.inside.room kept
          c.gather_some.new.row.items c.gather_some.ensures.items (table.get c.self.inside.places.entries) (λ number. refl) c.self.inside.paged refl
          (vec_capacity c.gather_some.new.row) (c.self.inside.places.room) c.self.inside.room
          (omega (arith, kept.in_row, c.gather_some.ensures.capacity)) kept.in_table kept.in_heap kept.all_in_heap;
      few = omega (arith, many, c.self.invariant.few);
      known = rw c.gather_some.ensures.items c.self.invariant.known;
      bytes = omega (arith, c.self.invariant.bytes, many);
      in_bytes = omega (arith, c.self.invariant.in_bytes, many);
    }

pub returns-clause-count : goal.returns-clause-count
returns-clause-count g c =
    let many = length-row c.self.inside.row.items ∙ ap (λ (s : GroupsState). length s.groups) c.self.view_is in
    subst (λ count. IfOk c.gather_some.result (λ found. found ≡ min c.args.most (count - c.args.from))) many c.gather_some.ensures.count
