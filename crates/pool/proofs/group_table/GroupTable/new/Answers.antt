use Rattle.std.proofs.Common.{List, ap, arith, length, slice_get, subst, sym, ◌∙◌, ℕ}
use Rattle.std.specs.FinMap as table
use Rattle.std.specs.Ordering.{nat_cmp}
use Rattle.groups.specs.LateTable.{TableState}
use Rattle.groups.specs.Least.{IsLeast, KnowsLeast}
use Rattle.pool.specs.Ranked.{AreFound}
use Rattle.pool.specs.State.{PooledState}
use Rattle.groups.proofs.KnownLeast.{KnowsLeast-no_groups}
use Rattle.pool.proofs.RankedGroups.{AreFound-none}
use Rattle.pool.proofs.group_table.GroupTable.new.Goals as goal

pub invariant_of-result : goal.invariant_of-result
invariant_of-result g c =
    let none = ap (λ (gs : List PooledState). length gs) c.new.ensures.items in
    let no_rank = ap (λ (ns : List ℕ). length ns) c.new-4.ensures in
    record {
      kept = record {
        found = subst (λ (gs : List PooledState). AreFound gs (table.get c.new-3.result.entries)) (sym c.new.ensures.items)
            (AreFound-none (table.get c.new-3.result.entries) (λ number. ap (λ (t : TableState ℕ). table.get t.entries number) c.new-3.ensures ∙ table.get-empty nat_cmp number));
        noted = λ index group there paged. absurd (let e = ap (λ gs. slice_get gs index) (sym c.new.ensures.items) ∙ there in cc);
        in_row = omega (arith, none);
        in_table = omega arith;
        in_heap = omega (arith, no_rank);
        all_in_heap = omega (arith, none);
      };
      few = omega (arith, none, no_rank);
      known = subst (λ (gs : List PooledState). KnowsLeast IsLeast gs c.new-2.result.items) (sym c.new.ensures.items) (KnowsLeast-no_groups IsLeast c.new-2.result.items);
      bytes = omega (arith, none, ap (λ (ns : List ℕ). length ns) c.new-2.ensures.items);
      in_bytes = omega (arith, none);
    }
