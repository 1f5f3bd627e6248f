use Rattle.std.proofs.Common.{List, ap, arith, length, subst, sym, ℕ}
use Rattle.std.specs.FinMap as table
use Rattle.std.specs.Ordering.{nat_cmp}
use Rattle.pool.specs.Noted.{AreNoted}
use Rattle.pool.specs.Ranked.{AreFound}
use Rattle.pool.specs.State.{PooledState}
use Rattle.pool.proofs.RankedGroups.{AreFound-same}
use Rattle.pool.proofs.group_table.tidy.Goals as goal

pub returns-clause-kept : goal.returns-clause-kept
returns-clause-kept g c =
    let same = c.give_back.ensures.same in
    let ranks = ap (λ (ns : List ℕ). length ns) c.give_back-2.ensures.same in
    let read = ap (λ (gs : List PooledState). length gs) c.as_slice.ensures.value in
    let long = ap (λ (gs : List PooledState). length gs) same in
    record {
      found = subst (λ (gs : List PooledState). AreFound gs (table.get c.give_back.new.places.entries)) (sym same)
          (AreFound-same c.args.row.now.items (table.get c.args.places.now.entries) (table.get c.give_back.new.places.entries) (λ number. ap (λ (es : table.FinMap nat_cmp ℕ). table.get es number) c.give_back.ensures.entries) c.requires.found);
      noted = subst (AreNoted c.give_back.new.groups.items) (sym c.give_back-2.ensures.same)
          (subst (λ (gs : List PooledState). AreNoted gs c.renew.new.paged.ranks) c.as_slice.ensures.value c.renew.ensures.noted);
      in_row = c.give_back.ensures.room;
      in_table = c.give_back.ensures.spare;
      in_heap = omega (arith, ranks, c.give_back-2.ensures.room, c.max-used.ensures, c.len.ensures, c.len-2.ensures);
      all_in_heap = omega (arith, c.give_back-2.ensures.room, c.max-used.ensures, c.len.ensures, c.len-2.ensures, c.give_back.new.groups.ok.0);
    }
