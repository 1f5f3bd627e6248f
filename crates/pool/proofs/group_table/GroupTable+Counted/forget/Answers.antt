use Rattle.std.proofs.Common.{◌≡◌, ◌∙◌, ℕ, List, ap, arith, length, subst, sym}
use Rattle.std.specs.FinMap as table
use Rattle.std.proofs.lemmas.List.{length-map}
use Rattle.groups.specs.Dead.{without_dead}
use Rattle.groups.specs.Directory.{KnowsGuests}
use Rattle.groups.specs.Sound.{AreSoundGroups}
use Rattle.pool.specs.Forgets.{left_in}
use Rattle.pool.specs.Groups.{GroupsState}
use Rattle.pool.specs.Noted.{AreNoted}
use Rattle.groups.specs.Group.{HaveGuestsOnce}
use Rattle.pool.specs.Ranked.{AreFound, KeepsPaged, in_order}
use Rattle.pool.specs.State.{PooledState}
use Rattle.pool.proofs.ForgottenGroups.{AreFound-without_dead, AreNoted-without_dead, HaveGuestsOnce-row, HaveOwnHeads-found, KnowsGuests-in_order, KnowsGuests-left, KnowsGuests-row, in_order-left_in, in_order-without_dead}
use Rattle.pool.proofs.NotedRanks.{AreNoted-stood}
use Rattle.pool.proofs.group_table.GroupTable+Counted.forget.Goals as goal

pub forget_all-requires-clause-known : goal.forget_all-requires-clause-known
forget_all-requires-clause-known c = KnowsGuests-row c.self.inside.row.items c.args.directory.now.entries
    (subst (λ (s : GroupsState). KnowsGuests s.groups c.args.directory.now.entries) (sym c.self.view_is) c.requires.known)

pub forget_all-requires-clause-heads : goal.forget_all-requires-clause-heads
forget_all-requires-clause-heads c = HaveOwnHeads-found c.self.inside.row.items (table.get c.self.inside.places.entries) c.self.invariant.kept.found

pub forget_all-requires-clause-once : goal.forget_all-requires-clause-once
forget_all-requires-clause-once c = HaveGuestsOnce-row c.self.inside.row.items (subst (λ (s : GroupsState). HaveGuestsOnce s.groups) (sym c.self.view_is) c.requires.once)

pub drop_unpaged-requires : goal.drop_unpaged-requires
drop_unpaged-requires c = subst (λ (gs : List PooledState). AreFound gs (table.get c.self.inside.places.entries)) (sym c.forget_all.ensures.items)
    (AreFound-without_dead c.self.inside.row.items (table.get c.self.inside.places.entries) c.self.invariant.kept.found)

pub tidy-requires : goal.tidy-requires
tidy-requires c =
    let row = c.self.inside.row.items in
    let fewer = c.drop_unpaged.ensures.fewer in
    let long = ap (λ (gs : List PooledState). length gs) c.forget_all.ensures.items in
    let as_many = length-map row (without_dead {Closed = _}) in
    record {
      found = c.drop_unpaged.ensures.found;
      noted = AreNoted-stood c.forget_all.new.groups.items c.drop_unpaged.new.groups.items c.drop_unpaged.ensures.left.stood c.self.inside.paged.ranks
          (subst (λ (gs : List PooledState). AreNoted gs c.self.inside.paged.ranks) (sym c.forget_all.ensures.items)
          (AreNoted-without_dead row c.self.inside.paged.ranks c.self.invariant.kept.noted));
      in_row = omega (arith, c.self.invariant.kept.in_row, fewer, long, as_many, c.forget_all.ensures.capacity, c.drop_unpaged.ensures.capacity);
      in_table = omega (arith, c.self.invariant.kept.in_table, c.drop_unpaged.ensures.spare);
      in_heap = c.self.invariant.kept.in_heap;
      all_in_heap = omega (arith, c.self.invariant.kept.all_in_heap, fewer, long, as_many);
    }

-- each group that is left has a byte
as_many : (c : goal.After-give_back_bytes) → length c.give_back_bytes.new.least.items ≡ length c.tidy.new.row.items
as_many c = ap (λ (ns : List ℕ). length ns) c.give_back_bytes.ensures.same ∙ c.note_bytes.ensures.len ∙ ap (λ (gs : List PooledState). length gs) c.as_slice.ensures.value

pub invariant_of-self : goal.invariant_of-self
invariant_of-self c = record {
  kept = c.tidy.ensures.kept;
  few = c.tidy.ensures.few;
  known = rw (c.give_back_bytes.ensures.same, ← c.as_slice.ensures.value) c.note_bytes.ensures.known;
  bytes = as_many c;
  in_bytes = omega (arith, c.give_back_bytes.ensures.room, as_many c);
}

-- the groups that are left
left : (c : goal.After-give_back_bytes) → in_order c.tidy.new.row.items ≡ left_in (in_order c.self.inside.row.items)
left c = ap in_order c.tidy.ensures.same
    ∙ in_order-left_in c.self.inside.row.items (table.get c.self.inside.places.entries) c.self.invariant.kept.found c.drop_unpaged.new.groups.items
    (table.get c.drop_unpaged.new.places.entries) c.drop_unpaged.ensures.found
    (subst (λ (gs : List PooledState). KeepsPaged gs c.drop_unpaged.new.groups.items) c.forget_all.ensures.items c.drop_unpaged.ensures.left)

pub returns-clause-groups : goal.returns-clause-groups
returns-clause-groups c = ap (λ (gs : List PooledState). record { groups = gs; room = c.self.inside.room }) (left c) ∙ ap (λ (s : GroupsState). record s { groups = left_in s.groups }) c.self.view_is

pub returns-clause-known : goal.returns-clause-known
returns-clause-known c =
    let row = c.self.inside.row.items in
    let entries = c.forget_all.new.directory.entries in
    subst (λ (gs : List PooledState). KnowsGuests gs entries) (sym (left c))
    (KnowsGuests-left (in_order row) entries (subst (λ (s : GroupsState). AreSoundGroups s.groups) (sym c.self.view_is) c.requires.sound)
    (subst (λ (gs : List PooledState). KnowsGuests gs entries) (ap in_order c.forget_all.ensures.items ∙ in_order-without_dead row)
    (KnowsGuests-in_order c.forget_all.new.groups.items entries c.forget_all.ensures.known)))
