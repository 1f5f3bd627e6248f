use Rattle.std.proofs.Common.{◌≡◌, ◌∙◌, ◌<◌, List, Some, ap, arith, length, length-set, refl, set, slice_get, subst, sym}
use Rattle.std.specs.FinMap as table
use Rattle.std.proofs.lemmas.Option.{slice_get_read}
use Rattle.span.specs.Ids.{rank}
use Rattle.groups.specs.Group.{spans_of, with_span}
use Rattle.groups.specs.Spans.{with_free_at}
use Rattle.groups.proofs.Lists.{get-set, same_some, set-same, there_at}
use Rattle.pool.specs.Calls.{GivesUp}
use Rattle.pool.specs.Groups.{GroupsState, HasHeadAt}
use Rattle.pool.specs.Ranked.{in_order}
use Rattle.pool.specs.State.{PooledState}
use Rattle.pool.proofs.Cases.{on_false, on_true}
use Rattle.pool.proofs.FreedPlace.{head-free, paged-free}
use Rattle.pool.proofs.KeptTable.{AreKept-set}
use Rattle.groups.specs.Least.{IsLeast}
use Rattle.groups.proofs.KnownLeast.{KnowsLeast-noted}
use Rattle.pool.proofs.RankedGroups.{found_within, has_place}
use Rattle.pool.proofs.ReadGroup.{IsRead, IsRead-found}
use Rattle.pool.proofs.group_table.GroupTable.free.Goals as goal
use Rattle.pool.proofs.group_table.GroupTable.free.Goals.{After-index_mut}

pub unreachable-requires : goal.unreachable-requires
unreachable-requires g c = has_place c.self.inside.row.items (table.get c.self.inside.places.entries) c.self.invariant.kept.found c.args.head c.requires.0
    (subst (λ (s : GroupsState). HasHeadAt s.groups c.args.head c.requires.0) (sym c.self.view_is) c.requires.1) (sym c.place_of.ensures ∙ c.in_default.is)

pub index_mut-requires : goal.index_mut-requires
index_mut-requires g c = omega (
  arith,
  found_within c.self.inside.row.items (table.get c.self.inside.places.entries) c.self.invariant.kept.found (rank c.args.head) c.in-Some.at (sym c.place_of.ensures ∙ c.in-Some.is),
  c.self.inside.row.ok.0,
)

its : (g : _) (c : After-index_mut g) → IsRead c.self.inside.row.items c.args.head c.in-Some.at c.index_mut.result.now c.self.inside.room c.args.self.now
its g c = IsRead-found c.self.inside.row.items (table.get c.self.inside.places.entries) c.self.invariant.kept.found c.args.head c.in-Some.at (sym c.place_of.ensures ∙ c.in-Some.is)
    c.index_mut.result.now c.index_mut.ensures.value c.self.inside.room c.args.self.now c.self.view_is

one : (g : _) (c : After-index_mut g) → c.requires.0 ≡ c.index_mut.result.now
one g c = (its g c).one c.requires.1.0 c.requires.0 c.requires.1.1

pub free-freed-requires : goal.free-freed-requires
free-freed-requires g c = subst (λ (x : PooledState). c.args.place < length (spans_of x)) (one g c) c.requires.2

within : (g : _) (c : After-index_mut g) → c.in-Some.at < length c.self.inside.row.items
within g c = found_within c.self.inside.row.items (table.get c.self.inside.places.entries) c.self.invariant.kept.found (rank c.args.head) c.in-Some.at (sym c.place_of.ensures ∙ c.in-Some.is)

pub index-requires : goal.index-requires
index-requires g c = omega (arith, within g (goal.at.index-requires g c).After-index_mut, c.self.inside.row.ok.0)

pub index_mut-requires-2 : goal.index_mut-requires-2
index_mut-requires-2 g c = omega (arith, within g (goal.at.index_mut-requires-2 g c).After-index_mut, c.self.invariant.bytes, c.self.inside.least.ok.0)

pub invariant_of-self : goal.invariant_of-self
invariant_of-self g c =
    let read = c.index_mut.result.now in
    let span = there_at (spans_of read) c.args.place (subst (λ (x : PooledState). c.args.place < length (spans_of x)) (one g (goal.at.invariant_of-self g c).After-index_mut) c.requires.2) in
    let changed = with_free_at span.0 c.args.slot c.args.generation in
    let freed = c.free-freed.ensures.freed span.0 span.1 in
    let row = c.self.inside.row.items in
    let now = c.free-freed.new.self in
    let low : c.in-Some.at < length (set row c.in-Some.at now) = omega (arith, within g (goal.at.invariant_of-self g c).After-index_mut, length-set row c.in-Some.at now) in
    let read_now : c.index.result.now ≡ now =
    same_some (sym (slice_get_read (set row c.in-Some.at now) (length (set row c.in-Some.at now)) c.in-Some.at c.index.result.now refl low c.index.ensures)
    ∙ get-set row c.in-Some.at read now (its g (goal.at.invariant_of-self g c).After-index_mut).there) in
    let few : IsLeast c.byte_of_pooled.result now = subst (IsLeast c.byte_of_pooled.result) read_now c.byte_of_pooled.ensures in
    record {
      kept = AreKept-set c.self.inside.row.items _ (table.get c.self.inside.places.entries) _ c.self.inside.paged c.self.inside.room c.self.invariant.kept c.in-Some.at read c.free-freed.new.self (its g (goal.at.invariant_of-self g c).After-index_mut).there
          (head-free c.free-freed.result read c.free-freed.new.self c.args.place span.0 changed span.1 refl freed c.free-freed.ensures.unknown)
          (paged-free c.free-freed.result read c.free-freed.new.self c.args.place changed freed c.free-freed.ensures.unknown);
      few = omega (arith, c.self.invariant.few, length-set c.self.inside.row.items c.in-Some.at c.free-freed.new.self);
      known = KnowsLeast-noted IsLeast c.self.inside.row.items c.self.inside.least.items c.self.invariant.known c.in-Some.at c.byte_of_pooled.result c.free-freed.new.self few;
      bytes = omega (
        arith,
        c.self.invariant.bytes,
        length-set c.self.inside.least.items c.in-Some.at c.byte_of_pooled.result,
        length-set c.self.inside.row.items c.in-Some.at c.free-freed.new.self,
      );
      in_bytes = omega (arith, c.self.invariant.in_bytes, length-set c.self.inside.row.items c.in-Some.at c.free-freed.new.self);
    }

pub returns-clause-found : goal.returns-clause-found
returns-clause-found g c index group span is here =
    c.free-freed.ensures.found span (subst (λ (x : PooledState). slice_get (spans_of x) c.args.place ≡ Some span) ((its g (goal.at.returns-clause-found g c).After-index_mut).one index group is) here)

pub returns-clause-freed : goal.returns-clause-freed
returns-clause-freed g c index group span is here =
    let same = (its g (goal.at.returns-clause-freed g c).After-index_mut).one index group is in
    let changed = with_free_at span c.args.slot c.args.generation in
    let at_read = subst (λ (x : PooledState). slice_get (spans_of x) c.args.place ≡ Some span) same here in
    let freed = c.free-freed.ensures.freed span at_read in
    on_true c.free-freed.result (λ gives. (
      c.free-freed.new.self,
      subst (λ (x : PooledState). GivesUp (with_span x c.args.place changed) c.free-freed.new.self) (sym same) gives,
      (its g (goal.at.returns-clause-freed g c).After-index_mut).changed index group c.free-freed.new.self is
          (head-free c.free-freed.result c.index_mut.result.now c.free-freed.new.self c.args.place span changed at_read refl freed c.free-freed.ensures.unknown),
    )) freed

pub returns-clause-unknown : goal.returns-clause-unknown
returns-clause-unknown g c = on_false c.free-freed.result (λ stays.
    ap (λ (gs : List PooledState). record { groups = in_order gs; room = c.self.inside.room })
    (ap (set c.self.inside.row.items c.in-Some.at) stays ∙ set-same c.self.inside.row.items c.in-Some.at c.index_mut.result.now (its g (goal.at.returns-clause-unknown g c).After-index_mut).there)
    ∙ c.self.view_is)
    c.free-freed.ensures.unknown
