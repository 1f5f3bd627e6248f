use Rattle.std.proofs.Common.{◌≡◌, ◌∙◌, ◌<◌, List, Some, ap, arith, length, length-set, set, slice_get, subst, sym}
use Rattle.std.specs.FinMap as table
use Rattle.span.specs.Ids.{rank}
use Rattle.groups.specs.Group.{spans_of}
use Rattle.groups.specs.Pages.{set_group}
use Rattle.groups.specs.Sound.{IsSoundGroup}
use Rattle.groups.proofs.Lists.{set-same, there_at}
use Rattle.pool.specs.Groups.{GroupsState, HasHeadAt}
use Rattle.pool.specs.Ranked.{in_order}
use Rattle.pool.specs.State.{PooledState}
use Rattle.std.proofs.lemmas.Result.{IfOk-weaker, on_err_weaker}
use Rattle.pool.proofs.Cases.{on_false, on_true}
use Rattle.pool.proofs.KeptTable.{AreKept-set}
use Rattle.groups.specs.Least.{IsLeast}
use Rattle.groups.proofs.KnownLeast.{KnowsLeast-set}
use Rattle.pool.proofs.LeastLive.{live-set}
use Rattle.pool.proofs.RankedGroups.{found_within, has_place}
use Rattle.pool.proofs.ReadGroup.{IsRead, IsRead-found}
use Rattle.pool.proofs.SetPlace.{head-set, paged-set}
use Rattle.pool.proofs.group_table.GroupTable.set.Goals as goal
use Rattle.pool.proofs.group_table.GroupTable.set.Goals.{After-index_mut, After-set}

pub unreachable-requires : goal.unreachable-requires
unreachable-requires g c = has_place c.self.inside.row.items (table.get c.self.inside.places.entries) c.self.invariant.kept.found c.args.head c.requires.0
    (subst (λ (s : GroupsState). HasHeadAt s.groups c.args.head c.requires.0) (sym c.self.view_is) c.requires.1) (sym c.place_of.ensures ∙ c.in_default.is)

pub index_mut-requires : goal.index_mut-requires
index_mut-requires g c = omega (
  arith,
  found_within c.self.inside.row.items (table.get c.self.inside.places.entries) c.self.invariant.kept.found (rank c.args.head) c.in-Some.at (sym c.place_of.ensures ∙ c.in-Some.is),
  c.self.inside.row.ok.0,
)

its : (g : _) (c : After-index_mut g) → IsRead c.self.inside.row.items c.args.head c.in-Some.at c.index_mut.result.now c.self.inside.room c.args.self.now
its g c = IsRead-found c.self.inside.row.items (table.get c.self.inside.places.entries) c.self.invariant.kept.found c.args.head c.in-Some.at (sym c.place_of.ensures ∙ c.in-Some.is)
    c.index_mut.result.now c.index_mut.ensures.value c.self.inside.room c.args.self.now c.self.view_is

one : (g : _) (c : After-index_mut g) → c.requires.0 ≡ c.index_mut.result.now
one g c = (its g c).one c.requires.1.0 c.requires.0 c.requires.1.1

pub set-requires-clause-place : goal.set-requires-clause-place
set-requires-clause-place g c = subst (λ (x : PooledState). c.args.place < length (spans_of x)) (one g c) c.requires.2

pub set-requires-clause-sound : goal.set-requires-clause-sound
set-requires-clause-sound g c = subst IsSoundGroup (one g c) c.requires.3

pub invariant_of-self : goal.invariant_of-self
invariant_of-self g c =
    let read = c.index_mut.result.now in
    let span = there_at (spans_of read) c.args.place (subst (λ (x : PooledState). c.args.place < length (spans_of x)) (one g (goal.at.invariant_of-self g c).After-index_mut) c.requires.2) in
    record {
      kept = AreKept-set c.self.inside.row.items _ (table.get c.self.inside.places.entries) _ c.self.inside.paged c.self.inside.room c.self.invariant.kept c.in-Some.at read c.set.new.self (its g (goal.at.invariant_of-self g c).After-index_mut).there
          (head-set read c.args.place span.0 span.1 c.args.slot c.args.generation c.args.words.now c.set.result c.set.new.self
          (c.set.ensures.set span.0 span.1) c.set.ensures.unknown c.set.ensures.err)
          (paged-set read (subst IsSoundGroup (one g (goal.at.invariant_of-self g c).After-index_mut) c.requires.3) c.args.place span.0 span.1 c.args.slot c.args.generation c.args.words.now c.set.result c.set.new.self
          (c.set.ensures.found span.0 span.1) c.set.ensures.unknown c.set.ensures.err);
      few = omega (arith, c.self.invariant.few, length-set c.self.inside.row.items c.in-Some.at c.set.new.self);
      known = KnowsLeast-set IsLeast c.self.inside.row.items c.self.inside.least.items c.self.invariant.known c.in-Some.at read c.set.new.self
          (its g (goal.at.invariant_of-self g c).After-index_mut).there
          (λ byte had. omega (
            arith,
            had,
            live-set read (subst IsSoundGroup (one g (goal.at.invariant_of-self g c).After-index_mut) c.requires.3) c.args.place span.0 span.1 c.args.slot c.args.generation
                c.args.words.now c.set.result c.set.new.self (c.set.ensures.found span.0 span.1) (c.set.ensures.set span.0 span.1) c.set.ensures.unknown c.set.ensures.err,
          ));
      bytes = omega (arith, c.self.invariant.bytes, length-set c.self.inside.row.items c.in-Some.at c.set.new.self);
      in_bytes = omega (arith, c.self.invariant.in_bytes, length-set c.self.inside.row.items c.in-Some.at c.set.new.self);
    }

pub returns-clause-found : goal.returns-clause-found
returns-clause-found g c index group span is here =
    c.set.ensures.found span (subst (λ (x : PooledState). slice_get (spans_of x) c.args.place ≡ Some span) ((its g (goal.at.returns-clause-found g c).After-index_mut).one index group is) here)

pub returns-clause-refused : goal.returns-clause-refused
returns-clause-refused g c index group span is here =
    c.set.ensures.refused span (subst (λ (x : PooledState). slice_get (spans_of x) c.args.place ≡ Some span) ((its g (goal.at.returns-clause-refused g c).After-index_mut).one index group is) here)

pub returns-clause-set : goal.returns-clause-set
returns-clause-set g c index group span is here =
    let same = (its g (goal.at.returns-clause-set g c).After-index_mut).one index group is in
    let at_read = subst (λ (x : PooledState). slice_get (spans_of x) c.args.place ≡ Some span) same here in
    let sets = c.set.ensures.set span at_read in
    let head = head-set c.index_mut.result.now c.args.place span at_read c.args.slot c.args.generation c.args.words.now c.set.result c.set.new.self
    sets c.set.ensures.unknown c.set.ensures.err in
    IfOk-weaker c.set.result _ _ (λ done. on_true done (λ is_set.
    (its g (goal.at.returns-clause-set g c).After-index_mut).changed index group c.set.new.self is head
    ∙ ap (λ (x : PooledState). record c.args.self.now { groups = set c.args.self.now.groups index x })
    (is_set ∙ ap (λ (x : PooledState). set_group x c.args.place span c.args.slot c.args.generation c.args.words.now) (sym same))))
    sets

-- where the group stays as it was, all does
stays : (g : _) (c : After-set g) → slice_get c.self.inside.row.items c.in-Some.at ≡ Some c.index_mut.result.now → c.set.new.self ≡ c.index_mut.result.now
    → record { groups = in_order (set c.self.inside.row.items c.in-Some.at c.set.new.self); room = c.self.inside.room } ≡ c.args.self.now
stays g c here same =
    ap (λ (gs : List PooledState). record { groups = in_order gs; room = c.self.inside.room })
    (ap (set c.self.inside.row.items c.in-Some.at) same ∙ set-same c.self.inside.row.items c.in-Some.at c.index_mut.result.now here)
    ∙ c.self.view_is

pub returns-clause-unknown : goal.returns-clause-unknown
returns-clause-unknown g c = IfOk-weaker c.set.result _ _ (λ done. on_false done (stays g (goal.at.returns-clause-unknown g c).After-set (its g (goal.at.returns-clause-unknown g c).After-index_mut).there)) c.set.ensures.unknown

pub returns-clause-err : goal.returns-clause-err
returns-clause-err g c = on_err_weaker c.set.result (stays g (goal.at.returns-clause-err g c).After-set (its g (goal.at.returns-clause-err g c).After-index_mut).there) c.set.ensures.err
