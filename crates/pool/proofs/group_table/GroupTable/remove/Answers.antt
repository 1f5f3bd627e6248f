use Rattle.std.proofs.Common.{◌≡◌, ◌<◌, ◌∙◌, ℕ, List, Some, ap, arith, length, refl, subst, sym}
use Rattle.std.specs.FinMap as table
use Rattle.std.proofs.lemmas.Option.{slice_get_read}
use Rattle.span.specs.Ids.{rank}
use Rattle.span.specs.declared.id.SpanId.{SpanId}
use Rattle.groups.specs.Group.{HasNoHead, IsHeadOf}
use Rattle.pool.specs.Groups.{GroupsState, Removes}
use Rattle.pool.specs.Ranked.{in_order}
use Rattle.pool.specs.State.{PooledState}
use Rattle.pool.proofs.LeastLive.{KnowsLeast-swap, length-swap}
use Rattle.pool.proofs.NotedRanks.{AreNoted-stood}
use Rattle.pool.proofs.RankedGroups.{HasNoHead-found, found_within, head_found, in_order-left}
use Rattle.pool.proofs.group_table.GroupTable.remove.Goals as goal

pub returns-in_default : goal.returns-in_default
returns-in_default g c = (
  subst (λ (s : GroupsState). HasNoHead s.groups c.args.head) c.self.view_is
      (HasNoHead-found c.self.inside.row.items (table.get c.self.inside.places.entries) c.self.invariant.kept.found c.args.head (sym c.place_of.ensures ∙ c.in_default.is)),
  refl,
)

pub let_go-group-requires-clause-within : goal.let_go-group-requires-clause-within
let_go-group-requires-clause-within g c =
    found_within c.self.inside.row.items (table.get c.self.inside.places.entries) c.self.invariant.kept.found (rank c.args.head) c.in-Some.place (sym c.place_of.ensures ∙ c.in-Some.is)

pub swap_remove-requires : goal.swap_remove-requires
swap_remove-requires g c = omega (
  arith,
  found_within c.self.inside.row.items (table.get c.self.inside.places.entries) c.self.invariant.kept.found (rank c.args.head) c.in-Some.place (sym c.place_of.ensures ∙ c.in-Some.is),
  c.self.invariant.bytes,
  c.self.inside.least.ok.0,
)

pub tidy-requires : goal.tidy-requires
tidy-requires g c = record {
  found = c.let_go-group.ensures.found;
  noted = AreNoted-stood c.self.inside.row.items c.let_go-group.new.groups.items (λ now group there. let was = c.let_go-group.ensures.left.stood now group there in (was.0, was.2))
      c.self.inside.paged.ranks c.self.invariant.kept.noted;
  in_row = omega (arith, c.self.invariant.kept.in_row, c.let_go-group.ensures.fewer, c.let_go-group.ensures.capacity);
  in_table = omega (arith, c.self.invariant.kept.in_table, c.let_go-group.ensures.spare);
  in_heap = c.self.invariant.kept.in_heap;
  all_in_heap = omega (arith, c.self.invariant.kept.all_in_heap, c.let_go-group.ensures.fewer);
}

pub invariant_of-self : goal.invariant_of-self
invariant_of-self g c =
    let row = c.self.inside.row.items in
    let low : c.in-Some.place < length c.self.inside.least.items = omega (
      arith,
      found_within row (table.get c.self.inside.places.entries) c.self.invariant.kept.found (rank c.args.head) c.in-Some.place (sym c.place_of.ensures ∙ c.in-Some.is),
      c.self.invariant.bytes,
    ) in
    let its_byte = slice_get_read c.self.inside.least.items (length c.self.inside.least.items) c.in-Some.place c.swap_remove.result refl low c.swap_remove.ensures.value in
    let as_many : length c.give_back_bytes.new.least.items ≡ length c.tidy.new.row.items = omega (
      arith,
      length-swap row c.self.inside.least.items c.self.invariant.known c.in-Some.place c.let_go-group.result c.swap_remove.result c.self.invariant.bytes c.let_go-group.ensures.gone,
      ap (λ (ns : List ℕ). length ns) c.give_back_bytes.ensures.same,
      ap (λ (ns : List ℕ). length ns) c.swap_remove.ensures.items,
      ap (λ (gs : List PooledState). length gs) c.tidy.ensures.same,
      ap (λ (gs : List PooledState). length gs) c.let_go-group.ensures.swapped,
    ) in
    record {
      kept = c.tidy.ensures.kept;
      few = c.tidy.ensures.few;
      known = rw (c.tidy.ensures.same, c.give_back_bytes.ensures.same, c.let_go-group.ensures.swapped, c.swap_remove.ensures.items)
          (KnowsLeast-swap row c.self.inside.least.items c.self.invariant.known c.in-Some.place c.let_go-group.result c.swap_remove.result c.self.invariant.bytes
          c.let_go-group.ensures.gone its_byte);
      bytes = as_many;
      in_bytes = omega (arith, c.give_back_bytes.ensures.room, as_many);
    }

pub returns : goal.returns
returns g c =
    let row = c.self.inside.row.items in
    let place_of = table.get c.self.inside.places.entries in
    let found = c.self.invariant.kept.found in
    let left = in_order-left row place_of found c.in-Some.place c.let_go-group.result c.let_go-group.ensures.gone
    c.let_go-group.new.groups.items c.let_go-group.ensures.left (table.get c.let_go-group.new.places.entries) c.let_go-group.ensures.found in
    let head = head_found row place_of found c.args.head c.in-Some.place (sym c.place_of.ensures ∙ c.in-Some.is) c.let_go-group.result c.let_go-group.ensures.gone in
    subst (λ (s : GroupsState). Removes s c.args.head (Some c.let_go-group.result) (record { groups = in_order c.tidy.new.row.items; room = c.self.inside.room })) c.self.view_is (
      left.0,
      subst (λ (id : SpanId). IsHeadOf (in_order row) id left.0 c.let_go-group.result) head left.1,
      ap (λ (gs : List PooledState). record { groups = in_order gs; room = c.self.inside.room }) c.tidy.ensures.same ∙ ap (λ gs. record { groups = gs; room = c.self.inside.room }) left.2,
    )
