use Rattle.std.proofs.Common.{◌∙◌, ◌<◌, arith, length, refl, sym}
use Rattle.std.proofs.lemmas.Option.{slice_get_read}
use Rattle.pool.proofs.ForgottenGroups.{IsDropping-gone, IsDropping-none, IsDropping-paged, KeepsPaged-all}
use Rattle.pool.proofs.group_table.drop_unpaged.Goals as goal

pub loop-place-init : goal.loop-place-init
loop-place-init g c = record {
  dropping = IsDropping-none c.args.groups.now.items;
  found = c.requires;
  fewer = omega arith;
  capacity = refl;
  spare = omega arith;
}

pub loop-place-preserved-then-is_paged : goal.loop-place-preserved-then-is_paged
loop-place-preserved-then-is_paged g c =
    let low : c.loop-place.place < length c.loop-place.groups.items = omega (arith, c.loop-place-test.true, c.len.ensures, c.loop-place.groups.ok.0) in
    let here = slice_get_read c.loop-place.groups.items _ c.loop-place.place c.index.result.now refl low c.index.ensures in
    record {
      dropping = IsDropping-paged c.args.groups.now.items c.loop-place.groups.items c.loop-place.place c.loop-place.invariant.dropping c.index.result.now here
          (sym c.is_paged.ensures ∙ c.if-is_paged.true);
      found = c.loop-place.invariant.found;
      fewer = c.loop-place.invariant.fewer;
      capacity = c.loop-place.invariant.capacity;
      spare = c.loop-place.invariant.spare;
    }

pub loop-place-smaller-then-is_paged : goal.loop-place-smaller-then-is_paged
loop-place-smaller-then-is_paged g c = omega (arith, c.loop-place-test.true, c.len.ensures, c.loop-place.groups.ok.0)

pub loop-place-smaller : goal.loop-place-smaller
loop-place-smaller g c = omega (arith, c.loop-place-test.true, c.len.ensures, c.loop-place.groups.ok.0, c.drop_at.ensures.fewer)

pub loop-place-preserved : goal.loop-place-preserved
loop-place-preserved g c =
    let low : c.loop-place.place < length c.loop-place.groups.items = omega (arith, c.loop-place-test.true, c.len.ensures, c.loop-place.groups.ok.0) in
    let here = slice_get_read c.loop-place.groups.items _ c.loop-place.place c.index.result.now refl low c.index.ensures in
    record {
      dropping = IsDropping-gone c.args.groups.now.items c.loop-place.groups.items c.loop-place.place c.loop-place.invariant.dropping c.index.result.now here
          (sym c.is_paged.ensures ∙ c.if-is_paged.false) c.drop_at.new.groups.items c.drop_at.ensures.left c.drop_at.ensures.lower;
      found = c.drop_at.ensures.found;
      fewer = omega (arith, c.loop-place.invariant.fewer, c.drop_at.ensures.fewer);
      capacity = c.drop_at.ensures.capacity ∙ c.loop-place.invariant.capacity;
      spare = omega (arith, c.loop-place.invariant.spare, c.drop_at.ensures.spare);
    }

pub returns-clause-left : goal.returns-clause-left
returns-clause-left g c = KeepsPaged-all c.args.groups.now.items c.loop-place.groups.items c.loop-place.place c.loop-place.invariant.dropping
    (omega (arith, c.loop-place-test.false, c.len.ensures, c.loop-place.groups.ok.0))
