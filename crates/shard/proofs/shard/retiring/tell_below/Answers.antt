use Rattle.std.proofs.Common.{◌≡◌, ◌+◌, [], Some, arith, length, refl, slice_get, subst, sym}
use Rattle.std.proofs.lemmas.Option.{slice_get_read}
use Rattle.groups.specs.Least.{HaveLeast}
use Rattle.shard.proofs.ToldBelow.{AreFirst-telling, IsLimit, IsTelling, IsTelling-none, IsTelling-passed, IsTelling-with, seen_at}
use Rattle.shard.proofs.shard.retiring.tell_below.Goals as goal
use Rattle.shard.proofs.shard.retiring.tell_below.Goals.{After-index-group, After-next_below-index}

pub loop-index-init : goal.loop-index-init
loop-index-init g c = record {
  within = omega arith;
  known = c.requires.known;
  len = refl;
  telling = subst (IsTelling c.args.bound c.args.most []) (sym c.new-told.ensures.items) (IsTelling-none c.args.bound c.args.most);
}

limit_is : (g : _) (c : After-next_below-index g) → IsLimit c.args.bound c.args.most (length c.loop-index.told.items) c.limit_of-limit.result
limit_is g c = record {
  few = λ few. c.limit_of-limit.ensures.few (omega (arith, few, c.len.ensures));
  many = λ many. c.limit_of-limit.ensures.many (omega (arith, many, c.len.ensures));
}

-- those up to the one that is found are left out
telling_there : (g : _) (c : After-next_below-index g) → IsTelling c.args.bound c.args.most (seen_at c.args.groups.now.items c.next_below-index.result) c.loop-index.told.items
telling_there g c =
    let bytes = c.loop-index.least.items in
    let passed : HaveLeast bytes c.limit_of-limit.result c.loop-index.index c.next_below-index.result =
    subst (λ ns. HaveLeast ns c.limit_of-limit.result c.loop-index.index c.next_below-index.result) c.as_slice.ensures.value c.next_below-index.ensures.passed in
    IsTelling-passed c.args.groups.now.items c.requires.ascend c.args.bound c.args.most c.loop-index.told.items c.limit_of-limit.result (limit_is g c) bytes
    c.loop-index.invariant.known c.requires.sound c.loop-index.index c.loop-index.invariant.telling c.next_below-index.result c.next_below-index.ensures.first
    (omega (arith, c.next_below-index.ensures.end, c.len-count.ensures))
    (omega (arith, c.next_below-index.ensures.end, c.len-count.ensures, c.requires.bytes, c.loop-index.invariant.len, c.loop-index.least.ok.0)) passed

group_here : (g : _) (c : After-index-group g) → slice_get c.args.groups.now.items c.next_below-index.result ≡ Some c.index-group.result.now
group_here g c = slice_get_read c.args.groups.now.items _ c.next_below-index.result c.index-group.result.now refl (omega (arith, c.if-index-count.true, c.len-count.ensures)) c.index-group.ensures

pub returns-in_err-tell_below_limit-clause-known : goal.returns-in_err-tell_below_limit-clause-known
returns-in_err-tell_below_limit-clause-known g c =
    c.note_byte.ensures.known c.args.groups.now.items (group_here g (goal.at.returns-in_err-tell_below_limit-clause-known g c).After-index-group) c.loop-index.invariant.known

pub loop-index-preserved-then-index-count : goal.loop-index-preserved-then-index-count
loop-index-preserved-then-index-count g c =
    let here = group_here g (goal.at.loop-index-preserved-then-index-count g c).After-index-group in
    let before = (goal.at.loop-index-preserved-then-index-count g c).After-next_below-index in
    let index = c.next_below-index.result in
    let told = c.loop-index.told.items in
    record {
      within = omega (arith, c.if-index-count.true);
      known = c.note_byte.ensures.known c.args.groups.now.items here c.loop-index.invariant.known;
      len = omega (arith, c.note_byte.ensures.len, c.loop-index.invariant.len);
      telling = subst (IsTelling c.args.bound c.args.most (seen_at c.args.groups.now.items (index + 1))) (sym (c.in_ok-tell_below_limit.ensures {u = tt}))
          (IsTelling-with c.args.groups.now.items c.requires.ascend c.args.bound c.args.most told c.limit_of-limit.result (limit_is g before) index c.index-group.result.now here
          (telling_there g before));
    }

pub loop-index-preserved : goal.loop-index-preserved
loop-index-preserved g c = record {
  within = c.next_below-index.ensures.end;
  known = c.loop-index.invariant.known;
  len = c.loop-index.invariant.len;
  telling = telling_there g (goal.at.loop-index-preserved g c).After-next_below-index;
}

pub returns-clause-told : goal.returns-clause-told
returns-clause-told g c =
    AreFirst-telling c.args.bound c.args.most c.args.groups.now.items c.loop-index.index c.loop-index.told.items (omega (arith, c.loop-index-test.false, c.len-count.ensures))
    c.loop-index.invariant.telling
