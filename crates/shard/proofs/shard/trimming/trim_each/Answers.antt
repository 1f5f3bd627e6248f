use Rattle.std.proofs.Common.{◌≡◌, ◌+◌, ◌-◌, ◌∙◌, List, Some, ap, arith, drop, get_or, length, refl, set, slice_get, sym, take}
use Rattle.std.specs.List.{filter}
use Rattle.std.proofs.lemmas.List.Filters.{length-filter_more}
use Rattle.std.proofs.lemmas.Option.{get_or_from_slice_get, slice_get_read, slice_get_within}
use Rattle.groups.proofs.Lists.{none_where, one_where}
use Rattle.shard.specs.Group.{GroupState}
use Rattle.shard.specs.Trims.{changed_from, is_idle, trimmed}
use Rattle.shard.proofs.ChangedFrom.{changed_from-next, changed_from-none, get-changed_from, length-changed_from}
use Rattle.shard.proofs.Samples.{get-drop}
use Rattle.shard.proofs.shard.trimming.trim_each.Goals as goal
use Rattle.shard.proofs.shard.trimming.trim_each.Goals.{else-trim, then-trim}

pub loop-index-init : goal.loop-index-init
loop-index-init g c =
    let first = c.args.groups.now.items in
    let none : c.args.from - c.args.from ≡ 0 = omega arith in
    record {
      behind = omega arith;
      within = omega arith;
      items = sym (ap (λ n. changed_from trimmed c.args.from n first) none ∙ changed_from-none trimmed c.args.from first);
      capacity = refl;
      pages = sym (ap (λ n. length (filter is_idle (take n (drop c.args.from first)))) none);
      most = omega arith;
    }

pub returns-clause-items : goal.returns-clause-items
returns-clause-items g c =
    let all : c.loop-index.index - c.args.from ≡ c.args.end - c.args.from = omega (arith, c.loop-index.invariant.within, c.loop-index.invariant.behind, c.loop-index-test.false) in
    c.loop-index.invariant.items ∙ ap (λ n. changed_from trimmed c.args.from n c.args.groups.now.items) all

pub returns-clause-pages : goal.returns-clause-pages
returns-clause-pages g c =
    let all : c.loop-index.index - c.args.from ≡ c.args.end - c.args.from = omega (arith, c.loop-index.invariant.within, c.loop-index.invariant.behind, c.loop-index-test.false) in
    c.loop-index.invariant.pages ∙ ap (λ n. length (filter is_idle (take n (drop c.args.from c.args.groups.now.items)))) all

pub loop-index-preserved : goal.loop-index-preserved
loop-index-preserved g c =
    let now = c.loop-index.groups.items in
    let at = c.loop-index.index in
    let from = c.args.from in
    let first = c.args.groups.now.items in
    let group = c.index_mut.result.now in
    let is = c.loop-index.invariant.items in
    let sum : at ≡ from + (at - from) = omega (arith, c.loop-index.invariant.behind) in
    let more : at - from + 1 ≡ at + 1 - from = omega (arith, c.loop-index.invariant.behind) in
    let here : slice_get now at ≡ Some group =
    slice_get_read now _ at group refl (omega (arith, ap length is, length-changed_from trimmed from (at - from) first, c.requires, c.loop-index-test.true)) c.index_mut.ensures.value in
    let there = ap (λ (groups : List GroupState). slice_get groups at) (sym is) ∙ here in
    let was : slice_get (drop from first) (at - from) ≡ Some group = get-drop from (at - from) at first sum ∙ sym (get-changed_from trimmed from (at - from) at first sum) ∙ there in
    let idle = ap is_idle (get_or_from_slice_get (drop from first) (at - from) group group was) ∙ sym c.trim.ensures.idle in
    let counted = length-filter_more is_idle (drop from first) (at - from) group (slice_get_within (drop from first) (at - from) group was) in
    record {
      behind = omega (arith, c.loop-index.invariant.behind);
      within = omega (arith, c.loop-index-test.true);
      items = ap (set now at) c.trim.ensures.trimmed ∙ ap (λ (groups : List GroupState). set groups at (trimmed group)) is ∙ changed_from-next trimmed from (at - from) at first group sum there
          ∙ ap (λ n. changed_from trimmed from n first) more;
      capacity = c.loop-index.invariant.capacity;
      pages = rw (← more) (elim c.if-trim.branch [
        | then-trim w ↦ omega (arith, w.pages-is, c.loop-index.invariant.pages, counted, one_where (is_idle (get_or (drop from first) (at - from) group)) (idle ∙ w.if-trim.true))
        | else-trim w ↦ omega (arith, w.pages-is, c.loop-index.invariant.pages, counted, none_where (is_idle (get_or (drop from first) (at - from) group)) (idle ∙ w.if-trim.false))
      ]);
      most = elim c.if-trim.branch [
        | then-trim w ↦ omega (arith, w.pages-is, c.loop-index.invariant.most)
        | else-trim w ↦ omega (arith, w.pages-is, c.loop-index.invariant.most)
      ];
    }

pub index_mut-requires : goal.index_mut-requires
index_mut-requires g c = omega (arith, c.loop-index-test.true, c.requires, ap length c.loop-index.invariant.items, length-changed_from trimmed c.args.from (c.loop-index.index - c.args.from) c.args.groups.now.items)
