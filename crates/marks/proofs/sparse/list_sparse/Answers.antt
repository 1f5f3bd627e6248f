use Rattle.std.proofs.Common.{◌≡◌, Global, List, Vec, arith, map, subst, sym}
use Rattle.std.proofs.lemmas.Result.{IfOk-weaker}
use Rattle.mesh_graph.specs.declared.build.TheConstants.{MOST_GROUPS}
use Rattle.pool.specs.Sparse.{HaveSparsest}
use Rattle.pool.proofs.SparseGroups.{HaveSparsest-all, HaveSparsest-parted}
use Rattle.span.specs.declared.entry.Entry.{Entry}
use Rattle.marks.specs.Seen.{owned_entries}
use Rattle.marks.proofs.sparse.list_sparse.Goals as goal

all_of : (entries : List Entry) (list : Vec Entry Global) → list.items ≡ entries → HaveSparsest MOST_GROUPS entries list.items
all_of entries list is = subst (HaveSparsest MOST_GROUPS entries) (sym is) (HaveSparsest-all MOST_GROUPS entries)

pub returns-in_default-clause-sparsest : goal.returns-in_default-clause-sparsest
returns-in_default-clause-sparsest g c =
    let owned = owned_entries (map g.H.LendsShard.lent c.args.shards.now) in
    IfOk-weaker c.list_owned.result (λ (list : Vec Entry Global). list.items ≡ owned) (λ (list : Vec Entry Global). HaveSparsest MOST_GROUPS owned list.items)
    (all_of owned) c.list_owned.ensures.items

pub returns-then-len-lt-MOST_GROUPS-clause-sparsest : goal.returns-then-len-lt-MOST_GROUPS-clause-sparsest
returns-then-len-lt-MOST_GROUPS-clause-sparsest g c =
    let owned = owned_entries (map g.H.LendsShard.lent c.args.shards.now) in
    IfOk-weaker c.list_owned-then-len-lt-MOST_GROUPS.result (λ (list : Vec Entry Global). list.items ≡ owned) (λ (list : Vec Entry Global). HaveSparsest MOST_GROUPS owned list.items)
    (all_of owned) c.list_owned-then-len-lt-MOST_GROUPS.ensures.items

pub returns-clause-sparsest : goal.returns-clause-sparsest
returns-clause-sparsest g c =
    HaveSparsest-parted MOST_GROUPS c.in-Some.bound (owned_entries (map g.H.LendsShard.lent c.args.shards.now)) c.in_ok-list.list.items (c.in_ok-list.ensures {u = tt}).parted
    (omega (arith, c.if-len-lt-MOST_GROUPS.false, c.len.ensures))
