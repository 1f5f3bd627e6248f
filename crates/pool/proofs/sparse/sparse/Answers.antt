use Rattle.std.proofs.Common.{◌≡◌, ℕ, Global, List, Vec, arith, map, subst, sym}
use Rattle.std.proofs.lemmas.Result.{IfOk-weaker}
use Rattle.groups.specs.Group.{paged_in, summary}
use Rattle.span.specs.declared.entry.Entry.{Entry}
use Rattle.pool.specs.Sparse.{HaveSparsest}
use Rattle.pool.proofs.SparseGroups.{HaveSparsest-all, HaveSparsest-parted}
use Rattle.pool.proofs.sparse.sparse.Goals as goal

all_of : (most : ℕ) (entries : List Entry) (list : Vec Entry Global) → list.items ≡ entries → HaveSparsest most entries list.items
all_of most entries list is = subst (HaveSparsest most entries) (sym is) (HaveSparsest-all most entries)

pub returns-in_default : goal.returns-in_default
returns-in_default g c =
    let entries = map summary (paged_in c.args.groups.now) in
    IfOk-weaker c.summaries.result (λ (list : Vec Entry Global). list.items ≡ entries) (λ (list : Vec Entry Global). HaveSparsest c.args.most entries list.items)
    (all_of c.args.most entries) c.summaries.ensures

pub returns-then-len-most : goal.returns-then-len-most
returns-then-len-most g c =
    let entries = map summary (paged_in c.args.groups.now) in
    IfOk-weaker c.summaries-then-len-most.result (λ (list : Vec Entry Global). list.items ≡ entries) (λ (list : Vec Entry Global). HaveSparsest c.args.most entries list.items)
    (all_of c.args.most entries) c.summaries-then-len-most.ensures

pub returns : goal.returns
returns g c =
    let entries = map summary (paged_in c.args.groups.now) in
    HaveSparsest-parted c.args.most c.in-Some.bound entries c.in_ok-list.list.items (c.in_ok-list.ensures {u = tt}) (omega (arith, c.if-len-most.false, c.len.ensures))
