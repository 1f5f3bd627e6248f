use Rattle.std.proofs.Common.{◌++◌, ◌∷◌, [], arith, subst, sym}
use Rattle.pool.specs.Sparse.{AreParted}
use Rattle.pool.proofs.SparseGroups.{AreParted-found, AreParted-left}
use Rattle.pool.proofs.sparse.push_below.Goals as goal

pub returns-then-live-bound : goal.returns-then-live-bound
returns-then-live-bound c = λ entries parted.
    AreParted-left c.args.bound entries c.args.list.now.items c.args.entry parted (omega (arith, c.if-live-bound.true, c.count-live.ensures.count))

pub returns-then-next-bound : goal.returns-then-next-bound
returns-then-next-bound c = λ entries parted.
    AreParted-left c.args.bound entries c.args.list.now.items c.args.entry parted (omega (arith, c.if-next-bound.true, c.count-live.ensures.count))

pub returns : goal.returns
returns c = λ entries parted.
    subst (AreParted c.args.bound (entries ++ c.args.entry ∷ [])) (sym (c.in_ok-push.ensures {u = tt}).items)
    (AreParted-found c.args.bound entries c.args.list.now.items c.args.entry parted (omega (arith, c.if-live-bound.false, c.count-live.ensures.count)))
