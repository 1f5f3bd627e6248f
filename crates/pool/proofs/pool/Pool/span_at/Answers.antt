use Rattle.std.proofs.Common.{sym}
use Rattle.pool.proofs.pool.Pool.span_at.Goals as goal

pub returns : goal.returns
returns g c =
    let here = c.in_ok-group.ensures.group in
    (here.0, c.in_ok-group.group.now, here.1, (c.span_at.result.now, c.span_at.ensures, sym c.id.ensures))
