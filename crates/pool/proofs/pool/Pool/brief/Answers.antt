use Rattle.pool.proofs.pool.Pool.brief.Goals as goal

pub returns-clause-brief : goal.returns-clause-brief
returns-clause-brief g c = let here = c.in_ok-group.ensures.group in (here.0, c.in_ok-group.group.now, here.1, c.brief.ensures)
