use Rattle.teurlaks_c.proofs.Holding.{HoldsShard-begun, HoldsShard-busy}
use Rattle.teurlaks_c.proofs.sessions.holding.Goals as goal

pub returns-in-Ok : goal.returns-in-Ok
returns-in-Ok c = HoldsShard-begun _ _ _ c.in-Seat.is c.in-Ok.ensures.0 c.in-Ok.ensures.1

pub returns-in-Err : goal.returns-in-Err
returns-in-Err c = HoldsShard-busy _ _ _ c.in-Seat.is c.in-Err.ensures.0 c.in-Err.ensures.1
