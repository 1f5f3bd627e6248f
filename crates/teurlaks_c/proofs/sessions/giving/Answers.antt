use Rattle.teurlaks_c.proofs.Holding.{GivesShard-given}
use Rattle.teurlaks_c.proofs.sessions.giving.Goals as goal

pub returns-in-Session : goal.returns-in-Session
returns-in-Session c = GivesShard-given _ c.in-Session.session _ c.in-Session.is c.pause.ensures.arena c.pause.ensures.seat
