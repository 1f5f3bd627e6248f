use Rattle.teurlaks_c.proofs.recorded_calls.tell_at_recorded.Goals as goal

pub returns-clause-does : goal.returns-clause-does
returns-clause-does g c = (c.tell_recorded-answer.result, c.tell_recorded-answer.ensures.does, c.told_reply.ensures)
