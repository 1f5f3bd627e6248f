use Rattle.teurlaks_c.proofs.recorded_calls.look_up_recorded.Goals as goal

pub returns-clause-does : goal.returns-clause-does
returns-clause-does c = (c.got_recorded-answer.result, c.got_recorded-answer.ensures.does, c.got_reply.ensures)
