use Rattle.span.proofs.marks.as_words.Goals as goal

pub returns-clause-small : goal.returns-clause-small
returns-clause-small c = λ slot within. c.type_inv.bytes slot 0 within
