use Rattle.shard.proofs.shard.Shard.put.Goals as goal

pub returns-clause-ok : goal.returns-clause-ok
returns-clause-ok g c = rw (c.class.ensures.class, c.words.ensures.words) at c.put_words.ensures.ok

pub returns-clause-spent : goal.returns-clause-spent
returns-clause-spent g c = rw c.class.ensures.class at c.put_words.ensures.spent
