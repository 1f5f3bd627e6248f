use Rattle.thread_runner.proofs.Names.{rules}
use Rattle.thread_runner.proofs.Keeping.{same_keys}
use Rattle.thread_runner.proofs.keys.is_same_key.Goals as goal

pub returns : goal.returns
returns c = λ _. same_keys c.args.one c.args.other (search rules) (search rules) (search rules) (search rules)
