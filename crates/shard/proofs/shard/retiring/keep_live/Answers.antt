use Rattle.std.proofs.Common.{rules}
use Rattle.std.proofs.lemmas.Fn.{filter_same}
use Rattle.shard.specs.Telling.{is_live}
use Rattle.shard.proofs.shard.retiring.keep_live.Goals as goal

pub returns : goal.returns
returns c = filter_same _ is_live _ (λ x b f' k. search rules) _ _ c.retain.ensures.filtered
