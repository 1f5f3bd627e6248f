use Rattle.fold.proofs.Folded.{together-Folds}
use Rattle.fold.proofs.Sums.{length_groups-Folds, length_paged-Folds, length_shard_pages-Folds}
use Rattle.fold.proofs.folding.fold_one.Goals as goal

pub returns-clause-kept : goal.returns-clause-kept
returns-clause-kept g c =
    together-Folds c.args.pool.now c.args.shard.now c.args.a c.args.b c.carry_out.new.pool c.carry_out.new.shard c.spans_to_fold.ensures.sound
    c.spans_to_fold.ensures.sound_shard c.carry_out.ensures.sound c.carry_out.ensures.sound_shard (c.in_ok-carry_out.ensures {u = tt}).folds

pub returns-clause-page : goal.returns-clause-page
returns-clause-page g c folded = length_paged-Folds c.args.pool.now c.args.shard.now c.args.a c.args.b c.carry_out.new.pool c.carry_out.new.shard (c.in_ok-carry_out.ensures {u = tt}).folds

pub returns-clause-shard_pages : goal.returns-clause-shard_pages
returns-clause-shard_pages g c folded paged = length_shard_pages-Folds c.args.pool.now c.args.shard.now c.args.a c.args.b c.carry_out.new.pool
    c.carry_out.new.shard (c.in_ok-carry_out.ensures {u = tt}).folds c.spans_to_fold.ensures.sound_shard paged

pub returns-clause-groups : goal.returns-clause-groups
returns-clause-groups g c folded = length_groups-Folds c.args.pool.now c.args.shard.now c.args.a c.args.b c.carry_out.new.pool c.carry_out.new.shard (c.in_ok-carry_out.ensures {u = tt}).folds
