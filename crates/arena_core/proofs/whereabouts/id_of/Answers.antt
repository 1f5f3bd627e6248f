use Rattle.std.proofs.Common.{◌∙◌, ◌/◌, ◌%◌, ap}
use Rattle.arena_core.proofs.Standing.{id-of_rank}
use Rattle.arena_core.proofs.whereabouts.id_of.Goals as goal

pub returns : goal.returns
returns c id is =
    id-of_rank id c.args.number c.in-Ok.shard c.in-Ok-try_from.serial c.new.result is
    ((c.in-Ok.ensures {u = tt}).1 ∙ ap (λ n. c.args.number / n) c.from.ensures)
    ((c.in-Ok-try_from.ensures {u = tt}).1 ∙ ap (λ n. c.args.number % n) c.from-2.ensures)
    c.new.ensures.in_range c.new.ensures.parts
