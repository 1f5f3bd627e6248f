use Rattle.std.proofs.Common.{◌∙◌, Global, List, Vec, ap, subst}
use Rattle.std.specs.Prelude.{IfOk}
use Rattle.std.specs.List.{filter}
use Rattle.shard.specs.Telling.{AreSelected, is_live}
use Rattle.shard.specs.declared.shard.retiring.LiveGroup.{LiveGroup}
use Rattle.shard.proofs.shard.retiring.first_of_all.Goals as goal

pub returns : goal.returns
returns g c =
    subst (λ (live : List LiveGroup). IfOk c.first_of.result (λ (first : Vec LiveGroup Global). AreSelected c.args.most live first.items))
    (c.keep_live.ensures ∙ ap (λ (told : List LiveGroup). filter is_live told) (c.in_ok-told.ensures {u = tt})) c.first_of.ensures
