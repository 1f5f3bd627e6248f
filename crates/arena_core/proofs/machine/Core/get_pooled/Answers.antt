use Rattle.std.proofs.Common.{ap, sym, ◌∙◌}
use Rattle.pool.specs.Shown.{shown as shown_by_pool}
use Rattle.arena_core.specs.State.{CoreState}
use Rattle.arena_core.proofs.Lookups.{FindsWords-key, key_of}
use Rattle.arena_core.proofs.Moved.{value-no_other}
use Rattle.arena_core.proofs.machine.Core.get_pooled.Goals as goal

pub returns : goal.returns
returns g c =
    let key = key_of c.args.span c.args.slot c.args.generation c.requires.generation in
    FindsWords-key c.args.self.now key c.words_in.result.now
    (c.words_in.ensures.value ∙ c.get.ensures.plain ∙ ap (λ (s : CoreState). (shown_by_pool s.pool).value_of key) c.self.view_is
    ∙ sym (value-no_other c.args.self.now key c.requires.home c.requires.other)) c.words_in.ensures.object
