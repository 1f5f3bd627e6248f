use Rattle.std.proofs.Common.{◌∙◌, refl}
use Rattle.arena_core.proofs.Lookups.{FindsWords-key}
use Rattle.arena_core.proofs.machine.Core.get_taken_in.Goals as goal

pub get_pooled-requires-clause-other : goal.get_pooled-requires-clause-other
get_pooled-requires-clause-other g c = c.in-NotHere.ensures.not_here refl

pub returns-in_default : goal.returns-in_default
returns-in_default g c =
    FindsWords-key c.args.self.now _ c.words_in.result.now (c.words_in.ensures.value ∙ c.find_taken_in.ensures.value c.in_default.not-NotHere) c.words_in.ensures.object
