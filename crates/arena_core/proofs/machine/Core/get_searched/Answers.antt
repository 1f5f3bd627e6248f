use Rattle.std.proofs.Common.{subst}
use Rattle.arena_core.specs.Sound.{IsSound}
use Rattle.arena_core.proofs.Lookups.{FindsWords-Gets, key_of}
use Rattle.arena_core.proofs.Moved.{not-standing}
use Rattle.arena_core.proofs.machine.Core.get_searched.Goals as goal

pub get_away-requires-clause-home : goal.get_away-requires-clause-home
get_away-requires-clause-home g c =
    not-standing c.args.self.now (subst IsSound c.self.view_is c.self.invariant.sound).groups c.args.span c.args.span.shard c.args.shard.now c.requires.here c.in-NotHere.ensures.found

pub returns-in_default : goal.returns-in_default
returns-in_default g c =
    FindsWords-Gets c.args.self.now (subst IsSound c.self.view_is c.self.invariant.sound).groups (key_of c.args.span c.args.slot c.args.generation c.requires.generation) c.args.span.shard c.args.shard.now c.get_searched.result c.requires.here
    c.in_default.not-NotHere c.get_searched.ensures.found c.get_searched.ensures.plain c.words_in.result.now c.words_in.ensures.value c.words_in.ensures.object
