use Rattle.std.proofs.Common.{subst}
use Rattle.arena_core.specs.Sound.{IsSound}
use Rattle.arena_core.proofs.Lookups.{FindsWords-Gets, key_of}
use Rattle.arena_core.proofs.Moved.{not-standing}
use Rattle.arena_core.proofs.machine.Core.get_other.Goals as goal

pub returns-in-Some : goal.returns-in-Some
returns-in-Some g c =
    FindsWords-Gets c.args.self.now (subst IsSound c.self.view_is c.self.invariant.sound).groups (key_of c.args.span c.args.slot c.args.generation c.requires.generation) c.args.span.shard c.args.shard.now c.in-Some.found c.requires.here
    c.in-Some.ensures.here c.in-Some.ensures.found c.in-Some.ensures.plain c.words_in.result.now c.words_in.ensures.value c.words_in.ensures.object

pub get_away-requires-clause-home : goal.get_away-requires-clause-home
get_away-requires-clause-home g c =
    not-standing c.args.self.now (subst IsSound c.self.view_is c.self.invariant.sound).groups c.args.span c.args.span.shard c.args.shard.now c.requires.here (c.is_away.ensures c.if-is_away.true)
