use Rattle.arena_core.proofs.Noted.{IsNoting}
use Rattle.arena_core.proofs.whereabouts.Whereabouts.note.Given as goal

abbrev pub invariant-loop-place : goal.invariant-loop-place
invariant-loop-place g l = IsNoting l.fn.self l.self l.shard.groups l.head l.first l.place l.number
