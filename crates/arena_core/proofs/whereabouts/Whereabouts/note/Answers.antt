use Rattle.std.proofs.Common.{◌+◌, sym, subst}
use Rattle.arena_core.proofs.Noted.{IsNoting, IsNoting-none, IsNoting-past, IsNoting-room, IsNoting-taken, Notes-all, Notes-nowhere}
use Rattle.arena_core.proofs.whereabouts.Whereabouts.note.Goals as goal
use Rattle.arena_core.proofs.whereabouts.Whereabouts.note.Goals.{in-Some-span_at, in_default-span_at}

pub loop-place-init : goal.loop-place-init
loop-place-init g c = IsNoting-none c.args.shard.now.groups c.requires.sound.ascending c.args.head c.args.self.now c.args.first c.args.number

pub set-requires : goal.set-requires
set-requires g c =
    IsNoting-room c.args.shard.now.groups c.requires.sound.ascending c.args.head c.args.self.now c.loop-place.self c.args.first c.loop-place.place c.args.number
    c.in-Some.brief (c.in-Some.ensures {u = tt}) c.requires.room c.loop-place-test.true c.loop-place.invariant

pub loop-place-preserved : goal.loop-place-preserved
loop-place-preserved g c =
    elim c.match-span_at.branch [
      | in-Some-span_at w ↦
          subst (λ now. IsNoting c.args.self.now now c.args.shard.now.groups c.args.head c.args.first (c.loop-place.place + 1) c.args.number) (sym w.self-is)
          (IsNoting-taken c.args.shard.now.groups c.requires.sound.ascending c.args.head c.args.self.now c.loop-place.self w.set.new.self c.args.first c.loop-place.place c.args.number
          w.in-Some-span_at.id w.in-Some-span_at.ensures w.set.ensures.entries w.set.ensures.room c.loop-place.invariant)
      | in_default-span_at w ↦
          subst (λ now. IsNoting c.args.self.now now c.args.shard.now.groups c.args.head c.args.first (c.loop-place.place + 1) c.args.number) (sym w.self-is)
          (IsNoting-past c.args.shard.now.groups c.requires.sound.ascending c.args.head c.args.self.now c.loop-place.self c.args.first c.loop-place.place
          c.args.number w.in_default-span_at.ensures c.loop-place.invariant)
    ]

pub returns : goal.returns
returns g c =
    Notes-all c.args.shard.now.groups c.requires.sound.ascending c.args.head c.args.self.now.entries c.loop-place.self.entries c.args.first c.loop-place.place c.args.number
    c.in-Some.brief (c.in-Some.ensures {u = tt}) c.loop-place-test.false c.loop-place.invariant.notes

pub returns-in_default : goal.returns-in_default
returns-in_default g c = Notes-nowhere c.args.self.now.entries c.args.shard.now.groups c.args.head c.args.first c.args.number c.in_default.ensures
