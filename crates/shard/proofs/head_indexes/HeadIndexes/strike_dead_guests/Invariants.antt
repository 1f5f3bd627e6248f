use Rattle.std.proofs.Common.{◌≡◌, ℕ, List, Some, slice_get}
use Rattle.groups.proofs.Entries.{IsStrikingDead}
use Rattle.groups.specs.Directory.{Entries}
use Rattle.groups.specs.Group.{HasNoHead}
use Rattle.span.specs.State.{SpanState}
use Rattle.shard.specs.Group.{GroupState}
use Rattle.shard.specs.HeadWindow.{end_of}
use Rattle.shard.specs.Heads.{KnowsHeads, KnowsNoHeads}
use Rattle.shard.proofs.NotedGuests.{directory_of}
use Rattle.shard.proofs.head_indexes.HeadIndexes.strike_dead_guests.Given as goal

abbrev pub invariant-loop-place : goal.invariant-loop-place
invariant-loop-place g l = record {
  base : l.self.base ≡ l.fn.self.base;
  end : end_of l.self ≡ end_of l.fn.self;
  heads : (groups : List GroupState) → KnowsHeads l.number groups l.fn.self
      → ((place : ℕ) (guest : SpanState) → slice_get l.guests place ≡ Some guest → HasNoHead groups guest.id) → KnowsHeads l.number groups l.self;
  known : (groups : List GroupState) (entries : Entries) → KnowsNoHeads l.number groups entries l.fn.self
      → (now : Entries) × KnowsNoHeads l.number groups now l.self × IsStrikingDead (directory_of entries) (directory_of now) l.guests l.place;
}
