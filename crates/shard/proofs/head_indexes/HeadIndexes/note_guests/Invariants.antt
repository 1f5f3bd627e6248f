use Rattle.std.proofs.Common.{◌≡◌, ◌+◌, ◌≤◌, ℕ, List, Some, drop, slice_get}
use Rattle.groups.specs.Directory.{Entries, entered}
use Rattle.groups.specs.Group.{HasNoHead}
use Rattle.span.specs.State.{SpanState}
use Rattle.shard.specs.Group.{GroupState}
use Rattle.shard.specs.HeadWindow.{end_of}
use Rattle.shard.specs.Heads.{KnowsHeads, KnowsNoHeads}
use Rattle.shard.proofs.head_indexes.HeadIndexes.note_guests.Given as goal

abbrev pub invariant-loop-place : goal.invariant-loop-place
invariant-loop-place g l = record {
  base : l.self.base ≡ l.fn.self.base;
  end : end_of l.self ≡ end_of l.fn.self;
  least : l.first ≤ l.place;
  heads : (groups : List GroupState) → KnowsHeads l.number groups l.fn.self
      → ((place : ℕ) (guest : SpanState) → slice_get l.guests place ≡ Some guest → l.first ≤ place → HasNoHead groups guest.id)
      → KnowsHeads l.number groups l.self;
  known : (groups : List GroupState) (entries : Entries) → KnowsNoHeads l.number groups entries l.fn.self
      → (now : Entries) × KnowsNoHeads l.number groups now l.self
      × (entered now (drop l.place l.guests) l.head (l.place + 1) ≡ entered entries (drop l.first l.guests) l.head (l.first + 1));
}
