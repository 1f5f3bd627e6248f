use Rattle.std.proofs.Common.{◌≡◌, length}
use Rattle.groups.specs.Directory.{Entries}
use Rattle.shard.specs.Heads.{KnowsBelow, KnowsNoHeads}
use Rattle.shard.proofs.head_indexes.note_heads.Given as goal

abbrev pub invariant-loop-index : goal.invariant-loop-index
invariant-loop-index g l = KnowsBelow l.fn.number l.fn.groups.items (record { base = l.fn.base; entries = l.indexes.items }) l.index × (length l.indexes.items ≡ length l.fn.indexes.items)
    × ((entries : Entries) → KnowsNoHeads l.fn.number l.fn.groups.items entries (record { base = l.fn.base; entries = l.fn.indexes.items })
    → KnowsNoHeads l.fn.number l.fn.groups.items entries (record { base = l.fn.base; entries = l.indexes.items }))
