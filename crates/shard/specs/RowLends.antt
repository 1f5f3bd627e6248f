-- What a row ends as, where a `&mut` to one of its groups is returned. No public clause cites this
-- module.
use Rattle.std.specs.Prelude.{ℕ, slice_set}
use Rattle.std.specs.Borrow.{Lends, Fml, RattleType, MutBor}
use Rattle.span.specs.declared.spans.Log.{Ghosts}
use Rattle.shard.specs.Group.{GroupState}
use Rattle.shard.specs.Row.{RowState}
use Rattle.shard.specs.contracts.group_row.GroupRow.{the_row}
use Rattle.shard.specs.contracts.group.Group.{the_row as group_row}

-- the row with another group at the index
abbrev pub with_group : RowState → ℕ → GroupState → RowState
with_group row index group = record row { items = slice_set row.items index group }

module _ (L : RattleType) (log : Ghosts L.Denot) where
  -- once the borrow ends, the last group written through it stands at the index
  abbrev pub lends_group : MutBor RowState → ℕ → MutBor GroupState → Fml
  lends_group row index group =
      Lends (the_row L log) (group_row L log) row group (with_group row.now index)
