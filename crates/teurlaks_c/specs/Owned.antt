-- What a handle owns.
use Rattle.std.specs.Prelude.{Option, Some, None}
use base.Fml.{Fml, feq}
use base.Stored.{Coded}
use Rattle.std.specs.Coded.{coded_option}
use denote.RattleType.{RattleType}
use denote.RawPtr.{Ptr, null_ptr}
use mir.Syntax.{Ty}
use Rattle.std.specs.Box.Ownership.{box_owns}
use Rattle.std_heap.specs.declared.Global.{Global}
use Rattle.std_heap.specs.contracts.GlobalAllocator.TheImpl as heap
use Rattle.teurlaks_c.specs.declared.held.Held.{Held}
use Rattle.teurlaks_c.specs.declared.share.Share.{Share}
use Rattle.teurlaks_c.specs.contracts.held.Held as OfCore
use Rattle.teurlaks_c.specs.contracts.share.Share as OfArena

-- the system's allocator, of which there is one
abbrev pub system : Global
system = record { memory = record { seal = tt } }

-- the right to give a block back to it
abbrev pub right : Ty → Ptr → Fml
right = heap.ghosts.dealloc_token system

-- what is held at this place, and the right to free its block; a handle that holds nothing is null,
-- and no other is
abbrev pub owns_box : (X : RattleType) → Ptr → Option X.Denot → Fml
owns_box X at None = feq Ptr at null_ptr
owns_box X at (Some held) = box_owns right X at held

-- of a core
abbrev pub owns_held : Ptr → Option Held → Fml
owns_held = owns_box OfCore.the_row

-- of a seat or a steward
abbrev pub owns_share : Ptr → Option Share → Fml
owns_share = owns_box OfArena.the_row

-- how the logic stores what a handle of a core owns
abbrev pub held_code : Coded (Option Held)
held_code = coded_option OfCore.the_row.coded

-- how it stores what one of a seat or a steward owns
abbrev pub share_code : Coded (Option Share)
share_code = coded_option OfArena.the_row.coded
