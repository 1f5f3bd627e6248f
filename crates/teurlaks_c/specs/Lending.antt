-- What a handle becomes once what it lends was written.
use Rattle.std.specs.Prelude.{Option, Some}
use Rattle.std.specs.Borrow.{Fml, Lends, LendsIf, MutBor}
use Rattle.teurlaks_c.specs.declared.handle.Handle.{Handle}
use Rattle.teurlaks_c.specs.declared.held.Held.{Held}
use Rattle.teurlaks_c.specs.contracts.handle.Handle as Row
use Rattle.teurlaks_c.specs.contracts.held.Held as Content

-- the handle with this in the place of what it holds
abbrev pub with_held : Handle → Held → Handle
with_held handle held = record handle { held = Some held }

-- the handle ends with what is left behind the reference
abbrev pub LendsHeld : MutBor Handle → MutBor Held → Fml
LendsHeld handle lent = Lends Row.the_row Content.the_row handle lent (with_held handle.now)

-- the same, where something is lent; else it ends as it was
abbrev pub LendsHeldIf : MutBor Handle → Option (MutBor Held) → Fml
LendsHeldIf handle lent = LendsIf Row.the_row Content.the_row handle lent (with_held handle.now)
    handle.now
