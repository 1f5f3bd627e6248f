-- What walks over the live keys of an arena do.
use Rattle.std.specs.Prelude.{◌≡◌, IfOk, IfSome, None, Ok, Err, Option, Result, Some}
use Rattle.span.specs.declared.key.Key.{Key}
use Rattle.latch.specs.declared.latch.Busy.{Busy}
use Rattle.arena.specs.Seats.{SeatState}
use Rattle.arena.specs.Walks.{HasGoneOn, IsAhead, walk_after}
use Rattle.arena.specs.declared.walk.Walk.{Walk}
use Rattle.teurlaks_c.specs.declared.replies.NextReply.{NextReply}
use Rattle.teurlaks_c.specs.declared.replies.RawWalk.{RawWalk}
use Rattle.teurlaks_c.specs.declared.share.StewardAndMark.{StewardAndMark}
use Rattle.teurlaks_c.specs.Keys.{IsKeyOf}
use Rattle.teurlaks_c.specs.Status.{busy, done, no_core, none}

-- where the walk with these numbers stands
abbrev pub walk_of : RawWalk → Walk
walk_of raw = record { shard = raw.shard; serial = raw.serial; slot = raw.slot }

-- the walk goes on: a key that it comes to was not behind it, and is behind it from now on
abbrev pub GoesOn : Walk → Result (Option Key) Busy × Walk → Type 0
GoesOn from (next, to) = HasGoneOn from to × IfOk next
    (λ found. IfSome found (λ key. IsAhead from key × (to ≡ walk_after key)))

-- it goes on at a seat, which stays as it is
abbrev pub WalksAtSeat : Walk → SeatState → Result (Option Key) Busy × Walk → SeatState → Type 0
WalksAtSeat from before answer after = (after ≡ before) × GoesOn from answer

-- it goes on at a steward, whose plan and certificate stay as they are
abbrev pub WalksAtSteward : Walk → StewardAndMark → Result (Option Key) Busy × Walk → StewardAndMark
    → Type 0
WalksAtSteward from before answer after = (after ≡ before) × GoesOn from answer

-- what C reads of it
abbrev pub SaysWalked : RawWalk → NextReply → RawWalk → Option (Result (Option Key) Busy × Walk)
    → Type 0
SaysWalked walk says walk_new None = (says.status ≡ no_core) × (walk_new ≡ walk)
SaysWalked walk says walk_new (Some (Err b, to)) = (says.status ≡ busy) × (walk_of walk_new ≡ to)
SaysWalked walk says walk_new (Some (Ok None, to)) = (says.status ≡ none) × (walk_of walk_new ≡ to)
SaysWalked walk says walk_new (Some (Ok (Some key), to)) = (says.status ≡ done)
    × IsKeyOf says.key key × (walk_of walk_new ≡ to)
