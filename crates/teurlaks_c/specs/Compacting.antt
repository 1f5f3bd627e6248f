-- What a part of a compaction does.
use Rattle.std.specs.Prelude.{◌≡◌, ◌+◌, ◌<◌, ◌≤◌, ℕ, max, Option, Some}
use Rattle.arena_core.specs.Sound.{IsSound}
use Rattle.arena_core.specs.State.{pages, shown}
use Rattle.compaction.specs.Compacts.{ClosesOwn, CompactsIfPays, IsWithin, Leaves, Takes, going}
use Rattle.compaction.specs.Progress.{fresh}
use Rattle.compaction.specs.Told.{standing_of}
use Rattle.compaction.specs.declared.advanced.Advanced.{Advanced}
use Rattle.compaction.specs.declared.advanced.Advanced.TheVariants as advanced
use Rattle.compaction.specs.declared.compacted.Compacted.{Compacted}
use Rattle.compaction.specs.declared.compacted.Standing.{Standing}
use Rattle.compaction.specs.declared.compacted.Standing.TheVariants.{GoesOn, Done, Refused}
use Rattle.teurlaks_c.specs.declared.held.Held.{Held}
use Rattle.teurlaks_c.specs.declared.replies.AdvanceReply.{AdvanceReply}
use Rattle.teurlaks_c.specs.declared.replies.CompactReply.{CompactReply}
use Rattle.teurlaks_c.specs.Keys.{IsIdOf}
use Rattle.teurlaks_c.specs.Status.{done, refusal_status}

-- what C reads of how the compaction stands
abbrev pub SaysStanding : CompactReply → Standing → Type 0
SaysStanding says GoesOn = (says.status ≡ done) × (says.more ≡ 1)
SaysStanding says Done = (says.status ≡ done) × (says.more ≡ 0)
SaysStanding says (Refused refusal) = (says.status ≡ refusal_status refusal) × (says.more ≡ 1)

-- the core takes steps of its compaction within the budget; the map that it shows stays, and so
-- does the certificate that is kept; the pages that are told are those that went
pub record Compacts (old : Option Held) (budget : ℕ) (says : CompactReply) (new : Option Held) :
    Type 0 where
  pub before : Held
  pub after : Held
  pub standing : Standing
  pub before_is : old ≡ Some before
  pub after_is : new ≡ Some after
  pub steps : IsWithin (max budget 1) standing
      (going before.compaction before.core) (going after.compaction after.core)
  pub plain : shown after.core ≡ shown before.core
  pub pages_are : pages after.core + says.pages ≡ pages before.core
  pub stands : Leaves standing after.core
  pub sound : IsSound after.core
  pub same : after.last ≡ before.last
  pub says_is : SaysStanding says standing

-- the core is passed over, or its compaction takes as many steps as it takes; the rest is as above,
-- where a core that is passed over is left as it was, and no page is told
pub record MayCompact (old : Option Held) (says : CompactReply) (new : Option Held) : Type 0 where
  pub before : Held
  pub after : Held
  pub compacted : Compacted
  pub before_is : old ≡ Some before
  pub after_is : new ≡ Some after
  pub either : CompactsIfPays compacted (going before.compaction before.core)
      (going after.compaction after.core)
  pub plain : shown after.core ≡ shown before.core
  pub pages_are : pages after.core + says.pages ≡ pages before.core
  pub stands : Leaves compacted.standing after.core
  pub sound : IsSound after.core
  pub same : after.last ≡ before.last
  pub says_is : SaysStanding says compacted.standing
  pub says_pages : says.pages ≡ compacted.pages

-- what C reads of what a step did
abbrev pub SaysAdvanced : AdvanceReply → Advanced → Type 0
SaysAdvanced says (advanced.Folded abandoned owned) = (says.status ≡ done) × (says.more ≡ 1)
    × (says.folded ≡ 1) × IsIdOf says.abandoned abandoned × IsIdOf says.owned owned
SaysAdvanced says advanced.Went = (says.status ≡ done) × (says.more ≡ 1) × (says.folded ≡ 0)
SaysAdvanced says advanced.Done = (says.status ≡ done) × (says.more ≡ 0) × (says.folded ≡ 0)
SaysAdvanced says (advanced.Refused refusal) = (says.status ≡ refusal_status refusal)
    × (says.more ≡ 1) × (says.folded ≡ 0)

-- the core takes one step of its compaction, which takes no more than is left, or 1; the map that
-- it shows stays, and so does the certificate that is kept
pub record Advances (old : Option Held) (left : ℕ) (says : AdvanceReply) (new : Option Held) :
    Type 0 where
  pub before : Held
  pub after : Held
  pub tells : Advanced
  pub before_is : old ≡ Some before
  pub after_is : new ≡ Some after
  pub some : 0 < says.cost
  pub at_most : says.cost ≤ max left 1
  pub takes : Takes says.cost tells (going before.compaction before.core)
      (going after.compaction after.core)
  pub plain : shown after.core ≡ shown before.core
  pub stands : Leaves (standing_of tells) after.core
  pub sound : IsSound after.core
  pub same : after.last ≡ before.last
  pub says_is : SaysAdvanced says tells

-- a plan that the compaction has opened is closed, and the compaction begins anew
pub record GivesUp (old new : Option Held) : Type 0 where
  pub before : Held
  pub after : Held
  pub before_is : old ≡ Some before
  pub after_is : new ≡ Some after
  pub closes : ClosesOwn before.compaction before.core after.core
  pub anew : after.compaction ≡ fresh
  pub plain : shown after.core ≡ shown before.core
  pub same : after.last ≡ before.last
