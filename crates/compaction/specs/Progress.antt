-- What a compaction has gone through: when it has begun, when a plan of its own is open, and when
-- it may be done.
use Rattle.std.specs.Prelude.{◌≡◌, Bool, true, false}
use Rattle.compaction.specs.declared.progress.Phase.{Phase}
use Rattle.compaction.specs.declared.progress.Phase.TheVariants.{Fresh, Trimming, Choosing, Folding, Closing}
use Rattle.compaction.specs.declared.progress.Progress.{Progress}

-- it has not begun
abbrev pub fresh : Progress
fresh = record { phase = Fresh; trimmed = 0; is_spent = false }

-- it has begun, no shard was trimmed, and no mark was made
abbrev pub begun : Progress
begun = record { phase = Trimming; trimmed = 0; is_spent = false }

-- in this phase a plan is open that the compaction has opened, unless somebody else has closed it
abbrev pub is_planned : Phase → Bool
is_planned Folding = true
is_planned Closing = true
is_planned phase = false

-- all shards were trimmed, no plan of its own is open, and the last mark planned so few folds that
-- no further one is worth it
pub record IsThrough (progress : Progress) : Type 0 where
  pub choosing : progress.phase ≡ Choosing
  pub spent : progress.is_spent ≡ true
