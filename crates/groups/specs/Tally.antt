-- How many groups have so many live slots, by a list of numbers: the first is of those with none.
use Rattle.std.specs.Prelude.{ℕ, ◌+◌, ◌-◌, ◌/◌, ◌^◌, ◌<◌, ◌≤◌, List, min, take}
use Rattle.std.specs.List.{sum_by}
use Rattle.groups.specs.declared.live_tally.TheConstants.{MARGIN}

-- how many of the counted groups have fewer live slots than the bound
abbrev pub below : List ℕ → ℕ → ℕ
below tally bound = sum_by (λ count. count) (take bound tally)

-- how many groups are wanted of a sample of one of each so many, if that many of all are: their
-- part of it, half as many more, and eight
abbrev pub wanted : ℕ → ℕ → ℕ
wanted most step = min (most / step + (most / step / 2 + MARGIN)) (2 ^ 64 - 1)

-- more of the counted groups than are wanted have fewer live slots than the bound, and no more have
-- fewer than a lower one
pub record IsBoundOf (tally : List ℕ) (wanted bound : ℕ) : Type 0 where
  pub enough : wanted < below tally bound
  pub least : (lower : ℕ) → lower < bound → below tally lower ≤ wanted
