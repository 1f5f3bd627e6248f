-- Pages with nothing live, which a shard gives back while it runs.
use Rattle.std.specs.Prelude.{zero, suc, ◌≡◌, ℕ, ◌&&◌, ◌-◌, Bool, List, [], ◌∷◌, None, drop, filter, if◌then◌else◌, is_some, length, map, min, nat_eq, not, take}
use Rattle.groups.specs.Group.{spans_of}
use Rattle.groups.specs.Spans.{live_count}
use Rattle.shard.specs.Group.{GroupState}
use Rattle.shard.specs.State.{ShardState}
use Rattle.shard.specs.declared.shard.trimming.TrimPart.{TrimPart}

-- the group is open and has a page, on which no slot is live
abbrev pub is_idle : GroupState → Bool
is_idle group = is_some group.page && (not group.closed && nat_eq (live_count (spans_of group)) 0)

-- the group, which gives its page back where it is open and no slot is live
abbrev pub trimmed : GroupState → GroupState
trimmed group = if is_idle group then record group { page = None } else group

-- each open group with no live slot has given its page back, that many did, and all else stays
pub record Trims (old : ShardState) (count : ℕ) (new : ShardState) : Type 0 where
  pub after : new ≡ record old { groups = map trimmed old.groups }
  pub count_is : count ≡ length (filter is_idle old.groups)

-- the list, with so many of its first elements changed
abbrev pub changed_first : {X : Type 0} → (X → X) → ℕ → List X → List X
changed_first change zero list = list
changed_first change (suc most) [] = []
changed_first change (suc most) (x ∷ rest) = change x ∷ changed_first change most rest

-- the list, with so many of its elements changed from the index on
abbrev pub changed_from : {X : Type 0} → (X → X) → (from most : ℕ) → List X → List X
changed_from change zero most list = changed_first change most list
changed_from change (suc from) most [] = []
changed_from change (suc from) most (x ∷ rest) = x ∷ changed_from change from most rest

-- the same of up to so many groups from the index on
pub record TrimsSome (from most : ℕ) (old : ShardState) (done : TrimPart) (new : ShardState) :
    Type 0 where
  pub groups_is : done.groups ≡ min most (length old.groups - from)
  pub pages_is : done.pages ≡ length (filter is_idle (take done.groups (drop from old.groups)))
  pub after : new ≡ record old { groups = changed_from trimmed from done.groups old.groups }
