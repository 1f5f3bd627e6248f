-- Plans of a snapshot, and what shows that no plan has more pairs.
use Rattle.std.specs.Prelude.{List}
use Rattle.span.specs.declared.id.SpanId.{SpanId}
use Rattle.span.specs.Ids.{same_span}
use Rattle.mesh_graph.specs.Groups.{Groups, any_compatible, ids}
use Rattle.certificate.specs.Sides.{IsBest, IsCertificate, IsPlan, IsShort, Sides, partners}

-- the ids of both sides, and whether the groups of two ids are compatible
unfoldable pub sides_of : Groups → Sides SpanId
sides_of s = record { left = ids s.abandoned; right = ids s.owned; compatible = any_compatible s }

-- pairs of compatible groups, an abandoned and an owned one, no group twice on its side
abbrev pub IsPlanOf : Groups → List (SpanId × SpanId) → Type 0
IsPlanOf s pairs = IsPlan same_span (sides_of s) pairs

-- a plan, and no plan of the snapshot has more pairs
abbrev pub IsBestPlanOf : Groups → List (SpanId × SpanId) → Type 0
IsBestPlanOf s pairs = IsBest same_span (sides_of s) pairs

-- the owned groups that are compatible with some abandoned group of the ids, ascending
abbrev pub partners_of : Groups → List SpanId → List SpanId
partners_of s short = partners (sides_of s) short

-- the least set that holds each abandoned group left out and, for each partner of a member, the
-- group planned onto it
abbrev pub IsShortOf : Groups → List (SpanId × SpanId) → List SpanId → Type 0
IsShortOf s pairs short = IsShort same_span (sides_of s) pairs short

-- a plan, and a set of abandoned groups with as many pairs and members together as abandoned groups
-- and partners
abbrev pub IsCertificateOf : Groups → List (SpanId × SpanId) → List SpanId → Type 0
IsCertificateOf s pairs short = IsCertificate same_span (sides_of s) pairs short
