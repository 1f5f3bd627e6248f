-- What a list of ids says of the groups of a side. No public clause cites this module.
use Rattle.std.specs.Prelude.{ℕ, ◌≡◌, ◌<◌, ◌==◌, ◌&&◌, Bool, true, false, List, [], map, length, slice_index_or, ◌||◌}
use Rattle.std.specs.List.{filter, flat_map, list_any}
use Rattle.bitmap.specs.Slots.{SlotSet, has_bit}
use Rattle.lane_kernels.specs.Disjoint.{are_disjoint}
use Rattle.mesh_graph.specs.Groups.{has_id}
use Rattle.span.specs.Classes.{number_of}
use Rattle.span.specs.Ids.{same_span}
use Rattle.span.specs.declared.id.SpanId.{SpanId}
use Rattle.span.specs.declared.entry.Entry.{Entry}
use Rattle.span.specs.Entries.{are_compatible}
use Rattle.certificate.specs.declared.distinct.IdList.{IdList}
use Rattle.certificate.specs.declared.distinct.IdList.TheVariants.{Abandoned, Owned, Short}
use Rattle.certificate.specs.declared.partner.Members.{Members}
use Rattle.span.specs.declared.class.TheConstants.{CLASSES}

-- the ids of the list
abbrev pub ids_in : IdList → List SpanId
ids_in (Abandoned pairs) = map (λ p. p.0) pairs.now
ids_in (Owned pairs) = map (λ p. p.1) pairs.now
ids_in (Short ids) = ids.now

-- no id of the groups stands twice
abbrev pub AreOnce : List Entry → List SpanId → Type 0
AreOnce entries ids = (i j : ℕ) (d : SpanId) → i < j → j < length ids
    → has_id entries (slice_index_or ids i d) ≡ true
    → same_span (slice_index_or ids i d) (slice_index_or ids j d) ≡ false

-- the bits of the groups whose ids stand among these
abbrev pub HasSeen : List Entry → List SpanId → List ℕ → Type 0
HasSeen entries ids words = (place : ℕ) (d : Entry) → place < length entries
    → has_bit words place ≡ list_any (λ id. same_span (slice_index_or entries place d).id id) ids

-- whether a group with the id is compatible with the group y
abbrev pub fits_with : List Entry → SpanId → Entry → Bool
fits_with abandoned id y = list_any (λ x. same_span x.id id && are_compatible x y) abandoned

-- whether a group with one of the ids is compatible with the group y
abbrev pub fits_any : List Entry → List SpanId → Entry → Bool
fits_any abandoned ids y = list_any (λ id. fits_with abandoned id y) ids

-- the bits of the groups that are compatible with a group of one of the ids
abbrev pub HasFitting : List Entry → List SpanId → List Entry → List ℕ → Type 0
HasFitting abandoned ids owned words = (place : ℕ) (d : Entry) → place < length owned
    → has_bit words place ≡ fits_any abandoned ids (slice_index_or owned place d)

-- the bits gain the places of the groups that pass the test
abbrev pub GainPlaces : (Entry → Bool) → List Entry → List ℕ → List ℕ → Type 0
GainPlaces test groups old new = (place : ℕ) (d : Entry) → place < length groups
    → has_bit new place ≡ (has_bit old place || test (slice_index_or groups place d))

-- the bits gain the place, if it is to come in
abbrev pub GainPlaceIf : Bool → ℕ → List ℕ → List ℕ → Type 0
GainPlaceIf comes place old new = (other : ℕ)
    → has_bit new other ≡ (has_bit old other || (other == place && comes))

-- the groups with the id
abbrev pub groups_with : List Entry → SpanId → List Entry
groups_with abandoned id = filter (λ x. same_span x.id id) abandoned

-- whether the group is of the class with the number
abbrev pub is_of_class : ℕ → Entry → Bool
is_of_class number y = number_of y.class == number

-- the sets of those groups that are of the class with the number
abbrev pub sets_of : ℕ → List Entry → List SlotSet
sets_of number groups = map (λ x. x.occupied) (filter (is_of_class number) groups)

-- the sets of the class with the number; none where there is no such class
abbrev pub members_in : Members → ℕ → List SlotSet
members_in members number = slice_index_or members.by_class.items number []

-- for each class the sets of those groups that have one of the ids
abbrev pub AreMembers : List Entry → List SpanId → Members → Type 0
AreMembers abandoned ids members = (number : ℕ) → number < CLASSES
    → members_in members number ≡ sets_of number (flat_map (groups_with abandoned) ids)

-- whether the group is of the class with the number and shares no slot with some of these sets
abbrev pub fits_among : ℕ → List SlotSet → Entry → Bool
fits_among number sets y = is_of_class number y
    && list_any (λ x. are_disjoint x y.occupied) sets

-- whether the group shares no slot with some set of its class
abbrev pub fits_some : Members → Entry → Bool
fits_some members y = list_any (λ x. are_disjoint x y.occupied)
    (members_in members (number_of y.class))
