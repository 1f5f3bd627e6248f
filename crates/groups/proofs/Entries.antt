-- The entries of a directory, before and after a change.
use Rattle.std.proofs.Common.{suc, ◌≡◌, ℕ, ◌+◌, ◌≤◌, Bool, true, false, not, cond, List, ◌∷◌, length, drop, slice_get, Some, ap, sym, ◌∙◌, arith, rules}
use Rattle.std.specs.FinMap as map
use Rattle.std.proofs.lemmas.List.{drop_all}
use Rattle.groups.proofs.Maps.{drop_step, get-insert}
use Rattle.span.specs.Ids.{rank}
use Rattle.span.specs.State.{SpanState}
use Rattle.span.specs.declared.id.SpanId.{SpanId}
use Rattle.groups.specs.Dead.{AreEntered, dead_among, is_live}
use Rattle.groups.specs.Directory.{DirectoryState, entered, struck}

-- a directory is given by its parts
pub same_directory : (a b : DirectoryState) → a.entries ≡ b.entries → a.room ≡ b.room → a ≡ b
same_directory a b entries room i = record { entries = entries i; room = room i }

-- the guests from the first on are entered, up to this place; with the others it comes to all of them
pub record IsEntering (before now : DirectoryState) (guests : List SpanState) (head : SpanId) (first place : ℕ) : Type 0 where
  pub entries : entered now.entries (drop place guests) head (place + 1) ≡ entered before.entries (drop first guests) head (first + 1)
  pub room : now.room + place ≡ before.room + first
  pub least : first ≤ place

-- the spans before the index are struck; with the others it comes to all of them
pub record IsStriking (before now : DirectoryState) (spans : List SpanState) (index : ℕ) : Type 0 where
  pub entries : struck now.entries (drop index spans) ≡ struck before.entries spans
  pub room : now.room ≡ before.room

module _ (before now : DirectoryState) (spans : List SpanState) (index : ℕ) (is : IsStriking before now spans index) where
  pub IsStriking-next : (span : SpanState) → slice_get spans index ≡ Some span → IsStriking before (record now { entries = map.remove now.entries (rank span.id) }) spans (index + 1)
  IsStriking-next span here = search (rules, drop_step)

  pub IsStriking-all : length spans ≤ index → index ≤ length spans → now ≡ record before { entries = struck before.entries spans }
  IsStriking-all most least = search (rules, same_directory, drop_all)

-- the dead ones of the spans before the index are struck; with the others it comes to all of them
pub record IsStrikingDead (before now : DirectoryState) (spans : List SpanState) (index : ℕ) : Type 0 where
  pub entries : struck now.entries (dead_among (drop index spans)) ≡ struck before.entries (dead_among spans)
  pub room : now.room ≡ before.room

module _ (before now : DirectoryState) (spans : List SpanState) (index : ℕ) (is : IsStrikingDead before now spans index) where
  module _ (span : SpanState) (here : slice_get spans index ≡ Some span) where
    after : drop (index + 1) spans ≡ drop (suc index) spans
    after = let next : index + 1 ≡ suc index = omega arith in ap (λ n. drop n spans) next

    by_test : (b : Bool) → is_live span ≡ b
        → struck now.entries (dead_among (drop index spans))
        ≡ struck now.entries (cond (not b) (span ∷ dead_among (drop (suc index) spans)) (dead_among (drop (suc index) spans)))
    by_test b is_b = ap (λ left. struck now.entries (dead_among left)) (drop_step spans index span here)
        ∙ ap (λ c. struck now.entries (cond (not c) (span ∷ dead_among (drop (suc index) spans)) (dead_among (drop (suc index) spans)))) is_b

    pub IsStrikingDead-dead : is_live span ≡ false → IsStrikingDead before (record now { entries = map.remove now.entries (rank span.id) }) spans (index + 1)
    IsStrikingDead-dead dead = record {
      entries = ap (λ left. struck (map.remove now.entries (rank span.id)) (dead_among left)) after ∙ sym (by_test false dead) ∙ is.entries;
      room = is.room;
    }

    pub IsStrikingDead-live : is_live span ≡ true → IsStrikingDead before now spans (index + 1)
    IsStrikingDead-live live = record {
      entries = ap (λ left. struck now.entries (dead_among left)) after ∙ sym (by_test true live) ∙ is.entries;
      room = is.room;
    }

  pub IsStrikingDead-all : length spans ≤ index → index ≤ length spans → now ≡ record before { entries = struck before.entries (dead_among spans) }
  IsStrikingDead-all most least = search (rules, same_directory, drop_all)

-- the guests before the index are entered anew; with the others it comes to all of them, and each has an entry
pub record IsMoving (before now : DirectoryState) (guests : List SpanState) (head : SpanId) (index : ℕ) : Type 0 where
  pub entries : entered now.entries (drop index guests) head (index + 1) ≡ entered before.entries guests head 1
  pub room : now.room ≡ before.room
  pub there : AreEntered now.entries guests

module _ (before now : DirectoryState) (guests : List SpanState) (head : SpanId) (index : ℕ) (is : IsMoving before now guests head index) where
  pub IsMoving-next : (guest : SpanState) → slice_get guests index ≡ Some guest
      → IsMoving before (record now { entries = map.insert now.entries (rank guest.id) (record { head = head; place = index + 1 }) }) guests head (index + 1)
  IsMoving-next guest here = search (rules, after, drop_step, get-insert)
