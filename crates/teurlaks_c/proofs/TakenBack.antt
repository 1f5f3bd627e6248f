-- A steward that takes a seat back.
use mathlib.Core.Logic.{inl, inr}
use Rattle.std.proofs.Common.{◌≡◌, ◌∙◌, ◌∷◌, ◌++◌, [], ℕ, ap, refl, subst, sym}
use Rattle.std.specs.Prelude.{Option, Some, None}
use Rattle.teurlaks_c.specs.Leaving.{IsNotTaken, IsSameSteward, LeavesFor, Takes}
use Rattle.teurlaks_c.specs.declared.share.Share.{Share}
use Rattle.teurlaks_c.specs.declared.share.Share.TheVariants.{Seat, Session, Steward, RecordedSeat, RecordedSteward}

-- room that was made for a seat is no change
pub taken_after : (old mid left after : Share) → IsSameSteward old mid → Takes mid left after → Takes old left after
taken_after (Steward old) (Steward mid) (Seat left) (Steward after) same taken = record {
  fits = rw (← same.0) taken.fits;
  back = taken.back;
  arena_is = taken.arena_is ∙ same.0;
  inner_is = taken.inner_is ∙ same.1;
  seats_are = taken.seats_are ∙ ap (λ l. l ++ taken.back ∷ []) same.2;
  handed = taken.handed;
}
taken_after (Steward old) (Steward mid) (Session left) (Steward after) same taken = record {
  fits = rw (← same.0) taken.fits;
  back = taken.back;
  arena_is = taken.arena_is ∙ same.0;
  inner_is = taken.inner_is ∙ same.1;
  seats_are = taken.seats_are ∙ ap (λ l. l ++ taken.back ∷ []) same.2;
  handed = taken.handed;
}
taken_after (RecordedSteward old) (RecordedSteward mid) (RecordedSeat left) (RecordedSteward after) same taken = record {
  fits = rw (← same.0) taken.fits;
  back = taken.back;
  arena_is = taken.arena_is ∙ same.0;
  inner_is = taken.inner_is ∙ same.1;
  seats_are = taken.seats_are ∙ ap (λ l. l ++ taken.back ∷ []) same.2;
  handed = taken.handed;
  receipts = taken.receipts;
}
taken_after (Steward old) (Steward mid) left after same taken = absurd taken
taken_after (RecordedSteward old) (RecordedSteward mid) left after same taken = absurd taken
taken_after old (Steward mid) left after same taken = absurd cc
taken_after old (RecordedSteward mid) left after same taken = absurd cc
taken_after old mid left after same taken = absurd taken

-- a seat of the handle is taken
pub left_for : (steward mid left after : Share) (seat : Option Share) → seat ≡ Some left → IsSameSteward steward mid → Takes mid left after
    → LeavesFor (Some steward) seat 0 (Some after) None
left_for steward mid left after seat is same taken =
    subst (λ s. LeavesFor (Some steward) s 0 (Some after) None) (sym is) (after, refl, inl (refl, refl, taken_after steward mid left after same taken))

-- it is not, and is back in its handle
pub not_left_for : (steward after left : Share) (seat seat_new : Option Share) (says : ℕ) → seat ≡ Some left → seat_new ≡ Some left
    → IsSameSteward steward after
    → IsNotTaken steward left says → LeavesFor (Some steward) seat says (Some after) seat_new
not_left_for steward after left seat seat_new says is back same why =
    subst (λ s. LeavesFor (Some steward) s says (Some after) seat_new) (sym is) (after, refl, inr (back, same, why))
