use Rattle.std.proofs.Common.{◌≡◌, ◌≤◌, length, take}
use Rattle.std.specs.List.{filter}
use Rattle.certificate.specs.Chosen.{fits_among, is_of_class}
use Rattle.certificate.proofs.Places.{HasAdded}
use Rattle.certificate.proofs.partner.add_places.Given as goal

abbrev pub invariant-loop-place : goal.invariant-loop-place
invariant-loop-place l = record {
  before : l.row ≡ length (filter (is_of_class l.number) (take l.place l.owned));
  few : l.row ≤ l.place;
  added : HasAdded (fits_among l.number l.sets) l.owned l.place l.initial.fitting.words l.fitting.words;
}
