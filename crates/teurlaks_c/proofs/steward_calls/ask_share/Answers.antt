use mathlib.Core.Logic.{inl, inr}
use Rattle.std.proofs.Common.{ap, refl}
use Rattle.std.specs.Prelude.{Some}
use Rattle.teurlaks_c.proofs.steward_calls.ask_share.Goals as goal

pub returns-in-Steward : goal.returns-in-Steward
returns-in-Steward g c = inl (record {
  before = c.in-Steward.steward;
  after = c.ask_steward.new.shared;
  before_is = ap Some c.in-Steward.is;
  after_is = refl;
  arena_is = c.ask_steward.ensures.arena;
  seats_are = c.ask_steward.ensures.seats;
  did = c.ask_steward.ensures.does;
})

pub returns-in-RecordedSteward : goal.returns-in-RecordedSteward
returns-in-RecordedSteward g c = inr (record {
  before = c.in-RecordedSteward.steward;
  after = c.ask_recorded_steward.new.shared;
  before_is = ap Some c.in-RecordedSteward.is;
  after_is = refl;
  arena_is = c.ask_recorded_steward.ensures.arena;
  seats_are = c.ask_recorded_steward.ensures.seats;
  did = c.ask_recorded_steward.ensures.does;
})
