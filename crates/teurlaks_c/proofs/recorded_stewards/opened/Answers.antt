use Rattle.std.proofs.Common.{ap, arith, length, refl, sym, ◌∙◌}
use Rattle.std.proofs.lemmas.List.{length-map}
use Rattle.marks.specs.Numbers.{Limits}
use Rattle.arena.specs.Stewards.{new_steward}
use Rattle.teurlaks_c.specs.declared.recorded.KeptSeat.{KeptSeat}
use Rattle.teurlaks_c.proofs.HandingOut.{kept-limits}
use Rattle.teurlaks_c.proofs.recorded_stewards.opened.Goals as goal

pub invariant_of-result : goal.invariant_of-result
invariant_of-result c =
    let numbers = sym (ap (λ arena. arena.limits) c.in-Ok.ensures.ok) in
    let opened = c.in_ok-arena.ensures in
    record {
      fits = ap (λ s. s.limits) opened.steward ∙ numbers;
      seats_fit = λ k d below.
          kept-limits c.in_ok-arena.arena.limits c.args.limits.shards c.in_ok-arena.seats.items c.in_ok-seats.seats.items opened.standing c.in_ok-seats.ensures.seats k
          d below ∙ numbers;
    }

pub returns : goal.returns
returns c =
    let opened = c.in_ok-arena.ensures in
    let kept = c.in_ok-seats in
    record {
      steward = _;
      is = refl;
      state = opened.steward ∙ ap new_steward opened.numbers;
      last = refl;
      seats = omega (
        arith,
        kept.seats.ok.0,
        ap length kept.ensures.seats,
        length-map kept.seats.items (λ (one : KeptSeat). one.seat),
        opened.seats.each,
        ap (λ (limits : Limits). limits.shards) opened.numbers,
      );
      none = kept.ensures.none;
    }
