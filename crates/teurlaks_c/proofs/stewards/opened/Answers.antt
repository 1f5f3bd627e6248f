use Rattle.std.proofs.Common.{ap, arith, refl, sym, ◌∙◌}
use Rattle.marks.specs.Numbers.{Limits}
use Rattle.arena.specs.Stewards.{new_steward}
use Rattle.teurlaks_c.proofs.HandingOut.{standing-limits}
use Rattle.teurlaks_c.proofs.stewards.opened.Goals as goal

pub invariant_of-result : goal.invariant_of-result
invariant_of-result c =
    let numbers = sym (ap (λ arena. arena.limits) c.in-Ok.ensures.ok) in
    let opened = c.in_ok-arena.ensures in
    record {
      fits = ap (λ s. s.limits) opened.steward ∙ numbers;
      seats_fit = λ k d below. standing-limits c.in_ok-arena.arena.limits c.args.limits.shards c.in_ok-arena.seats.items opened.standing k d below ∙ numbers;
    }

pub returns : goal.returns
returns c =
    let opened = c.in_ok-arena.ensures in
    record {
      steward = _;
      is = refl;
      state = opened.steward ∙ ap new_steward opened.numbers;
      last = refl;
      seats = omega (arith, c.in_ok-arena.seats.ok.0, opened.seats.each, ap (λ (limits : Limits). limits.shards) opened.numbers);
    }
