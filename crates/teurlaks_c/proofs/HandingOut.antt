-- Seats of an arena that its steward hands out.
use mathlib.Core.Logic.{inl, inr}
use Rattle.std.proofs.Common.{◌≡◌, ◌++◌, ◌∷◌, [], ℕ, ◌<◌, List, ap, arith, get_or, length, map, refl, sym, ◌∙◌}
use Rattle.std.specs.Prelude.{Option, Result, Ok, Err, MatchResult, Some, None}
use Rattle.std.specs.List.{range_with_len}
use Rattle.std.proofs.Math.Seq.{append_snoc}
use Rattle.std.proofs.lemmas.List.{get_or-map, length-map, map-append}
use Rattle.marks.specs.Numbers.{Limits}
use Rattle.arena.specs.Seats.{SeatState, first_standing, standing}
use Rattle.teurlaks_c.specs.declared.share.Share.{Share}
use Rattle.teurlaks_c.specs.declared.share.Share.TheVariants.{Steward, RecordedSteward}
use Rattle.teurlaks_c.specs.declared.recorded.KeptSeat.{KeptSeat}
use Rattle.teurlaks_c.specs.declared.recorded.RecordedSteward.{RecordedSteward as Recorder}
use Rattle.teurlaks_c.specs.declared.share.SharedSteward.{SharedSteward}
use Rattle.teurlaks_c.specs.StewardCalls.{HandsOut, HandsOutKept, HandsOutOf, LeavesSeat}

-- the seats of a new arena are of its numbers
pub standing-limits : (limits : Limits) (n : ℕ) (seats : List SeatState) → map standing seats ≡ map (first_standing limits) (range_with_len 0 n)
    → (k : ℕ) (d : SeatState) → k < length seats → (get_or seats k d).limits ≡ limits
standing-limits limits n seats is k d below =
    let numbers = range_with_len 0 n in
    let long = ap length is in
    let below_numbers : k < length numbers = omega (arith, long, length-map seats standing, length-map numbers (first_standing limits)) in
    let here = get_or-map standing seats k d (standing d) below in
    let there = get_or-map (first_standing limits) numbers k 0 (standing d) below_numbers in
    ap (λ s. s.limits) (sym here ∙ ap (λ l. get_or l k (standing d)) is ∙ there)

-- what comes next goes from the front of what is left to the end of what is done
pub pushed : {A B : Type 0} (f : A → B) (done : List A) (x : A) (new : List A) (left more all : List B) (y : B)
    → new ≡ done ++ x ∷ [] → f x ≡ y → left ≡ y ∷ more → map f done ++ left ≡ all → map f new ++ more ≡ all
pushed f done x new left more all y new_is x_is left_is whole =
    ap (λ l. map f l ++ more) new_is ∙ ap (λ l. l ++ more) (map-append f done (x ∷ [])) ∙ append_snoc (map f done) (f x) more
    ∙ ap (λ z. map f done ++ z ∷ more) x_is ∙ ap (λ l. map f done ++ l) (sym left_is) ∙ whole

-- so are seats that were given a list of receipts each
pub kept-limits : (limits : Limits) (n : ℕ) (seats : List SeatState) (kept : List KeptSeat)
    → map standing seats ≡ map (first_standing limits) (range_with_len 0 n)
    → map (λ kept. kept.seat) kept ≡ seats → (k : ℕ) (d : KeptSeat) → k < length kept → (get_or kept k d).seat.limits ≡ limits
kept-limits limits n seats kept is seats_are k d below =
    let here = get_or-map (λ (kept : KeptSeat). kept.seat) kept k d d.seat below in
    let below_seats : k < length seats = omega (arith, ap length seats_are, length-map kept (λ (kept : KeptSeat). kept.seat)) in
    ap (λ s. s.limits) (sym here ∙ ap (λ l. get_or l k d.seat) seats_are) ∙ standing-limits limits n seats is k d.seat below_seats

-- what a steward hands out, its handle's steward does
pub HandsOutSeat-of : {B : Type 0} (of : B → Share) (old : Option Share) (before after : SharedSteward) → old ≡ Some (Steward before)
    → after.arena ≡ before.arena → after.inner ≡ before.inner
    → (r : Result B ℕ) → MatchResult r (λ b. HandsOutOf before 0 after (Some (of b))) (λ status. HandsOutOf before status after None)
    → MatchResult r (λ b. HandsOut old 0 (Some (Steward after)) (Some (of b))) (λ status. LeavesSeat old None status (Some (Steward after)) None)
HandsOutSeat-of of old before after is arena inner (Ok b) handed =
    inl (record { before = before; after = after; before_is = is; after_is = refl; arena_is = arena; inner_is = inner; handed = handed })
HandsOutSeat-of of old before after is arena inner (Err status) handed =
    inr (inl (record { before = before; after = after; before_is = is; after_is = refl; arena_is = arena; inner_is = inner; handed = handed }))

-- the same of the steward of a recorded arena
pub HandsOutRecorded-of : {B : Type 0} (of : B → Share) (old : Option Share) (before after : Recorder) → old ≡ Some (RecordedSteward before)
    → after.arena ≡ before.arena → after.inner ≡ before.inner
    → (r : Result B ℕ) → MatchResult r (λ b. HandsOutKept before 0 after (Some (of b))) (λ status. HandsOutKept before status after None)
    → MatchResult r (λ b. HandsOut old 0 (Some (RecordedSteward after)) (Some (of b)))
    (λ status. LeavesSeat old None status (Some (RecordedSteward after)) None)
HandsOutRecorded-of of old before after is arena inner (Ok b) handed =
    inr (record { before = before; after = after; before_is = is; after_is = refl; arena_is = arena; inner_is = inner; handed = handed })
HandsOutRecorded-of of old before after is arena inner (Err status) handed =
    inr (inr (record { before = before; after = after; before_is = is; after_is = refl; arena_is = arena; inner_is = inner; handed = handed }))
