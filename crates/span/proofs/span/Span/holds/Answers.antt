use Rattle.std.proofs.Common.{◌≡◌, Bool, true, false, refl, rules}
use Rattle.std.specs.Bool.{OnTrue}
use Rattle.span.specs.Marks.{marks_of}
use Rattle.span.proofs.Keeping.{Holds-kept, kept-Holds}
use Rattle.span.proofs.OfClass.{Holds-on_page}
use Rattle.span.proofs.span.Span.holds.Goals as goal

pub returns-clause-live : goal.returns-clause-live
returns-clause-live g c = search (rules, kept-Holds, Holds-kept)

on_true : (b : Bool) {P : Type 0} → (b ≡ true → P) → OnTrue b P
on_true true p = p refl
on_true false p = tt

pub returns-clause-on_page : goal.returns-clause-on_page
returns-clause-on_page g c =
    let inside = c.self.inside in
    let log = g.L.Log.changes inside.log in
    rw (← c.self.view_is) (on_true _ (λ yes.
    Holds-on_page inside.class log c.args.slot c.args.generation c.self.invariant.of_class
    (kept-Holds inside.gens log (marks_of inside.marks) c.self.invariant.follows c.args.slot c.ranges.slot.fits c.args.generation (c.is_at.ensures.0 yes))))
