use Rattle.std.proofs.Common.{◌≡◌, ap, subst, sym, is_some, IfSome}
use Rattle.span.proofs.Next.{first-held}
use Rattle.pool.specs.Shown.{shown}
use Rattle.groups.specs.Group.{IsElsewhere, IsHere}
use Rattle.pool.proofs.Here.{IsHere-read, place_within}
use Rattle.pool.proofs.ShownLogs.{value-elsewhere, value-here}
use Rattle.pool.proofs.pool.Pool.first_from.Goals as goal

pub returns-in_default-clause-first : goal.returns-in_default-clause-first
returns-in_default-clause-first g c = λ key same above. value-elsewhere c.args.self.now c.find.ensures.sound key (subst (IsElsewhere c.args.self.now.groups) (sym same) c.in_default.ensures.place)

pub span_at-requires : goal.span_at-requires
span_at-requires g c = let at = c.in-Some.ensures.place in place_within _ _ _ _ _ _ at.2

pub returns-clause-first : goal.returns-clause-first
returns-clause-first g c =
    let at = c.in-Some.ensures.place in
    let here = IsHere-read _ _ _ _ _ _ at.2 c.span_at.result.now c.span_at.ensures in
    first-held (shown c.args.self.now) c.args.id c.span_at.result.now.log c.args.slot
    (λ key same. ap is_some (value-here c.args.self.now c.find.ensures.sound key at.0 c.in-Some.place c.in-Some.group.now c.span_at.result.now
    (subst (λ id. IsHere c.args.self.now.groups id at.0 c.in-Some.place c.in-Some.group.now c.span_at.result.now) (sym same) here)))
    c.first_from.result c.first_from.ensures.first (subst (λ id. IfSome c.first_from.result (λ key. key.span ≡ id)) here.id_is c.first_from.ensures.span)
