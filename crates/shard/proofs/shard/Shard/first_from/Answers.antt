use Rattle.std.proofs.Common.{◌≡◌, ap, arith, subst, sym, is_some}
use Rattle.std.specs.Prelude.{IfSome}
use Rattle.span.proofs.Next.{first-held}
use Rattle.shard.specs.Shown.{shown}
use Rattle.shard.specs.State.{ShardState}
use Rattle.groups.specs.Group.{IsElsewhere, IsHere}
use Rattle.shard.proofs.Here.{found_in, here_read, index_within, place_within}
use Rattle.shard.proofs.ShownLogs.{value-elsewhere, value-here}
use Rattle.shard.proofs.shard.Shard.first_from.Goals as goal

pub returns-in_default-clause-first : goal.returns-in_default-clause-first
returns-in_default-clause-first g c = λ key same above. value-elsewhere c.args.self.now c.find.ensures.sound key (subst (IsElsewhere c.args.self.now.groups) (sym same) c.in_default.ensures.place)

pub index-requires : goal.index-requires
index-requires g c =
    let found = found_in c.args.self.now.groups c.self.inside.groups.items c.args.id c.in-Some.index c.in-Some.place (ap (λ (s : ShardState). s.groups) (sym c.self.view_is)) c.in-Some.ensures.place in
    omega (arith, index_within _ _ _ _ found.0 found.1 found.2)

pub span_at-requires : goal.span_at-requires
span_at-requires g c =
    let found = found_in c.args.self.now.groups c.self.inside.groups.items c.args.id c.in-Some.index c.in-Some.place (ap (λ (s : ShardState). s.groups) (sym c.self.view_is)) c.in-Some.ensures.place in
    place_within _ _ _ _ found.0 found.1 found.2 c.index.result.now c.index.ensures

pub returns-clause-first : goal.returns-clause-first
returns-clause-first g c =
    let found = found_in c.args.self.now.groups c.self.inside.groups.items c.args.id c.in-Some.index c.in-Some.place (ap (λ (s : ShardState). s.groups) (sym c.self.view_is)) c.in-Some.ensures.place in
    let here : IsHere c.args.self.now.groups c.args.id c.in-Some.index c.in-Some.place c.index.result.now c.span_at.result.now =
    subst (λ (s : ShardState). IsHere s.groups c.args.id c.in-Some.index c.in-Some.place c.index.result.now c.span_at.result.now) c.self.view_is
    (here_read _ _ _ _ found.0 found.1 found.2 c.index.result.now c.index.ensures c.span_at.result.now c.span_at.ensures) in
    first-held (shown c.args.self.now) c.args.id c.span_at.result.now.log c.args.slot
    (λ key same. ap is_some (value-here c.args.self.now c.find.ensures.sound key c.in-Some.index c.in-Some.place c.index.result.now c.span_at.result.now
    (subst (λ id. IsHere c.args.self.now.groups id c.in-Some.index c.in-Some.place c.index.result.now c.span_at.result.now) (sym same) here)))
    c.first_from.result c.first_from.ensures.first (subst (λ id. IfSome c.first_from.result (λ key. key.span ≡ id)) here.id_is c.first_from.ensures.span)
