use Rattle.std.proofs.Common.{◌∙◌, ap, refl, subst, sym}
use Rattle.std.proofs.lemmas.Bool.{true≢false}
use Rattle.shard.specs.State.{ShardState}
use Rattle.groups.specs.Group.{IsHere}
use Rattle.shard.specs.Sound.{IsSound}
use Rattle.shard.specs.declared.shard.Found.TheVariants.{Gone, Value}
use Rattle.shard.proofs.Here.{found_in, here_read, read_is}
use Rattle.shard.proofs.ShownLogs.{value_found-Gets}
use Rattle.shard.proofs.shard.Shard.get_at.Goals as goal

pub returns-then-holds-clause-found : goal.returns-then-holds-clause-found
returns-then-holds-clause-found g c =
    let found = found_in c.args.self.now.groups c.self.inside.groups.items c.args.key.now.span c.args.index c.args.place
    (ap (λ (s : ShardState). s.groups) (sym c.self.view_is)) c.requires in
    let here = here_read _ _ _ _ found.0 found.1 found.2 c.index-group.result.now c.index-group.ensures c.span_at-span.result.now c.span_at-span.ensures in (
      c.args.index,
      c.args.place,
      c.index-group.result.now,
      c.span_at-span.result.now,
      subst (λ (s : ShardState). IsHere s.groups c.args.key.now.span c.args.index c.args.place c.index-group.result.now c.span_at-span.result.now) c.self.view_is here,
      c.if-holds.ensures.live.0 refl,
      rw (← c.class-class.ensures.class) c.value_at-words.ensures.object,
      c.changes-at.ensures,
    )

pub returns-then-holds-clause-plain : goal.returns-then-holds-clause-plain
returns-then-holds-clause-plain g c = value_found-Gets c.args.self.now (subst IsSound c.self.view_is c.self.invariant.sound) c.args.key.now (Value c.value_at-words.result c.changes-at.result) (returns-then-holds-clause-found g c)

pub returns-else-holds-clause-found : goal.returns-else-holds-clause-found
returns-else-holds-clause-found g c =
    let found = found_in c.args.self.now.groups c.self.inside.groups.items c.args.key.now.span c.args.index c.args.place
    (ap (λ (s : ShardState). s.groups) (sym c.self.view_is)) c.requires in
    let here = here_read _ _ _ _ found.0 found.1 found.2 c.index-group.result.now c.index-group.ensures c.span_at-span.result.now c.span_at-span.ensures in (
      c.args.index,
      c.args.place,
      c.index-group.result.now,
      c.span_at-span.result.now,
      subst (λ (s : ShardState). IsHere s.groups c.args.key.now.span c.args.index c.args.place c.index-group.result.now c.span_at-span.result.now) c.self.view_is here,
      (λ holds. true≢false (sym (c.if-holds.ensures.live.1 holds))),
      c.changes-at.ensures,
    )

pub returns-else-holds-clause-plain : goal.returns-else-holds-clause-plain
returns-else-holds-clause-plain g c = value_found-Gets c.args.self.now (subst IsSound c.self.view_is c.self.invariant.sound) c.args.key.now (Gone c.changes-at.result) (returns-else-holds-clause-found g c)

pub value_at-words-requires-clause-on_page : goal.value_at-words-requires-clause-on_page
value_at-words-requires-clause-on_page g c = rw c.class-class.ensures.class c.if-holds.ensures.on_page

pub value_at-words-requires-clause-class : goal.value_at-words-requires-clause-class
value_at-words-requires-clause-class g c =
    let found = found_in c.args.self.now.groups c.self.inside.groups.items c.args.key.now.span c.args.index c.args.place
    (ap (λ (s : ShardState). s.groups) (sym c.self.view_is)) c.requires in
    let group = c.index-group.result.now in
    let read = read_is _ _ _ _ found.0 found.1 found.2 group c.index-group.ensures in
    c.class-class.ensures.class ∙ ((c.self.invariant.sound.groups c.args.index group read).classes c.args.place c.span_at-span.result.now c.span_at-span.ensures).class_is
