use Rattle.std.proofs.Common.{◌∙◌, ap, refl, sym, true≢false}
use Rattle.span.proofs.Widths.{IsObject-width}
use Rattle.page.specs.Words.{object_in}
use Rattle.groups.specs.Pages.{words_of}
use Rattle.shard.specs.declared.shard.Found.TheVariants.{Gone, NotHere, Value}
use Rattle.pool.proofs.Here.{IsHere-read, place_within}
use Rattle.groups.proofs.StoredObjects.{page_if_held, paged_if_held}
use Rattle.pool.proofs.ShownLogs.{value_found-Gets}
use Rattle.pool.proofs.pool.Pool.get.Goals as goal

pub returns-in_default-clause-found : goal.returns-in_default-clause-found
returns-in_default-clause-found g c = c.in_default.ensures.place

pub returns-in_default-clause-plain : goal.returns-in_default-clause-plain
returns-in_default-clause-plain g c = value_found-Gets c.args.self.now c.find.ensures.sound c.args.key.now NotHere c.in_default.ensures.place

pub span_at-span-requires : goal.span_at-span-requires
span_at-span-requires g c = let at = c.in-Some.ensures.place in place_within _ _ _ _ _ _ at.2

pub returns-then-not-holds-clause-found : goal.returns-then-not-holds-clause-found
returns-then-not-holds-clause-found g c =
    let at = c.in-Some.ensures.place in
    let here = IsHere-read _ _ _ _ _ _ at.2 c.span_at-span.result.now c.span_at-span.ensures in
    (at.0, c.in-Some.place, c.in-Some.group.now, c.span_at-span.result.now, here, (λ holds. true≢false (sym (c.if-not-holds.ensures.live.1 holds))), c.changes-at.ensures)

pub returns-then-not-holds-clause-plain : goal.returns-then-not-holds-clause-plain
returns-then-not-holds-clause-plain g c = value_found-Gets c.args.self.now c.find.ensures.sound c.args.key.now (Gone c.changes-at.result) (returns-then-not-holds-clause-found g c)

pub value_at-words-requires-clause-paged : goal.value_at-words-requires-clause-paged
value_at-words-requires-clause-paged g c =
    let at = c.in-Some.ensures.place in
    paged_if_held c.in-Some.group.now
    (c.find.ensures.sound.groups at.0 c.in-Some.group.now at.2.group_is) c.in-Some.place c.span_at-span.result.now c.args.key.now.slot
    c.args.key.now.generation c.span_at-span.ensures
    (c.if-not-holds.ensures.live.0 refl)

pub returns-clause-found : goal.returns-clause-found
returns-clause-found g c =
    let at = c.in-Some.ensures.place in
    let group = c.in-Some.group.now in
    let span = c.span_at-span.result.now in
    let holds = c.if-not-holds.ensures.live.0 refl in
    let page = page_if_held group (c.find.ensures.sound.groups at.0 group at.2.group_is) c.in-Some.place span c.args.key.now.slot c.args.key.now.generation c.span_at-span.ensures holds in (
      at.0,
      c.in-Some.place,
      page.0,
      group,
      span,
      IsHere-read _ _ _ _ _ _ at.2 span c.span_at-span.ensures,
      page.1,
      holds,
      c.value_at-words.ensures.object ∙ rw c.class.ensures.class (ap (λ page. object_in (words_of page) span.class c.args.key.now.slot) page.1),
      c.changes-at.ensures,
    )

pub returns-clause-plain : goal.returns-clause-plain
returns-clause-plain g c = value_found-Gets c.args.self.now c.find.ensures.sound c.args.key.now (Value c.value_at-words.result c.changes-at.result) (returns-clause-found g c)

pub returns-clause-width : goal.returns-clause-width
returns-clause-width g c = IsObject-width c.value_at-words.result.now c.class.result c.value_at-words.ensures.width

pub value_at-words-requires-clause-class : goal.value_at-words-requires-clause-class
value_at-words-requires-clause-class g c =
    let at = c.in-Some.ensures.place in
    c.class.ensures.class ∙ ((c.find.ensures.sound.groups at.0 c.in-Some.group.now at.2.group_is).classes c.in-Some.place c.span_at-span.result.now c.span_at-span.ensures).class_is
