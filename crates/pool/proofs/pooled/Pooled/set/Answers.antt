use Rattle.std.proofs.Common.{ℕ, ◌<◌, ◌≡◌, ◌∙◌, Some, length, slice_get, ap, refl, subst, sym}
use Rattle.span.specs.State.{IsSettable, SpanState}
use Rattle.span.specs.declared.class.Class.{Class}
use Rattle.page.specs.Words.{IsInObjects, PageState, page_of, set_object}
use Rattle.page.proofs.Zeros.{page_of-there}
use Rattle.groups.specs.Group.{spans_of}
use Rattle.groups.specs.Pages.{set_group}
use Rattle.groups.specs.Sound.{IsSoundGroup}
use Rattle.groups.specs.Spans.{with_set_at}
use Rattle.groups.proofs.StoredObjects.{paged_if_held}
use Rattle.pool.specs.State.{PooledState, group_of}
use Rattle.shard.proofs.ZeroPages.{IsPageOf-grown, IsPageOf-paged, class_kept, where_true}
use Rattle.pool.specs.Groups.{OnDone}
use Rattle.pool.proofs.SetPlace.{fits_page, page_to_set, set_grown, set_on_page, span_there}
use Rattle.pool.proofs.pooled.Pooled.set.Goals as goal

-- the words in memory end with an object of the span that is set
pub set_growing-requires-clause-whole : goal.set_growing-requires-clause-whole
set_growing-requires-clause-whole g c span here =
    subst (λ (class : Class). IsInObjects class c.self.inside.words.room) (sym ((subst IsSoundGroup (sym c.self.view_is) c.requires.sound).classes c.args.place span here).class_is)
    c.self.invariant.whole

pub invariant_of-self : goal.invariant_of-self
invariant_of-self g c =
    let sound = subst IsSoundGroup (sym c.self.view_is) c.requires.sound in
    let within = subst (λ (group : PooledState). c.args.place < length (spans_of group)) (sym c.self.view_is) c.requires.place in
    let page = page_of c.self.inside.is_paged c.self.inside.words.words in
    let group = group_of c.self.inside.spans page in
    let there = span_there c.self.inside.spans page sound c.args.place within c.args.slot c.args.generation c.args.words.now in
    IsPageOf-grown c.self.inside.spans c.set_growing.new.spans c.self.inside.is_paged c.self.inside.words c.set_growing.new.page c.args.place there.0 c.args.slot c.args.generation c.args.words.now
    (λ settable. page_of-there c.self.inside.is_paged c.self.inside.words.words (paged_if_held group sound c.args.place there.0 c.args.slot c.args.generation there.1 settable.0))
    there.1 (sound.classes c.args.place there.0 there.1).class_is c.self.invariant (c.set_growing.ensures.whole there.0 there.1)
    c.set_growing.result (c.set_growing.ensures.found there.0 there.1) (c.set_growing.ensures.set there.0 there.1) c.set_growing.ensures.unknown c.set_growing.ensures.kept
    c.set_growing.ensures.err c.set_growing.ensures.same

pub returns-then-not-takes-clause-set : goal.returns-then-not-takes-clause-set
returns-then-not-takes-clause-set g c =
    let sound = subst IsSoundGroup (sym c.self.view_is) c.requires.sound in
    let group = group_of c.self.inside.spans (page_of c.self.inside.is_paged c.self.inside.words.words) in
    subst (λ (group : PooledState). (span : SpanState) → slice_get (spans_of group) c.args.place ≡ Some span
    → OnDone c.set_growing.result (group_of c.set_growing.new.spans (page_of c.self.inside.is_paged c.set_growing.new.page.words)
    ≡ set_group group c.args.place span c.args.slot c.args.generation c.args.words.now))
    c.self.view_is
    (λ span here. set_grown c.self.inside.spans c.set_growing.new.spans c.self.inside.is_paged c.self.inside.words c.set_growing.new.page c.args.place span c.args.slot c.args.generation c.args.words.now
    (λ settable. page_of-there c.self.inside.is_paged c.self.inside.words.words (paged_if_held group sound c.args.place span c.args.slot c.args.generation here settable.0))
    c.set_growing.result (c.set_growing.ensures.found span here) (c.set_growing.ensures.set span here) (c.set_growing.ensures.page span here))

-- the slot is on the page, and the words are as many as one of its objects has
pub set_at-requires-clause-on_page : goal.set_at-requires-clause-on_page
set_at-requires-clause-on_page g c =
    rw c.class-class.ensures (fits_page c.self.inside.spans (page_of c.self.inside.is_paged c.self.inside.words.words)
    (subst IsSoundGroup (sym c.self.view_is) c.requires.sound) c.args.place (subst (λ (group : PooledState). c.args.place < length (spans_of group)) (sym c.self.view_is) c.requires.place)
    c.args.slot c.args.generation c.args.words.now c.in_ok-set.field-0 c.if-not-branch.false (c.in_ok-set.ensures {u = tt}).found).0

pub set_at-requires-clause-width : goal.set_at-requires-clause-width
set_at-requires-clause-width g c =
    rw c.class-class.ensures (fits_page c.self.inside.spans (page_of c.self.inside.is_paged c.self.inside.words.words)
    (subst IsSoundGroup (sym c.self.view_is) c.requires.sound) c.args.place (subst (λ (group : PooledState). c.args.place < length (spans_of group)) (sym c.self.view_is) c.requires.place)
    c.args.slot c.args.generation c.args.words.now c.in_ok-set.field-0 c.if-not-branch.false (c.in_ok-set.ensures {u = tt}).found).1

-- its key is live, and so there is a page
pub invariant_of-self-2 : goal.invariant_of-self-2
invariant_of-self-2 g c =
    let sound = subst IsSoundGroup (sym c.self.view_is) c.requires.sound in
    let within = subst (λ (group : PooledState). c.args.place < length (spans_of group)) (sym c.self.view_is) c.requires.place in
    let page = page_of c.self.inside.is_paged c.self.inside.words.words in
    let there = span_there c.self.inside.spans page sound c.args.place within c.args.slot c.args.generation c.args.words.now in
    let done = where_true c.in_ok-set.field-0 c.if-not-branch.false ((c.in_ok-set.ensures {u = tt}).set there.0 there.1) in
    let paged = page_to_set c.self.inside.spans page sound c.args.place within c.args.slot c.args.generation c.args.words.now
    c.in_ok-set.field-0 c.if-not-branch.false (c.in_ok-set.ensures {u = tt}).found in
    IsPageOf-paged c.set.new.self.head.class c.self.inside.is_paged c.set_at.new.self
    (subst (λ (class : Class). IsInObjects class c.set_at.new.self.room) (sym (class_kept c.self.inside.spans c.set.new.self c.args.place there.0 (with_set_at there.0 c.args.slot c.args.generation c.args.words.now) refl there.1 done))
    (subst (λ (room : ℕ). IsInObjects c.self.inside.spans.head.class room) (sym (ap (λ (page : PageState). page.room) c.set_at.ensures)) c.self.invariant.whole))
    (page_of-there c.self.inside.is_paged c.self.inside.words.words paged)

pub returns-clause-set : goal.returns-clause-set
returns-clause-set g c =
    let sound = subst IsSoundGroup (sym c.self.view_is) c.requires.sound in
    let within = subst (λ (group : PooledState). c.args.place < length (spans_of group)) (sym c.self.view_is) c.requires.place in
    let page = page_of c.self.inside.is_paged c.self.inside.words.words in
    let paged = page_to_set c.self.inside.spans page sound c.args.place within c.args.slot c.args.generation c.args.words.now
    c.in_ok-set.field-0 c.if-not-branch.false (c.in_ok-set.ensures {u = tt}).found in
    subst (λ (group : PooledState). (span : SpanState) → slice_get (spans_of group) c.args.place ≡ Some span
    → group_of c.set.new.self (page_of c.self.inside.is_paged c.set_at.new.self.words) ≡ set_group group c.args.place span c.args.slot c.args.generation c.args.words.now)
    c.self.view_is
    (λ span here. set_on_page c.self.inside.spans c.set.new.self c.self.inside.words.words c.set_at.new.self.words c.self.inside.is_paged paged c.args.place span
    c.args.slot c.args.generation c.args.words.now (where_true c.in_ok-set.field-0 c.if-not-branch.false ((c.in_ok-set.ensures {u = tt}).set span here))
    (ap (λ (page : PageState). page.words) c.set_at.ensures
    ∙ ap (λ (class : Class). set_object c.self.inside.words.words class c.args.slot c.args.words.now) (c.class-class.ensures ∙ sym (sound.classes c.args.place span here).class_is)))
