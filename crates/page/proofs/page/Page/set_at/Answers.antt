use borrow.Rule.Slice.PartMut.{put_mid}
use Rattle.std.proofs.Common.{◌≡◌, ◌+◌, ◌-◌, ◌*◌, ◌≤◌, ◌∙◌, ap, get_or, length, arith, refl, subst, sym}
use Rattle.std.proofs.lemmas.List.{with_items_is}
use Rattle.std.proofs.Math.Nat.{one-mul}
use Rattle.span.specs.Classes.{width_of}
use Rattle.page.specs.Words.{IsInObjects, PageState, Takes, page_with, with_object}
use Rattle.page.proofs.Padded.{length-pasted, page-beyond, page-run, page-word}
use Rattle.page.proofs.page.Page.set_at.Goals as goal

pub returns-then-first-len : goal.returns-then-first-len
returns-then-first-len c =
    page-word c.self.inside.words.items c.args.class c.args.slot c.from-first.result c.args.object.now (get_or c.args.object.now 0 0) (sym c.requires.width ∙ c.if-object-eq1.true)
    c.from-first.ensures (omega (arith, c.if-first-len.true, c.len.ensures, c.self.inside.words.ok.0)) refl
    ∙ ap (λ (page : PageState). with_object page c.args.class c.args.slot c.args.object.now) c.self.view_is

pub returns-else-first-len : goal.returns-else-first-len
returns-else-first-len c =
    let one : width_of c.args.class ≡ 1 = sym c.requires.width ∙ c.if-object-eq1.true in
    let is : width_of c.args.class * c.args.slot ≡ c.from-first.result = ap (λ n. n * c.args.slot) one ∙ one-mul c.args.slot ∙ sym c.from-first.ensures in
    subst (λ (page : PageState). IsInObjects c.args.class page.room → Takes page c.args.class c.args.slot c.args.object.now → page ≡ with_object page c.args.class c.args.slot c.args.object.now)
    c.self.view_is
    (page-beyond c.self.inside.words.items c.args.class c.args.slot c.args.object.now (omega (arith, is, one, c.if-first-len.false)))
    c.requires.whole c.requires.takes

pub returns-then-first-object : goal.returns-then-first-object
returns-then-first-object c =
    let object = c.args.object.now in
    let items = c.self.inside.words.items in
    let first = length object * c.from.result in
    let many : first + length object - first ≡ length object = omega arith in
    let is : first ≡ width_of c.args.class * c.args.slot = λ i. c.requires.width i * c.from.ensures i in
    let pasted : put_mid first (first + length object - first) c.deref_mut.result.now c.copy_from_slice.new.self ≡ put_mid first (length object) items object =
    λ i. put_mid first (many i) (c.deref_mut.ensures.value i) (c.copy_from_slice.ensures.after i) in
    let within : first + length object ≤ length items = omega (arith, c.if-first-object.true, c.len-2.ensures, c.self.inside.words.ok.0) in
    let long = ap length pasted ∙ length-pasted items object first (length object) within refl in
    ap page_with (with_items_is c.self.inside.words _ (omega (arith, long, c.self.inside.words.ok.0)) ∙ pasted)
    ∙ page-run items c.args.class c.args.slot first object is c.requires.width within
    ∙ ap (λ (page : PageState). with_object page c.args.class c.args.slot object) c.self.view_is

pub returns-else-first-object : goal.returns-else-first-object
returns-else-first-object c =
    let is : length c.args.object.now * c.from.result ≡ width_of c.args.class * c.args.slot = λ i. c.requires.width i * c.from.ensures i in
    subst (λ (page : PageState). IsInObjects c.args.class page.room → Takes page c.args.class c.args.slot c.args.object.now → page ≡ with_object page c.args.class c.args.slot c.args.object.now)
    c.self.view_is
    (page-beyond c.self.inside.words.items c.args.class c.args.slot c.args.object.now (omega (arith, is, c.requires.width, c.if-first-object.false)))
    c.requires.whole c.requires.takes
