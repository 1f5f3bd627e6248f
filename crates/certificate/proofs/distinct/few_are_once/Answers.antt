use Rattle.std.proofs.Common.{◌∙◌, sym, ◌<◌, arith, false, length, refl, take, rules}
use Rattle.std.proofs.lemmas.Bool.{both_ways, not-false, not-true}
use Rattle.std.proofs.lemmas.List.{take_all}
use Rattle.certificate.specs.Chosen.{ids_in}
use Rattle.certificate.proofs.Places.{AreOnce-more, AreOnce-refuted, HasSeen-next}
use Rattle.certificate.proofs.distinct.few_are_once.Goals as goal

pub loop-k-init : goal.loop-k-init
loop-k-init c = record { seen = λ place d within. c.empty-seen.ensures place; once = λ i j d less within has. absurd (omega arith) }

pub returns-then-not-is_new : goal.returns-then-not-is_new
returns-then-not-is_new c =
    let ids = ids_in c.args.list.now in
    let k = c.loop-k.k in
    let low : k < length ids = omega (arith, c.loop-k-test.true, c.len-k-end.ensures) in (
      λ found. absurd (both_ways false refl found),
      λ once. absurd (AreOnce-refuted c.args.entries.now ids k c.at.result low c.at.ensures
          (not-false _ (sym (c.is_new.ensures.new (take k ids) c.loop-k.invariant.seen) ∙ c.if-not-is_new.true)) once),
    )

pub loop-k-preserved : goal.loop-k-preserved
loop-k-preserved c =
    let ids = ids_in c.args.list.now in
    let k = c.loop-k.k in
    let low : k < length ids = omega (arith, c.loop-k-test.true, c.len-k-end.ensures) in
    record {
      seen = HasSeen-next c.args.entries.now ids k c.at.result low c.at.ensures c.is_new.new.seen.words (c.is_new.ensures.seen (take k ids) c.loop-k.invariant.seen);
      once = AreOnce-more c.args.entries.now ids k c.at.result low c.at.ensures c.loop-k.invariant.once
          (not-true _ (sym (c.is_new.ensures.new (take k ids) c.loop-k.invariant.seen) ∙ c.if-not-is_new.false));
    }

pub returns : goal.returns
returns c = search (rules, take_all)
