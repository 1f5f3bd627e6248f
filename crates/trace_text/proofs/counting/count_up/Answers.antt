use Rattle.trace_text.proofs.Names.{◌+◌, ◌∙◌, arith, length, length-set, sym, range_with_len, same_lists, get_or-range_with_len, length-range_with_len}
use Rattle.std.proofs.lemmas.List.Edits.{fill_by_more}
use Rattle.trace_text.proofs.counting.count_up.Goals as goal

pub loop-place-preserved : goal.loop-place-preserved
loop-place-preserved c = record {
  long = simp length-set c.loop-place.invariant.long;
  counted = λ k d below. fill_by_more (λ j. c.args.base + j) c.loop-place.words c.loop-place.place d (omega (arith, c.loop-place.invariant.long))
      (λ j low. c.loop-place.invariant.counted j d low) k below;
}

pub returns : goal.returns
returns c =
    let long = c.loop-place.invariant.long in
    same_lists c.loop-place.words (range_with_len c.args.base (length c.args.words.now)) (long ∙ sym (length-range_with_len c.args.base (length c.args.words.now)))
    (λ k d below. c.loop-place.invariant.counted k d (omega (arith, long)) ∙ sym (get_or-range_with_len c.args.base (length c.args.words.now) k d (omega (arith, long))))
