use Rattle.std.proofs.Common.{option_map, ◌≡◌, ◌+◌, ◌∙◌, refl, Err, ap, arith, codes, rules}
use Rattle.std.proofs.lemmas.Result.{err_from_is_err_and}
use Rattle.certificate.specs.declared.text.cause.ReadError.TheVariants.{BadCertificate}
use Rattle.certificate.specs.Grammar.{id_parts, item_in, line_in, pair_in, pair_parts}
use Rattle.certificate.specs.Words.{lines_of}
use Rattle.certificate.proofs.Items.{IsReading-done, IsReading-more, IsReading-refused, Reads-err, list_in-err, list_in-ok}
use Rattle.certificate.proofs.text.items.read_folds.Goals as goal

pub returns-in_err-count-clause-read : goal.returns-in_err-count-clause-read
returns-in_err-count-clause-read c = search (rules, err_from_is_err_and, Reads-err, list_in-err)

pub returns-in-Err-clause-read : goal.returns-in-Err-clause-read
returns-in-Err-clause-read c =
    let place : c.args.lines.now.at + 1 + c.loop-k._k + 1 ≡ c.next_number-line.result = omega (arith, c.next_number-line.ensures, c.loop-k.invariant.place) in
    list_in-ok (codes "folds") (pair_in c.args.version) (λ p. p.0) (lines_of c.args.lines.now.text.now) c.args.lines.now.at c.in_ok-count.count c.in_ok-count.ensures.read
    ∙ IsReading-refused _ (λ p. p.0) pair_parts (λ p. p.0) (λ y. refl) _ _ _ _ _ _ c.loop-k.invariant.reading c.in-Err.cause c.loop-k-test.true (c.in-Err.ensures.line
    ∙ (λ i. line_in (item_in (pair_in c.args.version) (λ p. p.0) (option_map id_parts c.loop-k.last)) (lines_of (c.loop-k.invariant.text i)) (c.loop-k.invariant.place i)))
    ∙ ap (λ m. Err (BadCertificate m c.in-Err.cause)) place

pub loop-k-preserved : goal.loop-k-preserved
loop-k-preserved c = record {
  reading = rw c.in_ok-push.ensures.items
      (IsReading-more _ (λ p. p.0) pair_parts (λ p. p.0) (λ y. refl) _ _ _ _ _ _ c.loop-k.invariant.reading c.in-Ok.pair c.loop-k-test.true
      (c.in-Ok.ensures.line
      ∙ (λ i. line_in (item_in (pair_in c.args.version) (λ p. p.0) (option_map id_parts c.loop-k.last)) (lines_of (c.loop-k.invariant.text i)) (c.loop-k.invariant.place i)))
      c.in-Ok.ensures.after);
  text = c.in-Ok.ensures.text ∙ c.loop-k.invariant.text;
  place = omega (arith, c.in-Ok.ensures.passed, c.loop-k.invariant.place);
}

pub returns-clause-read : goal.returns-clause-read
returns-clause-read c = search (rules, list_in-ok, IsReading-done)
