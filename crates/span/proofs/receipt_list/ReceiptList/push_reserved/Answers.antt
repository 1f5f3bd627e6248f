use Rattle.std.proofs.Common.{◌≡◌, ◌+◌, ◌∙◌, ◌++◌, ◌∷◌, [], List, ℕ, length, ap, subst, sym, arith, rules}
use Rattle.span.specs.StoredReceipts.{AreRuns, call_words, receipts_in}
use Rattle.span.proofs.KeptReceipts.{receipts-counted, receipts-goes_on, receipts-push, runs-counted, runs-goes_on, runs-push}
use Rattle.span.proofs.receipt_list.ReceiptList.push_reserved.Goals as goal

pub invariant_of-self : goal.invariant_of-self
invariant_of-self c = search (rules, runs-counted)

pub returns-in-Counted-clause-receipts : goal.returns-in-Counted-clause-receipts
returns-in-Counted-clause-receipts c = search (rules, receipts-counted)

pub invariant_of-self-in-WithItsWords : goal.invariant_of-self-in-WithItsWords
invariant_of-self-in-WithItsWords c = search (rules, runs-goes_on)

pub returns-in-WithItsWords-clause-receipts : goal.returns-in-WithItsWords-clause-receipts
returns-in-WithItsWords-clause-receipts c = search (rules, receipts-goes_on)

pub invariant_of-self-2 : goal.invariant_of-self-2
invariant_of-self-2 c =
    let list = c.args.self.now in
    let receipt = c.args.receipt.now in
    let call = c.stored-call.result in
    let first = c.len-first.result in
    let words : c.push_words-2.new.list.items ≡ list.words.items ++ call_words receipt.call = c.push_words-2.ensures.items ∙ ap (λ l. list.words.items ++ l) c.words_of-2.ensures in
    record {
      runs_are = rw c.push_reserved.ensures.items (subst (λ (l : List ℕ). AreRuns (length l) (list.len + 1) 0 (list.runs.items ++ c.run_of.result ∷ [])) (sym words)
          (runs-push list.words.items list.len first list.runs.items call receipt list.runs_are (omega (arith, c.len-first.ensures, list.words.ok.0)) c.stored-call.ensures.width c.stored-call.ensures.call
          c.run_of.result c.run_of.ensures.next c.run_of.ensures.start));
    }

pub returns-clause-receipts : goal.returns-clause-receipts
returns-clause-receipts c =
    let list = c.args.self.now in
    let receipt = c.args.receipt.now in
    let call = c.stored-call.result in
    let first = c.len-first.result in
    let words : c.push_words-2.new.list.items ≡ list.words.items ++ call_words receipt.call = c.push_words-2.ensures.items ∙ ap (λ l. list.words.items ++ l) c.words_of-2.ensures in
    (λ i. receipts_in (words i) (list.len + 1) (c.push_reserved.ensures.items i))
    ∙ receipts-push list.words.items list.len first list.runs.items call receipt list.runs_are (omega (arith, c.len-first.ensures, list.words.ok.0)) c.stored-call.ensures.width c.stored-call.ensures.call
    c.run_of.result c.run_of.ensures.next c.run_of.ensures.start
