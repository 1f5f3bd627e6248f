use Rattle.thread_runner.proofs.Names.{◌∙◌, ◌++◌, ◌∷◌, [], ap, map, sym, kept_receipts, call_line}
use Rattle.thread_runner.proofs.Lists.{drop-more, take-drop_one}
use Rattle.thread_runner.proofs.diary.push_call.Goals as goal

pub returns-clause-told : goal.returns-clause-told
returns-clause-told c =
    let one = ap (map (call_line c.args.line)) (take-drop_one (kept_receipts c.args.receipts.now) c.args.place c.receipt.result c.receipt.ensures) in
    c.in_ok-push.ensures.items
    ∙ ap (λ answer. c.args.replies.now.items ++ (record { line = c.args.line; answer = answer }) ∷ []) c.answer_of-answer.ensures
    ∙ ap (λ l. c.args.replies.now.items ++ l) (sym one)

pub returns-clause-left : goal.returns-clause-left
returns-clause-left c = drop-more (kept_receipts c.args.receipts.now) c.args.place c.receipt.result c.receipt.ensures
