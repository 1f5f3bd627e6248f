use Rattle.thread_runner.proofs.Names.{◌≡◌, ◌∙◌, OnOk, Some, slice_get, subst, sym, take, same_Some, all_fine, TellsLine}
use Rattle.thread_runner.proofs.caller.Caller.line.Goals as goal

pub call-requires : goal.call-requires
call-requires g c =
    let trace = c.args.text.now.trace.now in
    let here : slice_get trace.lines.items c.args.place ≡ Some c.line_at.result.now = c.line_at.ensures in
    let within = (all_fine trace.header (take c.args.place trace.lines.items) c.line_at.result.now (trace.sound c.args.place c.line_at.result.now here)).within in
    (take c.args.place trace.lines.items, rw c.in-Call.is at within)

pub returns-clause-told : goal.returns-clause-told
returns-clause-told g c line there =
    let trace = c.args.text.now.trace.now in
    let here : slice_get trace.lines.items c.args.place ≡ Some c.line_at.result.now = c.line_at.ensures in
    let same : c.line_at.result.now ≡ line = same_Some _ _ (sym here ∙ there) in
    let first = c.in-Some.ensures trace.lines.items c.args.text.now.numbered in
    let reads = c.place.ensures c.line_at.result.now here in
    subst (λ l. OnOk c.call.result (TellsLine c.args.text.now c.args.place l c.args.keys.now.kept.items c.args.self.now c.call.new.self)) (sym c.in-Call.is ∙ same)
    (c.call.ensures.told (take c.args.place trace.lines.items) (first, rw c.in-Call.is at reads))
