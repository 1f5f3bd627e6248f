use Rattle.thread_runner.proofs.Names.{◌≡◌, ◌++◌, drop, body_text}
use Rattle.thread_runner.proofs.body.push_body.Given as goal

-- what is written and what is left make the whole
abbrev pub invariant-loop-note : goal.invariant-loop-note
invariant-loop-note l = l.out.items ++ body_text l.shown l.left (drop l.note-index l.notes) ≡ l.fn.out.items ++ body_text l.shown l.replies l.notes
