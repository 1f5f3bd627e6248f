use Rattle.trace_text.proofs.Names.{arith, ◌≡◌, true, sym, ◌∙◌, inr, common_steps, awaits_mark, lines_of}
use Rattle.trace_text.proofs.Texts.{IsSound-AreReadAs, end_fault}
use Rattle.trace_text.proofs.parsing.trace_of.Goals as goal

pub invariant_of-result-clause-sound : goal.invariant_of-result-clause-sound
invariant_of-result-clause-sound c = IsSound-AreReadAs c.in_ok-header.header (lines_of c.in_ok-header.below.now) c.in_ok-lines.field-0.lines.items c.in_ok-lines.ensures.ok

pub returns-then-awaits_mark-clause-fault : goal.returns-then-awaits_mark-clause-fault
returns-then-awaits_mark-clause-fault c =
    let awaits : awaits_mark c.in_ok-lines.field-0.lines.items ≡ true = sym (c.awaits_mark.ensures c.in_ok-lines.field-0.lines.items c.in_ok-lines.ensures.known) ∙ c.if-awaits_mark.true in
    inr (
      c.in_ok-header.header,
      lines_of c.in_ok-header.below.now,
      c.in_ok-header.ensures.ok,
      end_fault c.in_ok-header.header (lines_of c.in_ok-header.below.now) c.in_ok-lines.field-0.lines.items _ c.in_ok-lines.ensures.ok awaits (grind (arith, common_steps)),
    )
