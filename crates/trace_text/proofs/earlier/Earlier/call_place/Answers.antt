use Rattle.trace_text.proofs.Names.{◌&&◌, ◌∙◌, ap, not, sym, true, nat_le, awaits_mark, begins_again, comes_early, has_ended, is_call_over, reads_unknown, place_by}
use Rattle.trace_text.proofs.BoundAgain.{unless-caller, unless-no_caller}
use Rattle.trace_text.proofs.earlier.Earlier.call_place.Goals as goal

pub returns-in-Some : goal.returns-in-Some
returns-in-Some c before knows =
    let call = c.args.call.now in
    unless-caller (is_call_over before call) (nat_le c.args.header.now.shards c.args.thread) (has_ended before c.args.thread && not (begins_again call)) (awaits_mark before && true)
    (reads_unknown before call) (comes_early before c.args.thread call) (place_by before call) c.in-Some.cause
    (sym (c.is_over.ensures before knows) ∙ c.if-is_over.false) (sym (c.caller_cause.ensures before knows) ∙ c.in-Some.is)

pub returns-else-self : goal.returns-else-self
returns-else-self c before knows =
    let call = c.args.call.now in
    c.read_place.ensures before knows
    ∙ unless-no_caller (is_call_over before call) (nat_le c.args.header.now.shards c.args.thread) (has_ended before c.args.thread && not (begins_again call)) (awaits_mark before && true)
    (reads_unknown before call) (comes_early before c.args.thread call) (place_by before call)
    (sym (c.is_over.ensures before knows) ∙ c.if-is_over.false) (sym (c.caller_cause.ensures before knows) ∙ c.in-None.is) (ap (λ b. b && true) (sym knows.awaits ∙ c.if-self.false))
