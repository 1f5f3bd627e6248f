use Rattle.trace_text.proofs.Names.{arith, ◌≡◌, ◌∙◌, length, refl, sym, common_steps, lines_of, Bound}
use Rattle.trace_text.proofs.Texts.{SoFar-fault, SoFar-more, SoFar-start}
use Rattle.trace_text.proofs.Knowing.{Knows-push, marks-length}
use Rattle.trace_text.proofs.Placing.{places-push}
use Rattle.trace_text.proofs.parsing.read_body.Goals as goal

pub returns-in-Err-clause-err : goal.returns-in-Err-clause-err
returns-in-Err-clause-err c = SoFar-fault c.args.header.now (lines_of c.args.text.now) (lines_of c.loop-bytes.rest.now)
    (lines_of c.in-Some.below.now) c.loop-bytes.lines.items c.in-Some.bytes.now _ c.in-Err.cause
    c.loop-bytes.invariant.far c.in-Some.ensures.some (c.in-Err.ensures.err c.loop-bytes.lines.items c.loop-bytes.invariant.known) (grind (arith, common_steps))

pub returns-then-again-clause-err : goal.returns-then-again-clause-err
returns-then-again-clause-err c =
    let lines = c.loop-bytes.lines.items in
    let again = sym (c.in_ok-again.ensures.again lines c.loop-bytes.invariant.known) ∙ c.if-again.true in
    SoFar-fault c.args.header.now (lines_of c.args.text.now) (lines_of c.loop-bytes.rest.now) (lines_of c.in-Some.below.now) lines c.in-Some.bytes.now _ Bound
    c.loop-bytes.invariant.far c.in-Some.ensures.some ((c.in-Ok.ensures.ok lines c.loop-bytes.invariant.known).1 again) (grind (arith, common_steps))

pub note-requires : goal.note-requires
note-requires c = omega (arith, c.loop-bytes.invariant.known.section, marks-length c.loop-bytes.lines.items, c.loop-bytes.invariant.room)

pub loop-bytes-init : goal.loop-bytes-init
loop-bytes-init c = record {
  known = rw c.new-lines.ensures.lines c.new-earlier.ensures;
  far = rw c.new-lines.ensures.lines (SoFar-start c.args.header.now (lines_of c.args.text.now));
  placed = rw (c.new-lines.ensures.lines, c.new-lines.ensures.places) refl;
  room = rw c.new-lines.ensures.lines (omega arith);
}

pub loop-bytes-preserved : goal.loop-bytes-preserved
loop-bytes-preserved c =
    let lines = c.loop-bytes.lines.items in
    let next = (c.in-Ok.ensures.ok lines c.loop-bytes.invariant.known).0 (sym (c.in_ok-again.ensures.again lines c.loop-bytes.invariant.known) ∙ c.if-again.false) in
    let place : c.len-in-Some.result ≡ length c.loop-bytes.lines.items = grind (arith, common_steps) in
    record {
      known = rw c.in_ok-push.ensures.lines
          (Knows-push c.args.header.now c.loop-bytes.lines.items c.in-Ok.next.0 c.loop-bytes.earlier c.note.new.self c.loop-bytes.invariant.known next.1
          (rw (← place) c.in_ok-again.ensures.names) c.in_ok-again.ensures.ended c.in_ok-again.ensures.leaving c.in_ok-again.ensures.section
          c.in_ok-again.ensures.keys c.in_ok-again.ensures.awaits);
      far = rw c.in_ok-push.ensures.lines
          (SoFar-more c.args.header.now (lines_of c.args.text.now) (lines_of c.loop-bytes.rest.now)
          (lines_of c.in-Some.below.now) c.loop-bytes.lines.items c.in-Some.bytes.now c.in-Ok.next.0 c.loop-bytes.invariant.far c.in-Some.ensures.some next);
      placed = rw (c.in_ok-push.ensures.lines, c.in_ok-push.ensures.places)
          (places-push c.loop-bytes.lines.places c.loop-bytes.lines.items c.in-Ok.next.0 c.in-Ok.next.1 c.loop-bytes.invariant.placed
          (c.in-Ok.ensures.place c.loop-bytes.lines.items c.loop-bytes.invariant.known));
      room = rw c.in_ok-push.ensures.lines (grind (arith, common_steps, c.loop-bytes.invariant.room, c.in-Some.ensures.shorter));
    }
