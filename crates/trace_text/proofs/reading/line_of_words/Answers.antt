use Rattle.trace_text.proofs.Names.{arith, sym, ap, ◌∙◌, length-map, within, contents_of}
use Rattle.trace_text.proofs.Forms.{form_of_words-none, form_of_words-four, form_of_words-five, form_of_words-many}
use borrow.Author.Tests.{ltb-true, ltb-false}
use Rattle.trace_text.proofs.reading.line_of_words.Goals as goal
use Rattle.trace_text.proofs.reading.line_of_words.Goals.{in_default-via-then-words-lt1, in_default-via-else-words-lt1+else-words-lt2+else-words-lt3+else-words-lt4+else-words-lt5+else-words-lt6}

pub returns-in-len4 : goal.returns-in-len4
returns-in-len4 c = c.thread_line-in-len4.ensures _ c.valued_call.ensures ∙ ap within (form_of_words-four c.args.version c.args.words.now _ _ _ _ (omega (arith, ltb-true, ltb-false)))

pub returns-in-len5 : goal.returns-in-len5
returns-in-len5 c = c.thread_line-in-len5.ensures _ c.counted_call.ensures ∙ ap within (form_of_words-five c.args.version c.args.words.now _ _ _ _ _ (omega (arith, ltb-true, ltb-false)))

pub returns-in_default : goal.returns-in_default
returns-in_default c =
    elim c.in_default.branch [
      | in_default-via-then-words-lt1 w ↦ sym (ap within (form_of_words-none c.args.version (contents_of c.args.words.now) (rw length-map (omega (arith, ltb-true)))))
      | in_default-via-else-words-lt1+else-words-lt2+else-words-lt3+else-words-lt4+else-words-lt5+else-words-lt6 w ↦ sym
          (ap within (form_of_words-many c.args.version (contents_of c.args.words.now) (rw length-map (omega (arith, ltb-false)))))
    ]
