-- What is kept of the lines, one line more.
use Rattle.trace_text.proofs.Names.{◌≡◌, ◌+◌, ◌≤◌, List, [], ◌∷◌, ◌++◌, length, None, arith, refl, rules, reverse-append, Knows, NotesEnd, NotesLeaving, NotesNames, awaits_after, awaits_mark, first_cause, keys_at, keys_in, marks, marks_at, Header, Line}
use Rattle.trace_text.proofs.Barriers.{has_ended-open-push, has_ended-push}
use Rattle.trace_text.proofs.Clips.{all_fine}
use Rattle.trace_text.proofs.Bindings.{binding_of-push, either_first, few-push, fresh}
use Rattle.trace_text.specs.declared.earlier.Earlier.{Earlier}
use Rattle.trace_text.specs.declared.line.Line.TheVariants as line

pub keys_in-push : (ls : List Line) (l : Line) → keys_in (ls ++ l ∷ []) ≡ keys_in ls + keys_at l
keys_in-push [] l = omega arith
keys_in-push (m ∷ ms) l = omega (arith, keys_in-push ms l)

pub marks-push : (ls : List Line) (l : Line) → marks (ls ++ l ∷ []) ≡ marks ls + marks_at l
marks-push [] l = omega arith
marks-push (m ∷ ms) l = omega (arith, marks-push ms l)

pub marks-length : (ls : List Line) → marks ls ≤ length ls
marks-length [] = omega arith
marks-length (line.Mark ∷ ms) = omega (arith, marks-length ms)
marks-length (l ∷ ms) = omega (arith, marks-length ms)

awaits_mark-push : (ls : List Line) (l : Line) → awaits_mark (ls ++ l ∷ []) ≡ awaits_after (awaits_mark ls) l
awaits_mark-push ls (line.Call t c) = rw (reverse-append ls (line.Call t c ∷ [])) refl
awaits_mark-push ls l = rw (reverse-append ls (l ∷ [])) refl

-- one line more is known, where it is not refused
pub Knows-push : (h : Header) (ls : List Line) (l : Line) (old new : Earlier) → Knows ls old → first_cause h ls l ≡ None
    → NotesNames old new (length ls) l → NotesEnd old new l → NotesLeaving old new l → new.section ≡ old.section + marks_at l → new.keys ≡ old.keys + keys_at l
    → new.awaits_mark ≡ awaits_after old.awaits_mark l
    → Knows (ls ++ l ∷ []) new
Knows-push h ls l old new knows fine names ended leaving section keys awaits =
    search (rules, either_first, fresh, binding_of-push, has_ended-push, has_ended-open-push, marks-push, keys_in-push, awaits_mark-push, few-push, all_fine)
