-- A text that spells a trace has no fault, and spells no other trace.
use Rattle.trace_text.proofs.Names.{◌≡◌, ℕ, true, false, List, [], ◌∷◌, ◌++◌, Result, Ok, Err, IfOk, IfErr, refl, sym, ◌∙◌, inl, inr, subst, append_assoc, append-nil, rules, Header, Version, Line, Cause, ParseError, OutOfMemory, BadTrace, BeginsAtFault, HasCause, IsNextLine, AreReadAs, SaysAfter, awaits_mark, lines_of}
use Rattle.trace_text.specs.declared.trace.Trace.{Trace}
use Rattle.trace_text.specs.Trace.{Spells, IsTrace, IsFault, IsFaultAt, IsReadAs}
use Rattle.trace_text.proofs.Heads.{HasHeader-fine, HasHeader-same}
use Rattle.trace_text.proofs.Lines.{form_again, plain}
use Rattle.trace_text.proofs.Classed.{classed-plain}

-- after the same lines bytes say one line
same_line : (version : Version) (before : List Line) (bytes : List ℕ) (v w : Line) → SaysAfter version before bytes v → SaysAfter version before bytes w → v ≡ w
same_line version before bytes v w hv hw = search (rules, form_again, plain, classed-plain)

-- bytes that are the next line are not at fault
next_or_fault : (h : Header) (before : List Line) (bytes : List ℕ) (l : Line) (c : Cause) → IsNextLine h before bytes l → HasCause h before bytes c → ⊥
next_or_fault h before bytes l c next (inl none) = none.1 l next.0.0
next_or_fault h before bytes l c next (inr (w, form, first)) = search (rules, same_line)

-- lines of which neither one nor the end is at fault, and of which one is, or the end
read_or_fault : (h : Header) (before : List Line) (above rest : List (List ℕ)) (ls ms : List Line) (c : Cause)
    → AreReadAs h before (above ++ rest) ls → awaits_mark (before ++ ls) ≡ false → AreReadAs h before above ms → BeginsAtFault h (before ++ ms) rest c → ⊥
read_or_fault h before [] [] [] [] c all settled fine fault = let clash : true ≡ false = sym fault.1 ∙ settled in cc
read_or_fault h before [] [] [] (m ∷ ms) c all settled fine fault = absurd fine
read_or_fault h before [] (bytes ∷ below) (l ∷ ls) [] c all settled fine fault = next_or_fault h before bytes l c all.0 (rw append-nil at fault)
read_or_fault h before [] (bytes ∷ below) (l ∷ ls) (m ∷ ms) c all settled fine fault = absurd fine
read_or_fault h before (t ∷ ts) rest (l ∷ ls) [] c all settled fine fault = absurd fine
read_or_fault h before (t ∷ ts) rest (l ∷ ls) (m ∷ ms) c all settled fine fault =
    let one : l ≡ m = same_line h.version before t l m all.0.0 fine.0.0 in
    let P : Line → Type 0 = λ x. AreReadAs h (before ++ x ∷ []) (ts ++ rest) ls in
    let Q : Line → Type 0 = λ x. awaits_mark (before ++ x ∷ ls) ≡ false in
    read_or_fault h (before ++ m ∷ []) ts rest ls ms c (subst P one all.1) (rw append_assoc (subst Q one settled)) fine.1 (rw append_assoc fault)
read_or_fault h before above rest ls ms c all settled fine fault = absurd all

-- a text that spells a trace has no first fault
pub spelled_has_no_fault : (text : List ℕ) (h : Header) (lines : List Line) (n : ℕ) (c : Cause) → Spells text h lines → IsFaultAt text n c → ⊥
spelled_has_no_fault text h lines n c spelled (inl fault) = HasHeader-fine h (lines_of text) spelled.below n c spelled.head fault
spelled_has_no_fault text h lines n c spelled (inr (g, below, head, fault)) =
    let same = HasHeader-same h g (lines_of text) spelled.below below spelled.head head in
    let all : AreReadAs g [] (fault.above ++ fault.rest) lines = rw (same.0, same.1, fault.split) at spelled.body in
    read_or_fault g [] fault.above fault.rest lines fault.lines c all spelled.settled fault.fine fault.fault

-- texts are read as one list of lines
same_lines : (h : Header) (before : List Line) (texts : List (List ℕ)) (ls ms : List Line) → AreReadAs h before texts ls → AreReadAs h before texts ms → ls ≡ ms
same_lines h before [] [] [] a b = refl
same_lines h before [] [] (m ∷ ms) a b = absurd b
same_lines h before (t ∷ ts) (l ∷ ls) [] a b = absurd b
same_lines h before (t ∷ ts) (l ∷ ls) (m ∷ ms) a b =
    let one : m ≡ l = same_line h.version before t m l b.0.0 a.0.0 in
    let P : Line → Type 0 = λ x. AreReadAs h (before ++ x ∷ []) ts ms in
    let more = same_lines h (before ++ l ∷ []) ts ls ms a.1 (subst P one b.1) in cc
same_lines h before texts ls ms a b = absurd a

-- so it is read, as the trace that it spells
pub spelled_is_read : (text : List ℕ) (h : Header) (lines : List Line) (r : Result Trace ParseError) → Spells text h lines → IfOk r (IsTrace text) → IfErr r (IsFault text) → IsReadAs r h lines
spelled_is_read text h lines (Ok trace) spelled read fault =
    let same = HasHeader-same trace.header h (lines_of text) read.below spelled.below read.head spelled.head in
    let body : AreReadAs h [] spelled.below trace.lines.items = rw (same.0, same.1) at read.body in
    (same.0, same_lines h [] spelled.below trace.lines.items lines body spelled.body)
spelled_is_read text h lines (Err OutOfMemory) spelled read fault = tt
spelled_is_read text h lines (Err (BadTrace n c)) spelled read fault = spelled_has_no_fault text h lines n c spelled fault
