-- The lines of a text, one after another.
use Rattle.trace_text.proofs.Names.{◌≡◌, ℕ, ◌+◌, ◌⊎◌, true, List, [], ◌∷◌, ◌++◌, length, take, Option, Some, None, Ok, Err, zero, suc, arith, refl, sym, ap, ◌∙◌, inl, inr, subst, append_assoc, append-nil, rules, Line, Header, Cause, form_of, clip_line, is_value_over, within, IsWithinLimits, Few, awaits_mark, classed, is_call, HasCause, IsNextLine, IsSound, AreReadAs, SaysAfter, first_cause, IsFirstFault}
use Rattle.std.specs.List.{slice_get}
use Rattle.trace_text.specs.declared.cause.Cause.TheVariants as cause
use Rattle.trace_text.proofs.Lines.{form_found, form_again}
use Rattle.trace_text.proofs.Tests.{chosen}
use Rattle.trace_text.proofs.Clips.{first_cause-clip, clip_line-fine, over-value}
use Rattle.trace_text.proofs.Classed.{HasForm-classed, classed-again, classed-clip, value_over-classed}

-- one line more
AreReadAs-push : (h : Header) (before : List Line) (texts : List (List ℕ)) (lines : List Line) (bytes : List ℕ) (l : Line) → AreReadAs h before texts lines
    → IsNextLine h (before ++ lines) bytes l → AreReadAs h before (texts ++ bytes ∷ []) (lines ++ l ∷ [])
AreReadAs-push h before [] [] bytes l all next = (subst (λ b. IsNextLine h b bytes l) (append-nil before) next, tt)
AreReadAs-push h before (b ∷ bs) (m ∷ ms) bytes l (first, rest) next = (first, AreReadAs-push h (before ++ m ∷ []) bs ms bytes l rest (rw append_assoc next))
AreReadAs-push h before texts lines bytes l all next = absurd all

-- what is kept of a line that has a form
within_ok : (form : Option Line) (l : Line) → within form ≡ Ok l → (w : Line) × (form ≡ Some w) × (clip_line w ≡ l)
within_ok form l e = search (rules, chosen)

within_err : (form : Option Line) (c : Cause) → within form ≡ Err c → ((form ≡ None) × (c ≡ cause.Form)) ⊎ ((w : Line) × (form ≡ Some w) × (is_call is_value_over w ≡ true) × (c ≡ cause.Limit))
within_err None c e = inl (refl, cc)
within_err (Some w) c e = search (rules, chosen)

-- a form, with the class that it is given
says_classed : (h : Header) (before : List Line) (bytes : List ℕ) (w : Line) → form_of h.version bytes ≡ Some w → SaysAfter h.version before bytes (classed before w)
says_classed h before bytes w read = (HasForm-classed h.version before bytes w (form_found h.version bytes w read), sym (classed-again before w))

-- a line that is read, given its class and not refused is a line of the trace
pub fine_line : (h : Header) (before : List Line) (bytes : List ℕ) (l given : Line) → IsWithinLimits h → Few before → within (form_of h.version bytes) ≡ Ok l
    → given ≡ classed before l → first_cause h before given ≡ None → IsNextLine h before bytes given
fine_line h before bytes l given within few read is fine = search (rules, within_ok, classed-clip, clip_line-fine, says_classed, first_cause-clip)

-- a line that is read, given its class and refused is at fault
pub refused_line : (h : Header) (before : List Line) (bytes : List ℕ) (l given : Line) (c : Cause) → IsWithinLimits h → Few before
    → within (form_of h.version bytes) ≡ Ok l → given ≡ classed before l → first_cause h before given ≡ Some c → HasCause h before bytes c
refused_line h before bytes l given c within few read is fault =
    let w = within_ok (form_of h.version bytes) l read in
    let clipped : clip_line (classed before w.0) ≡ given = sym (classed-clip before w.0) ∙ ap (classed before) w.2 ∙ sym is in
    inr (classed before w.0, says_classed h before bytes w.0 w.1, sym (first_cause-clip h before (classed before w.0) within few) ∙ ap (first_cause h before) clipped ∙ fault)

-- a line that is not read is at fault
pub unread_line : (h : Header) (before : List Line) (bytes : List ℕ) (c : Cause) → within (form_of h.version bytes) ≡ Err c → HasCause h before bytes c
unread_line h before bytes c read = elim (within_err (form_of h.version bytes) c read) [
  | inl p ↦ inl (p.1, λ w form. let some = form_again h.version w bytes form in cc)
  | inr p ↦ inr (classed before p.0, says_classed h before bytes p.0 p.1, rw (over-value before (classed before p.0) (value_over-classed before p.0 ∙ p.2), p.3) refl)
]

-- as many lines are read as there are texts
AreReadAs-length : (h : Header) (before : List Line) (texts : List (List ℕ)) (lines : List Line) → AreReadAs h before texts lines → length lines ≡ length texts
AreReadAs-length h before [] [] all = refl
AreReadAs-length h before (b ∷ bs) (m ∷ ms) all = omega (arith, AreReadAs-length h (before ++ m ∷ []) bs ms all.1)
AreReadAs-length h before texts lines all = absurd all

-- of those texts the first ones are read as these lines, and the rest stand below
pub record SoFar (h : Header) (texts rest : List (List ℕ)) (lines : List Line) : Type 0 where
  pub above : List (List ℕ)
  pub split : texts ≡ above ++ rest
  pub fine : AreReadAs h [] above lines

-- before the first line
pub SoFar-start : (h : Header) (texts : List (List ℕ)) → SoFar h texts texts []
SoFar-start h texts = record { above = []; split = refl; fine = tt }

-- one line more
pub SoFar-more : (h : Header) (texts rest more : List (List ℕ)) (lines : List Line) (bytes : List ℕ) (l : Line) → SoFar h texts rest lines → rest ≡ bytes ∷ more
    → IsNextLine h lines bytes l → SoFar h texts more (lines ++ l ∷ [])
SoFar-more h texts rest more lines bytes l far next fine = record {
  above = far.above ++ bytes ∷ [];
  split = rw append_assoc (far.split ∙ ap (λ ls. far.above ++ ls) next);
  fine = AreReadAs-push h [] far.above lines bytes l far.fine fine;
}

-- the first line of the rest is at fault
pub SoFar-fault : (h : Header) (texts rest more : List (List ℕ)) (lines : List Line) (bytes : List ℕ) (n : ℕ) (c : Cause) → SoFar h texts rest lines
    → rest ≡ bytes ∷ more → HasCause h lines bytes c → n ≡ length lines + 6 → IsFirstFault h texts n c
SoFar-fault h texts rest more lines bytes n c far next fault place = search (rules, AreReadAs-length)

-- the end of the text at fault
pub end_fault : (h : Header) (texts : List (List ℕ)) (lines : List Line) (n : ℕ) → AreReadAs h [] texts lines → awaits_mark lines ≡ true → n ≡ length lines + 6 → IsFirstFault h texts n cause.Adopt
end_fault h texts lines n fine awaits place = record {
  above = texts;
  rest = [];
  split = sym (append-nil texts);
  place = omega (arith, place, AreReadAs-length h [] texts lines fine);
  lines = lines;
  fine = fine;
  fault = (refl, awaits);
}

-- no cause holds of a line that was read after those lines and the ones above it
AreReadAs-fine : (h : Header) (before : List Line) (texts : List (List ℕ)) (lines : List Line) (place : ℕ) (l : Line) → AreReadAs h before texts lines
    → slice_get lines place ≡ Some l → first_cause h (before ++ take place lines) l ≡ None
AreReadAs-fine h before [] [] place l all at = cc
AreReadAs-fine h before (b ∷ bs) (m ∷ ms) zero l all at = let is : m ≡ l = cc at in rw append-nil (subst (λ (x : Line). first_cause h before x ≡ None) is all.0.1)
AreReadAs-fine h before (b ∷ bs) (m ∷ ms) (suc place) l all at = rw append_assoc at (AreReadAs-fine h (before ++ m ∷ []) bs ms place l all.1 at)
AreReadAs-fine h before texts lines place l all at = absurd all

pub IsSound-AreReadAs : (h : Header) (texts : List (List ℕ)) (lines : List Line) → AreReadAs h [] texts lines → IsSound h lines
IsSound-AreReadAs h texts lines all = λ place l at. AreReadAs-fine h [] texts lines place l all at
