-- The first cause of a line, where it is asked last whether the line binds a name again.
use Rattle.trace_text.proofs.Names.{◌≡◌, Bool, true, false, List, ℕ, Option, Some, None, Ok, Err, refl, rules, if◌then◌else◌, binds_again, classed, comes_early, first_cause, is_call, is_call_of, reads_unknown, Few, form_of, IsWithinLimits, unless, IsNextUnlessBound, cause_but_bound, within, Cause, Limit, Thread, Ended, Adopt, Bound, Unknown, Early, Header, Line}
use Rattle.trace_text.proofs.Texts.{fine_line, refused_line}

-- the first of all causes, by which of them hold
abbrev all : Bool → Bool → Bool → Bool → Bool → Bool → Bool → Option Cause
all limit thread ended adopt bound unknown early =
    if limit then Some Limit else (if thread then Some Thread else (if ended then Some Ended else (if adopt then Some Adopt
    else (if bound then Some Bound else (if unknown then Some Unknown else (if early then Some Early else None))))))

-- the first of the others
abbrev others : Bool → Bool → Bool → Bool → Bool → Bool → Option Cause
others limit thread ended adopt unknown early =
    if limit then Some Limit else (if thread then Some Thread else (if ended then Some Ended else (if adopt then Some Adopt
    else (if unknown then Some Unknown else (if early then Some Early else None)))))

all-none : (limit thread ended adopt bound unknown early : Bool) → others limit thread ended adopt unknown early ≡ None → bound ≡ false
    → all limit thread ended adopt bound unknown early ≡ None
all-none false false false false false unknown early none fresh = none
all-none limit thread ended adopt bound unknown early none fresh = cc

all-bound : (limit thread ended adopt bound unknown early : Bool) → others limit thread ended adopt unknown early ≡ None → bound ≡ true
    → all limit thread ended adopt bound unknown early ≡ Some Bound
all-bound false false false false true unknown early none again = refl
all-bound limit thread ended adopt bound unknown early none again = cc

all-other : (limit thread ended adopt bound unknown early : Bool) (c : Cause) → (bound ≡ true → unknown ≡ false) → (bound ≡ true → early ≡ false)
    → others limit thread ended adopt unknown early ≡ Some c → all limit thread ended adopt bound unknown early ≡ Some c
all-other false false false false true true early c known late some = let clash : true ≡ false = known refl in cc
all-other false false false false true false true c known late some = let clash : true ≡ false = late refl in cc
all-other false false false false true false false c known late some = cc
all-other limit thread ended adopt bound unknown early c known late some = some

-- what is wrong with the thread that calls is the first cause, where no number is outside its range
pub unless-caller : (limit thread ended adopt unknown early : Bool) (place : ℕ) (c : Cause) → limit ≡ false → (if thread then Some Thread else (if ended then Some Ended else None)) ≡ Some c
    → Err c ≡ unless (others limit thread ended adopt unknown early) place
unless-caller false false true adopt unknown early place c within is = cc
unless-caller limit thread ended adopt unknown early place c within is = cc

-- and where nothing is wrong with that either, and no mark must follow, what is wrong with what it reads
pub unless-no_caller : (limit thread ended adopt unknown early : Bool) (place : ℕ) → limit ≡ false → (if thread then Some Thread else (if ended then Some Ended else None)) ≡ None → adopt ≡ false
    → unless (if unknown then Some Unknown else (if early then Some Early else None)) place ≡ unless (others limit thread ended adopt unknown early) place
unless-no_caller false false false false unknown early place within is free = refl
unless-no_caller limit thread ended adopt unknown early place within is free = cc

-- a line that binds a name reads none
known : (before : List Line) (l : Line) → is_call (binds_again before) l ≡ true → is_call (reads_unknown before) l ≡ false
known before l binds = search rules

late : (before : List Line) (l : Line) → is_call (binds_again before) l ≡ true → is_call_of (comes_early before) l ≡ false
late before l binds = search rules

-- another cause is the first of all
pub first_cause-other : (h : Header) (before : List Line) (l : Line) (c : Cause) → cause_but_bound h before l ≡ Some c → first_cause h before l ≡ Some c
first_cause-other h before l c = all-other _ _ _ _ _ _ _ c (known before l) (late before l)

-- a line that is read and has no other cause is the next one, unless it binds a name again
pub next_unless_bound : (h : Header) (before : List Line) (bytes : List ℕ) (l given : Line) → IsWithinLimits h → Few before → within (form_of h.version bytes) ≡ Ok l → given ≡ classed before l
    → cause_but_bound h before given ≡ None → IsNextUnlessBound h before bytes given
next_unless_bound h before bytes l given limits few read is none = search (rules, fine_line, all-none, refused_line, all-bound)
