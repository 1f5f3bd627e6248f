-- How a diary goes on, call after call.
use Rattle.thread_runner.proofs.Names.{kept_receipts, ◌≡◌, ◌∙◌, ◌+◌, ◌++◌, ℕ, List, [], ◌∷◌, ap, append-nil, append_assoc, arith, length, length-append, map, refl, subst, sym, flat_map, range_with_len, map-range_with_len_more, flat_map-append, Key, Receipt, Answers, AreAnswers, Asked, GivenKeys, Outcome, Tends, Took, Carried, entries_on, receipts_from, sent_by, taken_by, Carries, Grows, TellsTending, Tells, Diary}
use Rattle.thread_runner.specs.declared.diary.Entry.{Entry}
use Rattle.thread_runner.specs.declared.diary.Entry.TheVariants as entry
use Rattle.trace_runner.specs.declared.report.Other.TheVariants as other
use Rattle.thread_runner.proofs.Carrying.{Carries-append, Carries-none}

pub Grows-none : (diary : Diary) → Grows [] [] 0 diary diary
Grows-none diary = record {
  shown_is = refl;
  receipts_are = sym (append-nil (kept_receipts diary.receipts));
  entries_are = λ shown. sym (append-nil diary.entries.items);
  calls_is = omega arith;
}

module _ (first second : List Entry) (some more : List Receipt) (n m : ℕ) (old mid new : Diary) (before : Grows first some n old mid) (after : Grows second more m mid new) where
  pub Grows-append : Grows (first ++ second) (some ++ more) (n + m) old new
  Grows-append = record {
    shown_is = after.shown_is ∙ before.shown_is;
    receipts_are = after.receipts_are ∙ ap (λ receipts. receipts ++ more) before.receipts_are ∙ append_assoc (kept_receipts old.receipts) some more;
    entries_are = λ shown. after.entries_are (before.shown_is ∙ shown) ∙ ap (λ entries. entries ++ second) (before.entries_are shown) ∙ append_assoc old.entries.items first second;
    calls_is = omega (arith, before.calls_is, after.calls_is);
  }

AreAnswers-append : (given : GivenKeys) (section thread : ℕ) (first second : List Asked) (some more : List Outcome) → AreAnswers given section thread first some
    → AreAnswers given section thread second more
    → AreAnswers given section thread (first ++ second) (some ++ more)
AreAnswers-append given section thread [] second [] more before after = after
AreAnswers-append given section thread (asked ∷ first) second (outcome ∷ some) more before after = (before.0, AreAnswers-append given section thread first second some more before.1 after)
AreAnswers-append given section thread first second some more before after = absurd before

-- nothing was asked
pub Tells-none : (section thread number : ℕ) (knows : GivenKeys → Type 0) (diary : Diary) (carried : Carried) → Tells section thread number [] knows knows diary diary carried carried
Tells-none section thread number knows diary carried = record {
  outcomes = [];
  answered = λ given known. tt;
  known = λ given known. known;
  grows = Grows-none diary;
  carries = Carries-none carried carried refl;
}

-- one thing was asked, and this came of it
pub Tells-one : (section thread number : ℕ) (asked : Asked) (outcome : Outcome) (knew knows : GivenKeys → Type 0) (old new : Diary) (before after : Carried)
    → ((given : GivenKeys) → knows given → Answers given section thread asked outcome)
    → ((given : GivenKeys) → knows given → knew given) → Grows (entries_on number outcome) (receipts_from outcome) 1 old new → Carries (sent_by outcome) (taken_by outcome) before after
    → Tells section thread number (asked ∷ []) knew knows old new before after
Tells-one section thread number asked outcome knew knows old new before after answers known grows carries = record {
  outcomes = outcome ∷ [];
  answered = λ given is. (answers given is, tt);
  known = known;
  grows = subst (λ (e : List Entry). Grows e (flat_map receipts_from (outcome ∷ [])) 1 old new) (sym (append-nil (entries_on number outcome)))
      (subst (λ (r : List Receipt). Grows (entries_on number outcome) r 1 old new) (sym (append-nil (receipts_from outcome))) grows);
  carries = subst (λ (k : List Key). Carries k (flat_map taken_by (outcome ∷ [])) before after) (sym (append-nil (sent_by outcome)))
      (subst (λ (k : List Key). Carries (sent_by outcome) k before after) (sym (append-nil (taken_by outcome))) carries);
}

-- first some things, and then others
module _ (section thread number : ℕ) (first second : List Asked) (knew meanwhile knows : GivenKeys
    → Type 0) (old mid new : Diary) (was then_is now_is : Carried) (before : Tells section thread number first knew meanwhile old mid was then_is)
    (after : Tells section thread number second meanwhile knows mid new then_is now_is) where
  pub Tells-append : Tells section thread number (first ++ second) knew knows old new was now_is
  Tells-append =
      let entries = flat_map-append (entries_on number) before.outcomes after.outcomes in
      let receipts = flat_map-append receipts_from before.outcomes after.outcomes in
      let both = Grows-append _ _ _ _ (length first) (length second) old mid new before.grows after.grows in
      let sent = flat_map-append sent_by before.outcomes after.outcomes in
      let taken = flat_map-append taken_by before.outcomes after.outcomes in
      let carried = Carries-append _ _ _ _ was then_is now_is before.carries after.carries in
      record {
        outcomes = before.outcomes ++ after.outcomes;
        answered = λ given is. AreAnswers-append given section thread first second before.outcomes after.outcomes (before.answered given (after.known given is)) (after.answered given is);
        known = λ given is. before.known given (after.known given is);
        grows = rw (entries, receipts, length-append) both;
        carries = rw (sent, taken) carried;
      }

-- first what some numbers ask for, in order, and then what the next one does
module _ (section thread number : ℕ) (ask : ℕ → Asked) (from count at here by : ℕ) (knew meanwhile knows : GivenKeys
    → Type 0) (old mid new : Diary) (was then_is now_is : Carried) (next : from + count ≡ at) (in_section : here ≡ section) (by_thread : by ≡ thread)
    (before : Tells section thread number (map ask (range_with_len from count)) knew meanwhile old mid was then_is)
    (after : Tells here by number (ask at ∷ []) meanwhile knows mid new then_is now_is) where
  pub Tells-next : Tells section thread number (map ask (range_with_len from (count + 1))) knew knows old new was now_is
  Tells-next =
      let own = subst (λ n. Tells section n number (ask at ∷ []) meanwhile knows mid new then_is now_is) by_thread
      (subst (λ n. Tells n by number (ask at ∷ []) meanwhile knows mid new then_is now_is) in_section after) in
      subst (λ (asked : List Asked). Tells section thread number asked knew knows old new was now_is) (sym (map-range_with_len_more ask from count at next))
      (Tells-append section thread number (map ask (range_with_len from count)) (ask at ∷ []) knew meanwhile knows old mid new was then_is now_is before own)

-- the rings were tended
pub Tells-tended : (section thread number count : ℕ) (knows : GivenKeys → Type 0) (old mid new : Diary) (before after : Carried) → TellsTending section thread count old mid before after
    → Grows (entry.Said (record { line = number; other = other.Settled count }) ∷ []) [] 1 mid new → Tells section thread number (Tends ∷ []) knows knows old new before after
Tells-tended section thread number count knows old mid new before after takes grows =
    let both = Grows-append _ _ takes.receipts [] 0 1 old mid new takes.grows grows in
    Tells-one section thread number Tends (Took takes.receipts) knows knows old new before after (λ given is. takes.are_frees) (λ given is. is)
    (rw (← takes.count_is) (subst (λ (r : List Receipt). Grows
    (entry.Incoming count ∷ entry.Said (record { line = number; other = other.Settled count }) ∷ []) r 1 old new) (append-nil takes.receipts) both))
    takes.carries
