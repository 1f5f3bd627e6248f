-- What diaries say, and the report that follows.
use Rattle.thread_runner.proofs.Names.{kept_receipts, ◌≡◌, ◌∙◌, ◌+◌, ◌++◌, ◌&&◌, ℕ, Bool, List, [], ◌∷◌, Option, Some, ap, arith, length, map, not, refl, slice_get, subst, sym, ◌==◌, codes, filter, option_map, flat_map, IsNonDecreasingBy, IsPermutation, IsStableByKey, ties, nat_tests, length-map, same_Some, slice_get-map, marks, Line, IsTrace, LineAnswer, Receipt, SpanLog, span_of_log, live_count, GivenKeys, places_of, replies_in, SeatState, AreDelivered, AreVoices, Carried, FollowsLines, carried_by, AreDiaries, IsDiaryOf, AreNotesOf, AreByLine, IsAuditStop, IsRunStop, IsThreadedReport, StopsThreads, TellsAll, is_on, Voice, diary_lines, voice_lines, voice_of, Note, Diary}
use Rattle.std.specs.Ordering.{is_lt, nat_cmp}
use Rattle.trace_text.specs.declared.trace.Trace.{Trace}
use Rattle.trace_runner.specs.declared.report.Answer.TheVariants as answer
use Rattle.trace_runner.specs.declared.report.Ending.{Ending}
use Rattle.audit.specs.Agreement.{Agreement}
use Rattle.audit.specs.History.{HaveHistories}
use Rattle.thread_runner.specs.declared.error.ThreadsError.{ThreadsError}
use Rattle.thread_runner.specs.declared.error.ThreadsError.TheVariants.{OutOfMemory, BadTrace, AuditFault, SinkFailed}

-- numbers of which neither is less are equal
ties-same : (a b : ℕ) → (not (is_lt (nat_cmp a b)) && not (is_lt (nat_cmp b a))) ≡ (b == a)
ties-same a b = search (arith, nat_tests)

-- a stable sort by line keeps the order of each line's replies
in_order-stable : (told replies : List LineAnswer) → IsStableByKey (λ (r : LineAnswer). r.line) nat_cmp told replies → (line : ℕ) → filter (is_on line) replies ≡ filter (is_on line) told
in_order-stable told replies stable line =
    let one : LineAnswer = record { line = line; answer = answer.Absent } in
    let same : ties (λ (x y : LineAnswer). is_lt (nat_cmp x.line y.line)) one ≡ is_on line = λ i y. ties-same line y.line i in
    ap (λ test. filter test replies) (sym same) ∙ stable one ∙ ap (λ test. filter test told) same

-- replies that were sorted by line, with ties in their order, are by line
pub AreByLine-sorted : (told unsorted replies : List LineAnswer) → told ≡ unsorted → IsPermutation unsorted replies
    → IsNonDecreasingBy (λ (r : LineAnswer). r.line) replies → IsStableByKey (λ (r : LineAnswer). r.line) nat_cmp unsorted replies → AreByLine told replies
AreByLine-sorted told unsorted replies same all by_line stable =
    subst (λ (l : List LineAnswer). AreByLine l replies) (sym same) (record { all = all; by_line = by_line; in_order = in_order-stable unsorted replies stable })

-- the replies of what diaries have are those of the diaries
pub flat_map-voices : (diaries : List Diary) → flat_map voice_lines (map voice_of diaries) ≡ flat_map diary_lines diaries
flat_map-voices [] = refl
flat_map-voices (diary ∷ diaries) = ap (λ replies. diary_lines diary ++ replies) (flat_map-voices diaries)

-- the receipts of what diaries have are those of the diaries
pub map-voices : (diaries : List Diary) → map (λ (voice : Voice). voice.receipts) (map voice_of diaries) ≡ map (λ (diary : Diary). (kept_receipts diary.receipts)) diaries
map-voices [] = refl
map-voices (diary ∷ diaries) = ap (λ lists. (kept_receipts diary.receipts) ∷ lists) (map-voices diaries)

-- what stands in seats and diaries stands in what they have
AreVoices-at : (lines : List Line) (shown : Bool) (given : GivenKeys) (thread : ℕ) (voice : Voice) (its : Carried) (seat : Option SeatState) (diary : Option Diary)
    → ((s : SeatState) (d : Diary) → seat ≡ Some s → diary ≡ Some d → IsDiaryOf lines shown given thread d (carried_by s))
    → option_map voice_of diary ≡ Some voice → option_map carried_by seat ≡ Some its
    → ∥ FollowsLines lines given thread (places_of thread lines) (marks lines + 1) shown voice its ∥₁
AreVoices-at lines shown given thread voice its (Some seat) (Some diary) each at sits =
    let same : voice_of diary ≡ voice = same_Some _ _ at in
    let rings : carried_by seat ≡ its = same_Some _ _ sits in
    subst (λ v. ∥ FollowsLines lines given thread (places_of thread lines) (marks lines + 1) shown v its ∥₁) same
    (subst (λ c. ∥ FollowsLines lines given thread (places_of thread lines) (marks lines + 1) shown (voice_of diary) c ∥₁) rings (each seat diary refl refl).follows)
AreVoices-at lines shown given thread voice its seat diary each at sits = absurd cc

-- what the diaries of all threads have follows their lines
pub AreVoices-diaries : (trace : Trace) (shown : Bool) (given : GivenKeys) (seats : List SeatState) (diaries : List Diary) → AreDiaries trace.lines.items shown given trace.header.shards seats diaries
    → AreDelivered (length seats) (map carried_by seats) → AreVoices trace shown (map voice_of diaries)
AreVoices-diaries trace shown given seats diaries are delivered = record {
  given = given;
  carried = map carried_by seats;
  each_thread = length-map diaries voice_of ∙ are.each_thread;
  delivered = subst (λ n. AreDelivered n (map carried_by seats)) are.each_seat delivered;
  follows = λ thread voice its at sits. AreVoices-at trace.lines.items shown given thread voice its (slice_get seats thread) (slice_get diaries thread) (are.follow thread)
      (sym (slice_get-map voice_of diaries thread) ∙ at) (sym (slice_get-map carried_by seats thread) ∙ sits);
}

-- where the receipts of diaries agree with logs, what they tell is the report
pub IsThreadedReport-told : (trace : Trace) (shown : Bool) (logs : List SpanLog) (diaries : List Diary) (lists : List (List Receipt)) (notes : List Note) (ending : Ending)
    (certificate text bytes : List ℕ)
    → lists ≡ map (λ (diary : Diary). (kept_receipts diary.receipts)) diaries → TellsAll shown (map voice_of diaries) notes ending text
    → AreVoices trace shown (map voice_of diaries) → ending.calls ≡ replies_in trace.lines.items → AreNotesOf trace.lines.items notes certificate → ending.live ≡ live_count (map span_of_log logs)
    → Agreement logs lists → HaveHistories lists → bytes ≡ text ++ codes "audit ok\n" → IsThreadedReport trace shown bytes certificate
IsThreadedReport-told trace shown logs diaries lists notes ending certificate text bytes of_diaries tells of_lines counted of_marks live agreed histories ends =
    let same : lists ≡ map (λ (voice : Voice). voice.receipts) (map voice_of diaries) = of_diaries ∙ sym (map-voices diaries) in
    record {
      logs = logs;
      voices = map voice_of diaries;
      replies = tells.0;
      notes = notes;
      ending = ending;
      of_lines = of_lines;
      counted = counted;
      of_marks = of_marks;
      live = live;
      agreed = subst (λ ls. Agreement logs ls) same agreed;
      histories = subst (λ ls. HaveHistories ls) same histories;
      told = tells.1;
      spelled = ends ∙ ap (λ t. t ++ codes "audit ok\n") tells.2;
    }

-- where the audit of the receipts of diaries stops, so does the run
pub IsRunStop-audit : (trace : Trace) (shown : Bool) (logs : List SpanLog) (diaries : List Diary) (lists : List (List Receipt)) (error : ThreadsError)
    → lists ≡ map (λ (diary : Diary). (kept_receipts diary.receipts)) diaries → AreVoices trace shown (map voice_of diaries) → IsAuditStop logs lists error → IsRunStop trace shown error
IsRunStop-audit trace shown logs diaries lists OutOfMemory of_diaries of_lines stop = tt
IsRunStop-audit trace shown logs diaries lists (AuditFault cause) of_diaries of_lines stop =
    let same : lists ≡ map (λ (voice : Voice). voice.receipts) (map voice_of diaries) = of_diaries ∙ sym (map-voices diaries) in
    (logs, map voice_of diaries, of_lines, subst (λ ls. IsAuditStop logs ls (AuditFault cause)) same stop)
IsRunStop-audit trace shown logs diaries lists error of_diaries of_lines stop = absurd stop

-- where a run of the text's trace stops, so does the replay, with nothing taken
pub StopsThreads-run : (text : List ℕ) (trace : Trace) (shown : Bool) (failures : ℕ) (taken : Option (List ℕ)) (error : ThreadsError) → IsTrace text trace → IsRunStop trace shown error
    → StopsThreads text shown failures failures taken taken error
StopsThreads-run text trace shown failures taken (AuditFault cause) is stop = ((trace, is, stop), refl, refl)
StopsThreads-run text trace shown failures taken (BadTrace line cause) is stop = absurd stop
StopsThreads-run text trace shown failures taken SinkFailed is stop = absurd stop
StopsThreads-run text trace shown failures taken error is stop = (refl, refl)
