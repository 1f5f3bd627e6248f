-- What a replay by threads writes.
use Rattle.std.specs.Prelude.{◌≡◌, ◌==◌, ◌+◌, ◌++◌, ℕ, Bool, true, List, Option, filter, map}
use Rattle.std.specs.List.{flat_map}
use Rattle.std.specs.List.Sorted.{IsNonDecreasingBy, IsPermutation}
use Rattle.std.specs.Io.KnownBytes.{Appends}
use Rattle.span.specs.declared.receipt.Receipt.{Receipt}
use Rattle.span.specs.declared.span_log.SpanLog.{SpanLog}
use Rattle.span.specs.SpanLogs.{span_of_log}
use Rattle.groups.specs.Spans.{live_count}
use Rattle.audit.specs.Agreement.{Agreement}
use Rattle.audit.specs.Faults.{FailsFirst}
use Rattle.audit.specs.History.{HaveHistories}
use Rattle.audit.specs.declared.fault.AuditCause.{AuditCause}
use Rattle.trace_runner.specs.Sink.{AppendsFront}
use Rattle.trace_runner.specs.declared.report.Ending.{Ending}
use Rattle.trace_runner.specs.declared.report.LineAnswer.{LineAnswer}
use Rattle.trace_text.specs.Trace.{IsFaultAt, IsTrace}
use Rattle.trace_text.specs.declared.trace.Trace.{Trace}
use Rattle.trace_runner.specs.Report.{end_line}
use Rattle.thread_runner.specs.Asked.{replies_in}
use Rattle.thread_runner.specs.Followed.{AreVoices}
use Rattle.thread_runner.specs.Marked.{AreNotesOf}
use Rattle.thread_runner.specs.Report.{body_text, threaded_text}
use Rattle.thread_runner.specs.Told.{Voice, voice_lines}
use Rattle.thread_runner.specs.declared.body.Note.{Note}
use Rattle.thread_runner.specs.declared.error.ThreadsError.{ThreadsError}
use Rattle.thread_runner.specs.declared.error.ThreadsError.TheVariants.{OutOfMemory, BadTrace, Doubled, AuditFault, SinkFailed}

-- all that the threads were told, one thread after another, each in the order of its lines
abbrev pub told_replies : List Voice → List LineAnswer
told_replies voices = flat_map voice_lines voices

-- the reply is on the line of that number
abbrev pub is_on : ℕ → LineAnswer → Bool
is_on line reply = reply.line == line

-- the replies are these by line, and those of each line in the order in which they were told
pub record AreByLine (told replies : List LineAnswer) : Type 0 where
  pub all : IsPermutation told replies
  pub by_line : IsNonDecreasingBy (λ reply. reply.line) replies
  pub in_order : (line : ℕ) → filter (is_on line) replies ≡ filter (is_on line) told

-- the replies are all that the threads were told, by line, and within a line in the order of its
-- calls: a thread's line, or an adoption by its shard, is that thread's alone
abbrev pub AreReplies : List Voice → List LineAnswer → Type 0
AreReplies voices replies = AreByLine (told_replies voices) replies

-- the bytes are the report of a run of the trace: each thread was told what came of its own lines,
-- in order, and its receipts are those of that; they agree with the logs of the spans, so that the
-- calls on each span have one history. Where replies are shown, that of each call on a key is what
-- its receipt says; and all replies of threads are counted. It tells of each mark of the trace, and
-- of all steps of its plan; the certificate is that of the last mark that planned, or nothing; and
-- the keys that it counts as live are those that the logs leave
pub record IsThreadedReport (trace : Trace) (shown : Bool) (bytes certificate : List ℕ) :
    Type 0 where
  pub logs : List SpanLog
  pub voices : List Voice
  pub replies : List LineAnswer
  pub notes : List Note
  pub ending : Ending
  pub of_lines : AreVoices trace shown voices
  pub counted : ending.calls ≡ replies_in trace.lines.items
  pub of_marks : AreNotesOf trace.lines.items notes certificate
  pub live : ending.live ≡ live_count (map span_of_log logs)
  pub agreed : Agreement logs (map (λ voice. voice.receipts) voices)
  pub histories : HaveHistories (map (λ voice. voice.receipts) voices)
  pub told : shown ≡ true → AreReplies voices replies
  pub spelled : bytes ≡ threaded_text shown replies notes ending

-- the text is a trace, and what was taken more than before is such a report, whole, with this
-- certificate
abbrev pub WritesThreadedReport : List ℕ → Bool → (old new : Option (List ℕ))
    → (certificate : List ℕ) → Type 0
WritesThreadedReport text shown old new certificate =
    (trace : Trace) × (bytes : List ℕ) × IsTrace text trace
    × IsThreadedReport trace shown bytes certificate × Appends old new bytes

-- a prefix of such a report was taken
abbrev pub WritesThreadedFront : List ℕ → Bool → (old new : Option (List ℕ)) → Type 0
WritesThreadedFront text shown old new =
    (trace : Trace) × (bytes : List ℕ) × (certificate : List ℕ) × IsTrace text trace
    × IsThreadedReport trace shown bytes certificate × AppendsFront old new bytes

-- the text is a report of what the threads were told, with these notes, up to these counts; where
-- replies are shown, they are all there
abbrev pub TellsAll : Bool → List Voice → List Note → Ending → List ℕ → Type 0
TellsAll shown voices notes ending text =
    (replies : List LineAnswer) × (shown ≡ true → AreReplies voices replies)
    × (text ≡ body_text shown replies notes ++ end_line ending)

-- a run of the trace by threads, each of which was told what came of its own lines, left receipts
-- and logs that do not agree, first in this part
abbrev pub FailsRun : Trace → Bool → AuditCause → Type 0
FailsRun trace shown cause = (logs : List SpanLog) × (voices : List Voice)
    × AreVoices trace shown voices × FailsFirst logs (map (λ voice. voice.receipts) voices) cause

-- the text is a trace, and a run of it so
abbrev pub FailsAudit : List ℕ → Bool → AuditCause → Type 0
FailsAudit text shown cause = (trace : Trace) × IsTrace text trace × FailsRun trace shown cause

-- the audit did not say that receipts agree with logs: memory ran out, or they do not, first in
-- this part
abbrev pub IsAuditStop : List SpanLog → List (List Receipt) → ThreadsError → Type 0
IsAuditStop logs lists OutOfMemory = Unit {0}
IsAuditStop logs lists (AuditFault cause) = FailsFirst logs lists cause
IsAuditStop logs lists _ = ⊥

-- no report came of a run of the trace: memory ran out, a shard or the pool was not as the run had
-- left it, or the audit failed
abbrev pub IsRunStop : Trace → Bool → ThreadsError → Type 0
IsRunStop trace shown OutOfMemory = Unit {0}
IsRunStop trace shown Doubled = Unit {0}
IsRunStop trace shown (AuditFault cause) = FailsRun trace shown cause
IsRunStop trace shown _ = ⊥

-- the text is at no fault
abbrev pub IsNoFault : ThreadsError → Type 0
IsNoFault (BadTrace line cause) = ⊥
IsNoFault error = Unit {0}

-- where a replay by threads stopped: where an allocation was refused, at the first line at fault,
-- where a shard or the pool was not as the run had left it or where the audit failed, with nothing
-- taken; or at a sink that failed, once, with a prefix of the report taken
abbrev pub StopsThreads : List ℕ → Bool → (failures_old failures_new : ℕ)
    → (old new : Option (List ℕ)) → ThreadsError → Type 0
StopsThreads text shown failures_old failures_new old new OutOfMemory =
    (failures_new ≡ failures_old) × (new ≡ old)
StopsThreads text shown failures_old failures_new old new (BadTrace line cause) =
    IsFaultAt text line cause × (failures_new ≡ failures_old) × (new ≡ old)
StopsThreads text shown failures_old failures_new old new Doubled = (failures_new ≡ failures_old)
    × (new ≡ old)
StopsThreads text shown failures_old failures_new old new (AuditFault cause) =
    FailsAudit text shown cause × (failures_new ≡ failures_old) × (new ≡ old)
StopsThreads text shown failures_old failures_new old new SinkFailed =
    (failures_new ≡ failures_old + 1) × WritesThreadedFront text shown old new
