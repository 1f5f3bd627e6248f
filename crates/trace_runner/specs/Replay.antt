-- What a replay writes.
use Rattle.std.specs.Prelude.{◌≡◌, ◌+◌, ◌++◌, ℕ, Bool, List, Option}
use Rattle.std.specs.Io.KnownBytes.{Appends}
use Rattle.span.specs.PlainMap.{empty_map}
use Rattle.arena_core.specs.State.{CoreState, HasKeys, live_keys, new_core, pages, shown}
use Rattle.marks.specs.Numbers.{Limits, limits_of, with_span_limit}
use Rattle.trace_runner.specs.News.{News}
use Rattle.trace_runner.specs.Report.{end_line}
use Rattle.trace_runner.specs.Runs.{IsRun}
use Rattle.trace_runner.specs.Sink.{AppendsFront}
use Rattle.trace_text.specs.Trace.{IsFaultAt, IsTrace}
use Rattle.trace_runner.specs.declared.fault.ReplayError.{ReplayError}
use Rattle.trace_runner.specs.declared.fault.ReplayError.TheVariants.{OutOfMemory, BadTrace, SinkFailed}
use Rattle.trace_runner.specs.declared.replay.TheConstants.{TRACE_SPANS}
use Rattle.trace_runner.specs.declared.report.Ending.{Ending}
use Rattle.trace_text.specs.declared.header.Header.{Header}
use Rattle.trace_text.specs.declared.trace.Trace.{Trace}

-- the numbers of the core that the header asks for: its shards open as many spans as those of a
-- trace may
abbrev pub limits_of_trace : Header → Limits
limits_of_trace header = with_span_limit (limits_of header.shards header.pages header.ring
    header.gens) TRACE_SPANS

-- the core that the header asks for, which has no key yet
abbrev pub start_of : Header → CoreState
start_of header = new_core (limits_of_trace header)

-- the counts at the end of a run
abbrev pub ending_of : CoreState → ℕ → Ending
ending_of core calls = record { pages = pages core; live = live_keys core; calls = calls }

-- the bytes are the report of a run of the trace: what its lines did, from the empty plain map on,
-- as it is told, and the counts at its end, of which that of the live keys is how many keys have an
-- object in the plain map; and the certificate is that of the last mark that planned, or nothing
pub record IsReportOf (trace : Trace) (replies : Bool) (bytes certificate : List ℕ) : Type 0 where
  pub last : CoreState
  pub calls : ℕ
  pub news : News
  pub empty : shown (start_of trace.header) ≡ empty_map
  pub run : IsRun trace.header.shards replies trace.lines.items (start_of trace.header) last calls
      news
  pub live : HasKeys (shown last) (live_keys last)
  pub spelled : bytes ≡ news.text ++ end_line (ending_of last calls)
  pub certificate_is : certificate ≡ news.certificate

-- the text is a trace, and the bytes are the report of a run of it, with its last certificate
abbrev pub IsReport : List ℕ → Bool → List ℕ → List ℕ → Type 0
IsReport text replies bytes certificate = (trace : Trace) × IsTrace text trace
    × IsReportOf trace replies bytes certificate

-- what was taken more than before is the report of a run of the text's trace, whole, and this is
-- its last certificate
abbrev pub WritesReport : List ℕ → Bool → Option (List ℕ) → Option (List ℕ) → List ℕ → Type 0
WritesReport text replies old new certificate = (report : List ℕ)
    × IsReport text replies report certificate × Appends old new report

-- a prefix of such a report was taken
abbrev pub WritesFront : List ℕ → Bool → Option (List ℕ) → Option (List ℕ) → Type 0
WritesFront text replies old new = (report : List ℕ) × (certificate : List ℕ)
    × IsReport text replies report certificate × AppendsFront old new report

-- where a replay stopped: where an allocation was refused or at the first line at fault, with
-- nothing taken; or at a sink that failed, once, with a prefix of the report taken
abbrev pub Stops : List ℕ → Bool → (failures_old failures_new : ℕ) → (old new : Option (List ℕ))
    → ReplayError → Type 0
Stops text replies failures_old failures_new old new OutOfMemory = (failures_new ≡ failures_old)
    × (new ≡ old)
Stops text replies failures_old failures_new old new (BadTrace line cause) =
    IsFaultAt text line cause × (failures_new ≡ failures_old) × (new ≡ old)
Stops text replies failures_old failures_new old new SinkFailed = (failures_new ≡ failures_old + 1)
    × WritesFront text replies old new

-- the text is at no fault: memory ran out, or the sink failed
abbrev pub IsNoFault : ReplayError → Type 0
IsNoFault (BadTrace line cause) = ⊥
IsNoFault error = Unit {0}
