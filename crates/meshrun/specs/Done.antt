-- What the program has written where it did its job, and where it came to a halt.
use Rattle.std.specs.Prelude.{◌≡◌, ◌+◌, ◌⊎◌, ℕ, Bool, true, false, List, Option, Some, None, Err, option_map, codes, if◌then◌else◌, string_bytes, ⊤}
use Rattle.std.specs.Str.{bytes_eq}
use Rattle.std.specs.declared.alloc.Global.{Global}
use Rattle.std.specs.declared.string.String.{String}
use Rattle.clap.specs.Walk.{Text}
use Rattle.certificate.specs.Grammar.{certificate_in}
use Rattle.certificate.specs.declared.text.cause.ReadError.TheVariants as read_error
use Rattle.command_line.specs.Job.{IsJobOf, bytes_of}
use Rattle.command_line.specs.Naming.{name_by}
use Rattle.trace_runner.specs.Replay.{WritesFront, WritesReport}
use Rattle.command_line.specs.Store.{IsSaved, IsUnsaved}
use Rattle.trace_text.specs.Trace.{IsFaultAt}
use Rattle.trace_runner.specs.Verdict.{WritesVerdict, WritesVerdictFront}
use Rattle.command_line.specs.declared.fault.Fault.{Fault}
use Rattle.command_line.specs.declared.fault.Fault.TheVariants as fault
use Rattle.command_line.specs.declared.job.Job.{Job}
use Rattle.command_line.specs.declared.job.Job.TheVariants.{Run, Check}
use Rattle.thread_runner.specs.Threaded.{FailsAudit, WritesThreadedFront, WritesThreadedReport}

-- 0 where the certificate is accepted, and else 1
abbrev pub status_of_verdict : Bool → ℕ
status_of_verdict true = 0
status_of_verdict false = 1

-- the file that a word names for a text, of which none stands for standard input, as `-` does
abbrev pub file_of : Option Text → Option Text
file_of None = None
file_of (Some path) = if bytes_eq path (codes "-") then None else Some path

-- the file that is named is the one that the word names
abbrev pub IsNamed : Option Text → Option (String Global) → Type 0
IsNamed path file = option_map string_bytes file ≡ file_of path

-- a replay of the text, a serial one or one by threads, has written its report, whole, with this
-- certificate
abbrev pub WritesRun : (serial : Bool) → (text : List ℕ) → (replies : Bool)
    → (old new : Option (List ℕ)) → (certificate : List ℕ) → Type 0
WritesRun true text replies old new certificate = WritesReport text replies old new certificate
WritesRun false text replies old new certificate =
    WritesThreadedReport text replies old new certificate

-- a replay of the text has written a prefix of its report
abbrev pub WritesRunFront : (serial : Bool) → (text : List ℕ) → (replies : Bool)
    → (old new : Option (List ℕ)) → Type 0
WritesRunFront true text replies old new = WritesFront text replies old new
WritesRunFront false text replies old new = WritesThreadedFront text replies old new

-- where a replay came to a halt: at a sink that failed, once, with a prefix of the report taken; or
-- with nothing taken, at the fault of the text, without its file's name, where an allocation was
-- refused, or, by threads alone, where a shard or the pool was not as the run had left it or the
-- audit failed
abbrev pub HaltsReplay : (serial : Bool) → (text : List ℕ) → (replies : Bool)
    → (failures_old failures_new : ℕ) → (old new : Option (List ℕ)) → Fault → Type 0
HaltsReplay serial text replies failures_old failures_new old new fault.SinkFailed =
    (failures_new ≡ failures_old + 1) × WritesRunFront serial text replies old new
HaltsReplay serial text replies failures_old failures_new old new
    (fault.BadTrace file line cause name) =
    (file ≡ None) × IsFaultAt text line cause × (failures_new ≡ failures_old) × (new ≡ old)
HaltsReplay serial text replies failures_old failures_new old new fault.OutOfMemory =
    (failures_new ≡ failures_old) × (new ≡ old)
HaltsReplay serial text replies failures_old failures_new old new fault.Doubled = (serial ≡ false)
    × (failures_new ≡ failures_old) × (new ≡ old)
HaltsReplay serial text replies failures_old failures_new old new (fault.Audit cause) =
    (serial ≡ false) × FailsAudit text replies cause × (failures_new ≡ failures_old) × (new ≡ old)
HaltsReplay serial text replies failures_old failures_new old new _ = ⊥

module _ {D : Type 0} (held : D → List ℕ → Option (List ℕ)) where
  -- a trace was replayed with this report, and the certificate of its last mark that planned is in
  -- the file that is named for it
  abbrev pub IsReplayed : (serial replies : Bool) → (certificate : Option Text)
      → (old new : Option (List ℕ)) → (before after : D) → Type 0
  IsReplayed serial replies certificate old new before after =
      (text : List ℕ) × (bytes : List ℕ) × WritesRun serial text replies old new bytes
      × IsSaved held certificate bytes before after

  -- `run` replayed a trace as it says and ends with 0; `check` checked a certificate and ends as
  -- its verdict says
  abbrev pub DoesJob : Job → (old new : Option (List ℕ)) → (before after : D) → (status : ℕ)
      → Type 0
  DoesJob (Run trace serial replies certificate) old new before after status =
      IsReplayed serial replies (bytes_of certificate) old new before after × (status ≡ 0)
  DoesJob (Check file) old new before after status =
      ((text : List ℕ) × (accepted : Bool) × WritesVerdict text old new accepted
      × (status ≡ status_of_verdict accepted)) × (after ≡ before)

  -- the job that words name was done
  abbrev pub IsDone : (old new : Option (List ℕ)) → (before after : D) → (status : ℕ) → Type 0
  IsDone old new before after status = (words : List Text) × (job : Job) × IsJobOf words job
      × DoesJob job old new before after status

-- where a check of the file came to a halt: at a sink that failed, once, with a prefix of the
-- verdict's line taken; or with nothing taken, where a text was at fault, with its file's name,
-- memory ran out, or the file could not be read
abbrev pub HaltsCheck : (path : Option Text) → (failures_old failures_new : ℕ)
    → (old new : Option (List ℕ)) → Fault → Type 0
HaltsCheck path failures_old failures_new old new fault.SinkFailed =
    (failures_new ≡ failures_old + 1) × ((text : List ℕ) × WritesVerdictFront text old new)
HaltsCheck path failures_old failures_new old new (fault.BadCertificate file line cause) =
    IsNamed path file
    × ((text : List ℕ) × (certificate_in text ≡ Err (read_error.BadCertificate line cause)))
    × (failures_new ≡ failures_old) × (new ≡ old)
HaltsCheck path failures_old failures_new old new fault.OutOfMemory =
    (failures_new ≡ failures_old) × (new ≡ old)
HaltsCheck path failures_old failures_new old new (fault.Io file error) =
    (failures_new ≡ failures_old) × (new ≡ old)
HaltsCheck path failures_old failures_new old new _ = ⊥

-- what keeps a file, standard input or the command line from being read: what the system said of
-- it, or memory ran out
abbrev pub IsOfFile : Fault → Type 0
IsOfFile (fault.Io file error) = ⊤
IsOfFile fault.OutOfMemory = ⊤
IsOfFile _ = ⊥

-- what keeps words from naming a job: they name none, memory ran out, or they could not be read
abbrev pub IsOfWords : Fault → Type 0
IsOfWords (fault.Words error) = ⊤
IsOfWords fault.OutOfMemory = ⊤
IsOfWords (fault.Io file error) = ⊤
IsOfWords _ = ⊥

module _ {D : Type 0} (held : D → List ℕ → Option (List ℕ)) (failures : D → ℕ) where
  -- nothing was written, and no write failed
  abbrev pub IsUntouched : (failures_old failures_new : ℕ) → (old new : Option (List ℕ))
      → (before after : D) → Type 0
  IsUntouched failures_old failures_new old new before after = (failures_new ≡ failures_old)
      × (new ≡ old) × (after ≡ before)

  -- the report was written whole; there was a certificate, whose file could not be written: that
  -- failed once, and the other files are as they were
  abbrev pub IsReplayedUnsaved : (serial replies : Bool) → (certificate : Option Text)
      → (failures_old failures_new : ℕ) → (old new : Option (List ℕ)) → (before after : D) → Type 0
  IsReplayedUnsaved serial replies certificate failures_old failures_new old new before after =
      (failures_new ≡ failures_old) ×
      ((text : List ℕ) × (bytes : List ℕ) × WritesRun serial text replies old new bytes
      × IsUnsaved held certificate bytes before after)
      × (failures after ≡ failures before + 1)

  -- where a run of the trace came to a halt: at a sink that failed, once, with a prefix of the
  -- report taken and no file written; at a file that could not be read, or that of the certificate,
  -- which could not be written; or with nothing written at the fault of a text, with its file's
  -- name and the name that the line is at fault by, where an allocation was refused, or, by threads
  -- alone, where a shard or the pool was not as the run had left it or the audit failed
  abbrev pub HaltsRun : (trace : Option Text) → (serial replies : Bool)
      → (certificate : Option Text) → (failures_old failures_new : ℕ)
      → (old new : Option (List ℕ)) → (before after : D) → Fault → Type 0
  HaltsRun trace serial replies certificate failures_old failures_new old new before after
      fault.SinkFailed = (failures_new ≡ failures_old + 1)
      × ((text : List ℕ) × WritesRunFront serial text replies old new) × (after ≡ before)
  HaltsRun trace serial replies certificate failures_old failures_new old new before after
      (fault.Io file error) =
      IsUntouched failures_old failures_new old new before after
      ⊎ IsReplayedUnsaved serial replies certificate failures_old failures_new old new before
      after
  HaltsRun trace serial replies certificate failures_old failures_new old new before after
      (fault.BadTrace file line cause name) = IsNamed trace file
      × ((text : List ℕ) × IsFaultAt text line cause × (name ≡ name_by cause text line))
      × IsUntouched failures_old failures_new old new before after
  HaltsRun trace serial replies certificate failures_old failures_new old new before after
      fault.OutOfMemory = IsUntouched failures_old failures_new old new before after
  HaltsRun trace serial replies certificate failures_old failures_new old new before after
      fault.Doubled = (serial ≡ false)
      × IsUntouched failures_old failures_new old new before after
  HaltsRun trace serial replies certificate failures_old failures_new old new before after
      (fault.Audit cause) = (serial ≡ false)
      × ((text : List ℕ) × FailsAudit text replies cause)
      × IsUntouched failures_old failures_new old new before after
  HaltsRun trace serial replies certificate failures_old failures_new old new before after _ = ⊥

  -- where the job came to a halt; a check writes no file
  abbrev pub Halts : Job → (failures_old failures_new : ℕ) → (old new : Option (List ℕ))
      → (before after : D) → Fault → Type 0
  Halts (Run trace serial replies certificate) failures_old failures_new old new before after stop =
      HaltsRun (bytes_of trace) serial replies (bytes_of certificate) failures_old failures_new old
      new before after stop
  Halts (Check file) failures_old failures_new old new before after stop =
      HaltsCheck (Some file.now) failures_old failures_new old new stop × (after ≡ before)

  -- no job was begun, and nothing was written; or the job that words name came to a halt
  abbrev pub IsHalted : (failures_old failures_new : ℕ) → (old new : Option (List ℕ))
      → (before after : D) → Fault → Type 0
  IsHalted failures_old failures_new old new before after stop =
      (IsOfWords stop × IsUntouched failures_old failures_new old new before after)
      ⊎ ((words : List Text) × (job : Job) × IsJobOf words job
      × Halts job failures_old failures_new old new before after stop)

module _ {S D : Type 0} (failed : S → ℕ) (taken : S → Option (List ℕ))
    (held : D → List ℕ → Option (List ℕ)) (failures : D → ℕ) where
  -- where the job came to a halt, between these states of a sink and of the files
  abbrev pub HaltsBetween : Job → (old new : S) → (before after : D) → Fault → Type 0
  HaltsBetween job old new before after stop =
      Halts held failures job (failed old) (failed new) (taken old) (taken new) before after stop
