-- What the program says of a fault, and its status.
use Rattle.std.specs.Prelude.{◌≡◌, ◌+◌, ℕ, MatchBool, Bool, true, false, List, ◌++◌, Option, Some, None, option_map, codes, if◌then◌else◌, string_bytes, ⊤}
use Rattle.std.specs.declared.alloc.Global.{Global}
use Rattle.std.specs.declared.string.String.{String}
use Rattle.std.specs.Fmt.{decimal}
use Rattle.std.specs.Io.KnownBytes.{Appends}
use Rattle.std.specs.IoError.{error_kind}
use Rattle.std.specs.declared.io.Error.{Error}
use Rattle.std.specs.declared.io.ErrorKind as io_kind
use Rattle.std.specs.declared.io.ErrorKind.TheVariants as io_kinds
use Rattle.clap.specs.Words.{kind_of}
use Rattle.clap.specs.declared.error.kind.ErrorKind.{ErrorKind}
use Rattle.clap.specs.declared.error.kind.ErrorKind.TheVariants as kind
use Rattle.audit.specs.Faults as audit_causes
use Rattle.audit.specs.declared.fault.AuditCause.{AuditCause}
use Rattle.certificate.specs.Causes as certificate_causes
use Rattle.trace_text.specs.Causes.{word_of}
use Rattle.command_line.specs.declared.fault.Fault.{Fault}
use Rattle.command_line.specs.declared.fault.Fault.TheVariants as fault
use Rattle.trace_runner.specs.declared.fault.ReplayError.{ReplayError}
use Rattle.trace_runner.specs.declared.fault.ReplayError.TheVariants as replay_error
use Rattle.trace_runner.specs.declared.fault.CheckError.{CheckError}
use Rattle.trace_runner.specs.declared.fault.CheckError.TheVariants as check_error
use Rattle.command_line.specs.declared.job.JobError.{JobError}
use Rattle.command_line.specs.declared.job.JobError.TheVariants as job_error
use Rattle.command_line.specs.Naming.{name_by}
use Rattle.command_line.specs.Sentences as sentences
use Rattle.command_line.specs.declared.telling.TellError.{TellError}
use Rattle.command_line.specs.declared.telling.TellError.TheVariants as tell_error
use Rattle.thread_runner.specs.declared.error.ThreadsError.{ThreadsError}
use Rattle.thread_runner.specs.declared.error.ThreadsError.TheVariants as threads_error
use Rattle.trace_runner.specs.Sink.{AppendsFront}

-- the program's fault where a replay stopped; no file is named yet
abbrev pub fault_of_replay : ReplayError → Fault
fault_of_replay replay_error.OutOfMemory = fault.OutOfMemory
fault_of_replay (replay_error.BadTrace line c) = fault.BadTrace None line c None
fault_of_replay replay_error.SinkFailed = fault.SinkFailed

-- the program's fault where a replay by threads stopped; no file is named yet
abbrev pub fault_of_threads : ThreadsError → Fault
fault_of_threads threads_error.OutOfMemory = fault.OutOfMemory
fault_of_threads (threads_error.BadTrace line c) = fault.BadTrace None line c None
fault_of_threads threads_error.Doubled = fault.Doubled
fault_of_threads (threads_error.AuditFault c) = fault.Audit c
fault_of_threads threads_error.SinkFailed = fault.SinkFailed

-- the program's fault where a check stopped; no file is named yet
abbrev pub fault_of_check : CheckError → Fault
fault_of_check check_error.OutOfMemory = fault.OutOfMemory
fault_of_check (check_error.BadCertificate line c) = fault.BadCertificate None line c
fault_of_check check_error.SinkFailed = fault.SinkFailed

-- the program's fault where the words name no job
abbrev pub fault_of_job : JobError → Fault
fault_of_job job_error.OutOfMemory = fault.OutOfMemory
fault_of_job (job_error.Words error) = fault.Words error

-- the fault, where its text is this one, from this file; a fault that is not of a text stays as it
-- is
abbrev pub in_file : Option (String Global) → List ℕ → Fault → Fault
in_file file text (fault.BadTrace _ line c _) = fault.BadTrace file line c (name_by c text line)
in_file file text (fault.BadCertificate _ line c) = fault.BadCertificate file line c
in_file file text stop = stop

-- the system says that memory ran out
abbrev pub is_want_of_memory : io_kind.ErrorKind → Bool
is_want_of_memory io_kinds.OutOfMemory = true
is_want_of_memory _ = false

-- the program's fault where what has this name could not be read: what the system said of it, or,
-- where it says so or there is none for the name, that memory ran out
abbrev pub IsUnread : List ℕ → Error → Fault → Type 0
IsUnread name error (fault.Io file said) = (is_want_of_memory (error_kind error) ≡ false)
    × (string_bytes file ≡ name) × (said ≡ error)
IsUnread name error fault.OutOfMemory = ⊤
IsUnread name error _ = ⊥

-- help or the version was asked for
abbrev pub is_request : ErrorKind → Bool
is_request kind.DisplayHelp = true
is_request kind.DisplayVersion = true
is_request _ = false

-- the fault is that help or the version was asked for, which is none
abbrev pub asks_for_help : Fault → Bool
asks_for_help (fault.Words error) = is_request (kind_of error)
asks_for_help _ = false

-- the status with which the program ends
abbrev pub status_of : Fault → ℕ
status_of (fault.BadTrace file line c name) = 1
status_of (fault.BadCertificate file line c) = 1
status_of (fault.Words error) = if is_request (kind_of error) then 0 else 2
status_of fault.OutOfMemory = 3
status_of fault.Doubled = 4
status_of (fault.Audit c) = 4
status_of fault.SinkFailed = 5
status_of (fault.Io file error) = 5

-- the status with which the program ends if a fault was not reported
abbrev pub status_if_unreported : TellError → ℕ
status_if_unreported tell_error.OutOfMemory = 3
status_if_unreported tell_error.SinkFailed = 5

-- `line N: SAID`
abbrev pub line_message : ℕ → List ℕ → List ℕ
line_message line said = codes "line " ++ decimal line ++ codes ": " ++ said ++ codes "\n"

-- `line N: CAUSE`; if a file is named, `FILE: line N: SENTENCE` stands above it
abbrev pub text_message : Option (List ℕ) → ℕ → (sentence word : List ℕ) → List ℕ
text_message None line sentence word = line_message line word
text_message (Some file) line sentence word =
    file ++ codes ": " ++ line_message line sentence ++ line_message line word

-- `audit: CAUSE`
abbrev pub audit_message : AuditCause → List ℕ
audit_message c = codes "audit: " ++ audit_causes.word_of c ++ codes "\n"

-- `io: FILE: SAID`
abbrev pub file_message : List ℕ → List ℕ → List ℕ
file_message name said = codes "io: " ++ name ++ codes ": " ++ said ++ codes "\n"

-- the text is what is said of the fault; of a file the system has its own words; what is said of
-- words is the parser's own
abbrev pub IsMessage : Fault → List ℕ → Type 0
IsMessage (fault.BadTrace file line c name) text = text
    ≡ text_message (option_map string_bytes file) line (sentences.of_trace c name) (word_of c)
IsMessage (fault.BadCertificate file line c) text = text
    ≡ text_message (option_map string_bytes file) line (sentences.of_certificate c)
    (certificate_causes.word_of c)
IsMessage (fault.Words error) text = ⊤
IsMessage fault.OutOfMemory text = text ≡ codes "memory\n"
IsMessage fault.Doubled text = text ≡ codes "doubled\n"
IsMessage (fault.Audit c) text = text ≡ audit_message c
IsMessage fault.SinkFailed text = text ≡ codes "io: standard output\n"
IsMessage (fault.Io file error) text = (said : List ℕ)
    × (text ≡ file_message (string_bytes file) said)

-- what is said of the fault went in whole
abbrev pub TakesMessage : Fault → Option (List ℕ) → Option (List ℕ) → Type 0
TakesMessage f old new = (text : List ℕ) × IsMessage f text × Appends old new text

-- a prefix of what is said of it went in
abbrev pub TakesFront : Fault → Option (List ℕ) → Option (List ℕ) → Type 0
TakesFront f old new = (text : List ℕ) × IsMessage f text × AppendsFront old new text

-- what is said of it went in, whole, at the first sink where help or the version was asked for, and
-- else at the second
abbrev pub TellsMessage : Fault → (out_old out_new err_old err_new : Option (List ℕ)) → Type 0
TellsMessage f out_old out_new err_old err_new =
    MatchBool (asks_for_help f) (TakesMessage f out_old out_new) (TakesMessage f err_old err_new)

-- a prefix of it went in, at the same sink
abbrev pub TellsFront : Fault → (out_old out_new err_old err_new : Option (List ℕ)) → Type 0
TellsFront f out_old out_new err_old err_new =
    MatchBool (asks_for_help f) (TakesFront f out_old out_new) (TakesFront f err_old err_new)

-- that sink failed once more
abbrev pub FailsOnce : Fault → (out_old out_new err_old err_new : ℕ) → Type 0
FailsOnce f out_old out_new err_old err_new =
    MatchBool (asks_for_help f) (out_new ≡ out_old + 1) (err_new ≡ err_old + 1)
