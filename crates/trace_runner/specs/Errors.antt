-- What a refusal of a part becomes.
use Rattle.certificate.specs.declared.text.cause.ReadError.{ReadError}
use Rattle.certificate.specs.declared.text.cause.ReadError.TheVariants as read_error
use Rattle.trace_text.specs.declared.cause.ParseError.{ParseError}
use Rattle.trace_text.specs.declared.cause.ParseError.TheVariants as parse_error
use Rattle.trace_runner.specs.declared.fault.ReplayError.{ReplayError}
use Rattle.trace_runner.specs.declared.fault.ReplayError.TheVariants as replay_error
use Rattle.trace_runner.specs.declared.fault.CheckError.{CheckError}
use Rattle.trace_runner.specs.declared.fault.CheckError.TheVariants as check_error

-- where a text is no trace, the replay stops
abbrev pub stop_of_parse : ParseError → ReplayError
stop_of_parse parse_error.OutOfMemory = replay_error.OutOfMemory
stop_of_parse (parse_error.BadTrace line c) = replay_error.BadTrace line c

-- where a text is no certificate, the check stops
abbrev pub stop_of_read : ReadError → CheckError
stop_of_read read_error.OutOfMemory = check_error.OutOfMemory
stop_of_read (read_error.BadCertificate line c) = check_error.BadCertificate line c
