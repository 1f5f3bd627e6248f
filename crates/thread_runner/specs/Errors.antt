-- What a refusal of a part becomes.
use Rattle.trace_text.specs.declared.cause.ParseError.{ParseError}
use Rattle.trace_text.specs.declared.cause.ParseError.TheVariants as parse_error
use Rattle.thread_runner.specs.declared.error.Halt.{Halt}
use Rattle.thread_runner.specs.declared.error.Halt.TheVariants as halts
use Rattle.thread_runner.specs.declared.error.ThreadsError.{ThreadsError}
use Rattle.thread_runner.specs.declared.error.ThreadsError.TheVariants as threads_error

-- where a run came to no end, the replay stops
abbrev pub error_of_halt : Halt → ThreadsError
error_of_halt halts.OutOfMemory = threads_error.OutOfMemory
error_of_halt halts.Doubled = threads_error.Doubled

-- where a text is no trace, the replay stops
abbrev pub stop_of_parse : ParseError → ThreadsError
stop_of_parse parse_error.OutOfMemory = threads_error.OutOfMemory
stop_of_parse (parse_error.BadTrace line c) = threads_error.BadTrace line c
