-- What is said to people of the causes for which a line is at fault.
use Rattle.std.specs.Prelude.{ℕ, List, ◌++◌, Option, Some, codes}
use Rattle.arrayvec.specs.ArrayVec.{ArrayVec}
use Rattle.certificate.specs.declared.text.cause.Cause.{Cause as CertificateCause}
use Rattle.certificate.specs.declared.text.cause.Cause.TheVariants as certificate
use Rattle.trace_text.specs.declared.cause.Cause.{Cause}
use Rattle.trace_text.specs.declared.cause.Cause.TheVariants as trace

-- of a line of a trace, where no name is known
abbrev pub of_cause : Cause → List ℕ
of_cause trace.Header = codes "this line of the header is missing or malformed"
of_cause trace.Form = codes "the line has none of the forms of its version"
of_cause trace.Limit = codes "a number is out of range"
of_cause trace.Thread = codes "the header has no thread or shard of that number"
of_cause trace.Ended = codes "the thread ended before and has not begun again"
of_cause trace.Adopt = codes "no mark follows the adoption above"
of_cause trace.Bound = codes "the name was bound before"
of_cause trace.Unknown = codes "no earlier line bound the name to such keys"
of_cause trace.Early = codes "a mark must come before this line"

-- of a line of a trace, with the name that it is about, where that is known
abbrev pub of_trace : Cause → Option (ArrayVec ℕ) → List ℕ
of_trace trace.Bound (Some name) = codes "the name " ++ name.items ++ codes " was bound before"
of_trace trace.Unknown (Some name) =
    codes "no earlier line bound the name " ++ name.items ++ codes " to such keys"
of_trace c name = of_cause c

-- of a line of a certificate
abbrev pub of_certificate : CertificateCause → List ℕ
of_certificate certificate.Cut = codes "the text ends before the end of this line"
of_certificate certificate.Form = codes "the line is malformed"
of_certificate certificate.Limit = codes "a number is out of range"
of_certificate certificate.Set = codes "the set is malformed or has a slot that its class lacks"
of_certificate certificate.Order = codes "the id is not above the one before it"
of_certificate certificate.Version = codes "no serial and no class needs version 3"
of_certificate certificate.Tail = codes "bytes follow the last line"
