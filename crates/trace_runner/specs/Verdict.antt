-- What a check of a certificate writes.
use Rattle.std.specs.Prelude.{◌≡◌, ◌+◌, ◌++◌, ◌↔◌, IsTrue, ℕ, Bool, true, false, List, length, Option, Ok, Err, codes}
use Rattle.std.specs.Fmt.{decimal}
use Rattle.std.specs.Io.KnownBytes.{Appends}
use Rattle.certificate.specs.Grammar.{certificate_in, outline_of}
use Rattle.certificate.specs.Plans.{IsBestPlanOf, IsCertificateOf, partners_of}
use Rattle.certificate.specs.declared.certificate.Certificate.{Certificate}
use Rattle.certificate.specs.declared.text.cause.ReadError.TheVariants as read_error
use Rattle.trace_runner.specs.Sink.{AppendsFront}
use Rattle.trace_runner.specs.declared.fault.CheckError.{CheckError}
use Rattle.trace_runner.specs.declared.fault.CheckError.TheVariants.{OutOfMemory, BadCertificate, SinkFailed}

-- `accepted folds F short K partners Q`, or `rejected`
abbrev pub verdict_line : Certificate → Bool → List ℕ
verdict_line c true = codes "accepted folds " ++ decimal (length c.plan) ++ codes " short "
    ++ decimal (length c.short) ++ codes " partners "
    ++ decimal (length (partners_of c.snapshot c.short)) ++ codes "\n"
verdict_line c false = codes "rejected\n"

-- the text says this certificate, and it is accepted exactly where it shows that no plan has more
-- pairs, which is then so
pub record IsVerdictOn (text : List ℕ) (c : Certificate) (accepted : Bool) : Type 0 where
  pub said : certificate_in text ≡ Ok (outline_of c)
  pub exact : IsTrue accepted ↔ IsCertificateOf c.snapshot c.plan c.short
  pub best : IsTrue accepted → IsBestPlanOf c.snapshot c.plan

-- what was taken more than before is the line of the verdict on the text's certificate, whole
abbrev pub WritesVerdict : List ℕ → Option (List ℕ) → Option (List ℕ) → Bool → Type 0
WritesVerdict text old new accepted = (c : Certificate) × IsVerdictOn text c accepted
    × Appends old new (verdict_line c accepted)

-- a prefix of that line was taken
abbrev pub WritesVerdictFront : List ℕ → Option (List ℕ) → Option (List ℕ) → Type 0
WritesVerdictFront text old new = (c : Certificate) × (accepted : Bool)
    × IsVerdictOn text c accepted × AppendsFront old new (verdict_line c accepted)

-- where a check stopped: where an allocation was refused, or at the first line at fault of a text
-- that is no certificate, with nothing taken; or at a sink that failed, once, with a prefix of the
-- line taken
abbrev pub StopsCheck : List ℕ → (failures_old failures_new : ℕ) → (old new : Option (List ℕ))
    → CheckError → Type 0
StopsCheck text failures_old failures_new old new OutOfMemory = (failures_new ≡ failures_old)
    × (new ≡ old)
StopsCheck text failures_old failures_new old new (BadCertificate line cause) =
    (certificate_in text ≡ Err (read_error.BadCertificate line cause))
    × (failures_new ≡ failures_old) × (new ≡ old)
StopsCheck text failures_old failures_new old new SinkFailed = (failures_new ≡ failures_old + 1)
    × WritesVerdictFront text old new
