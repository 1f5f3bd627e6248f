-- What a fault of the words says of them.
use Rattle.std.proofs.Common.{◌≡◌, ◌∙◌, Bool, true, false, true≢false, cond, List, Result, Ok, Err, IfErr, ap, inl, inr, refl, subst, sym}
use Rattle.std.specs.Prelude.{IsErrAnd}
use Rattle.clap.specs.Words.{HasKind, Text, kind_of}
use Rattle.clap.specs.declared.error.Error.{Error}
use Rattle.command_line.specs.Job.{IsFaultIn, fault_from, is_memory, kinds_of}
use Rattle.command_line.specs.declared.job.JobError.{JobError}
use Rattle.command_line.specs.declared.job.JobError.TheVariants.{OutOfMemory, Words}

kept : (words : List Text) (error : Error) → HasKind (kinds_of words) error → IsFaultIn words (fault_from error)
kept words error h = go (is_memory (kind_of error)) refl
  where
    go : (b : Bool) → is_memory (kind_of error) ≡ b → IsFaultIn words (cond b OutOfMemory (Words error))
    go true e = tt
    go false e = (e, elim h [ inl m ↦ absurd (true≢false (sym (ap is_memory m) ∙ e)) | inr k ↦ k ])

-- an error that came of a fault of the words tells it
pub refused : {A : Type 0} (words : List Text) (error : Error) (r : Result A JobError) → HasKind (kinds_of words) error → IsErrAnd r (λ fault. fault ≡ fault_from error) → IfErr r (IsFaultIn words)
refused words error (Ok x) h e = absurd e
refused words error (Err fault) h e = subst (IsFaultIn words) (sym e) (kept words error h)
