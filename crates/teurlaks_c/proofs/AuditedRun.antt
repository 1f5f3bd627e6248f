-- A recorded arena that ends, and its audit.
use mathlib.Core.Logic.{inl, inr}
use Rattle.std.proofs.Common.{◌≡◌, ◌∙◌, ℕ, ap, subst, sym}
use Rattle.std.specs.Prelude.{Result, Ok, Err, Some}
use Rattle.teurlaks_c.specs.declared.recorded.RecordedRun.{RecordedRun}
use Rattle.teurlaks_c.specs.declared.recorded.RecordedSteward.{RecordedSteward as Recorder}
use Rattle.teurlaks_c.specs.declared.share.Share.{Share}
use Rattle.teurlaks_c.specs.declared.share.Share.TheVariants.{RecordedSteward, Run}
use Rattle.teurlaks_c.specs.Audits.{AuditsRun, Ends, EndsRun, Holds, SaysAuditedShare}

-- the handle holds what the arena leaves, or its steward where that goes on
pub held : (old now new : Share) (steward after : Recorder) (ended : Result RecordedRun ℕ) (answer : Result (Unit {0}) ℕ) → old ≡ RecordedSteward steward
    → now ≡ RecordedSteward after → Ends steward ended after → Holds now ended answer new → EndsRun old answer new
held old now new steward after (Ok run) (Ok u) is is_now ends holds =
    subst (λ s. EndsRun s (Ok u) new) (sym is) (run, holds.1, ends)
held old now new steward after (Ok run) (Err e) is is_now ends (wrong, same) = absurd cc
held old now new steward after (Err says) answer is is_now ends holds =
    subst (λ s. EndsRun s answer new) (sym is)
    (subst (λ a. EndsRun (RecordedSteward steward) a new) (sym holds.0) (after, holds.1 ∙ is_now, ends))

-- a run that there is, is audited
pub audited : (old new : Share) (u : Unit {0}) (says : ℕ) → EndsRun old (Ok u) new → SaysAuditedShare new says → AuditsRun (Some old) says (Some new)
audited (RecordedSteward old) new u says ended said =
    inl (ended.0, ap Some ended.1, ended.2, subst (λ share. SaysAuditedShare share says) ended.1 said)
audited (Run old) new u says ended said = (ap Some ended.1, subst (λ share. SaysAuditedShare share says) ended.1 said)
audited old new u says ended said = absurd ended

-- where there is none, the arena goes on
pub goes_on : (old new : Share) (says : ℕ) → EndsRun old (Err says) new → AuditsRun (Some old) says (Some new)
goes_on (RecordedSteward old) new says ended = inr (ended.0, ap Some ended.1, ended.2)
goes_on (Run old) new says (wrong, same) = absurd cc
goes_on old new says ended = (ended.0, ap Some ended.1)
