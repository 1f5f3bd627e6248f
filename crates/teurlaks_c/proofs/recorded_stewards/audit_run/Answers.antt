use mathlib.Core.Logic.{inl, inr}
use Rattle.std.proofs.Common.{map, refl, subst}
use Rattle.span.specs.ReceiptLists.{kept_receipts}
use Rattle.audit.specs.Agreement.{Agreement}
use Rattle.audit.specs.Faults.{IsAuditError}
use Rattle.audit.specs.History.{HaveHistories}
use Rattle.teurlaks_c.proofs.recorded_stewards.audit_run.Goals as goal

pub returns-in-Ok : goal.returns-in-Ok
returns-in-Ok c =
    let logs = c.as_slice.ensures.value in
    let lists = c.as_slice-2.ensures.value in
    inl (
      refl,
      subst (λ lists. Agreement c.args.run.now.logs.items (map kept_receipts lists)) lists
          (subst (λ logs. Agreement logs (map kept_receipts c.as_slice-2.result.now)) logs c.in-Ok.ensures.agreed),
      subst (λ lists. HaveHistories (map kept_receipts lists)) lists c.in-Ok.ensures.histories,
    )

pub returns-in-Err-Fault : goal.returns-in-Err-Fault
returns-in-Err-Fault c =
    let fault = c.in-Err-Fault in
    let run = c.args.run.now in
    inr (inl (
      fault.cause,
      c.cause_status_of.ensures,
      subst (IsAuditError run.logs.items (map kept_receipts run.lists.items)) fault.field-0-is
          (subst (λ lists. IsAuditError run.logs.items (map kept_receipts lists) fault.field-0) c.as_slice-2.ensures.value
          (subst (λ logs. IsAuditError logs (map kept_receipts c.as_slice-2.result.now) fault.field-0) c.as_slice.ensures.value fault.ensures.err)),
    ))
